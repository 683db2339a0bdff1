-- Searches of the cells of a table.
--     range_step             a range of numbers by its first
--     find_past    what is found in a range, by its first
--     marked_end, marked_past, marked_here     what is marked among cells, by the first of them
--     free_exists                       where fewer cells are used than there are, one is free
use Rattle.std.proofs.Common.{◌≡◌, ◌≢◌, ℕ, suc, zero, ◌+◌, ◌-◌, ◌<◌, ◌≤◌, Bool, true, false, cond, List, [], ◌∷◌, ◌++◌, length, slice_index, nat_lt, nat_eq, ◌==◌, Some, None, refl, sym, ap, ◌∙◌, arith, count_by}
use Rattle.std.specs.Option.{option_or}
use Rattle.std.specs.List.{find, filter, take_while, range_with_len}
use Rattle.std.proofs.lemmas.Bool.{ltb-true, ltb-false, le-leb, eqb-true, eqb-false, eq-eqb}
use Rattle.std.proofs.lemmas.List.Sums.{take_while-cons, sum_by-cons}
use Rattle.std.proofs.lemmas.List.Folds.{find-append}
use Rattle.key_index.specs.Table.{is_used, marked}

pub range_step : (i n : ℕ) → i < n → range_with_len i (n - i) ≡ i ∷ range_with_len (i + 1) (n - (i + 1))
range_step i n h =
    let e : n - i ≡ suc (n - (i + 1)) = omega arith in
    ap (range_with_len i) e

pub find_past : (q : ℕ → Bool) (i n : ℕ) → i < n → q i ≡ false → find q (range_with_len (i + 1) (n - (i + 1))) ≡ find q (range_with_len i (n - i))
find_past q i n h t =
    sym (ap (find q) (range_step i n h) ∙ ap (λ b. cond b (Some i) (find q (range_with_len (i + 1) (n - (i + 1))))) t)

module _ (cs : List ℕ) (c : ℕ) where
  marked_by : (x : ℕ) (xs : List ℕ) → marked cs c (x ∷ xs) ≡ filter (λ i. slice_index cs i == c) (cond (is_used (slice_index cs x)) (x ∷ take_while (λ i. is_used (slice_index cs i)) xs) [])
  marked_by x xs = ap (filter (λ i. slice_index cs i == c)) (take_while-cons (λ i. is_used (slice_index cs i)) x xs)

  pub marked_end : (x : ℕ) (xs : List ℕ) → slice_index cs x ≡ 0 → marked cs c (x ∷ xs) ≡ []
  marked_end x xs e =
      marked_by x xs ∙ ap (λ v. filter (λ i. slice_index cs i == c) (cond (is_used v) (x ∷ take_while (λ i. is_used (slice_index cs i)) xs) [])) e

  marked_used : (x : ℕ) (xs : List ℕ) → slice_index cs x ≢ 0 → marked cs c (x ∷ xs) ≡ cond (slice_index cs x == c) (x ∷ marked cs c xs) (marked cs c xs)
  marked_used x xs n =
      marked_by x xs ∙ ap (λ b. filter (λ i. slice_index cs i == c) (cond b (x ∷ take_while (λ i. is_used (slice_index cs i)) xs) [])) (le-leb 1 (slice_index cs x) (omega arith))

  pub marked_here : (x : ℕ) (xs : List ℕ) → slice_index cs x ≢ 0 → slice_index cs x ≡ c → marked cs c (x ∷ xs) ≡ x ∷ marked cs c xs
  marked_here x xs n e = marked_used x xs n ∙ ap (λ b. cond b (x ∷ marked cs c xs) (marked cs c xs)) (eq-eqb _ _ e)

  pub marked_past : (x : ℕ) (xs : List ℕ) → slice_index cs x ≢ 0 → slice_index cs x ≢ c → marked cs c (x ∷ xs) ≡ marked cs c xs
  marked_past x xs n e =
      marked_used x xs n ∙ elim (slice_index cs x == c) as (λ b. slice_index cs x == c ≡ b → cond b (x ∷ marked cs c xs) (marked cs c xs) ≡ marked cs c xs) [
        | true ↦ λ t. absurd (e (eqb-true _ _ t))
        | false ↦ λ _. refl
      ] refl

some_is_none : (a : ℕ) → Some a ≡ None → ⊥
some_is_none a e = cc

pub find-append_found : (q : ℕ → Bool) (xs ys : List ℕ) (x : ℕ) → find q xs ≡ Some x → find q (xs ++ ys) ≡ Some x
find-append_found q xs ys x e = find-append q xs ys ∙ ap (λ o. option_or o (find q ys)) e

pub found_second : (q : ℕ → Bool) (xs ys : List ℕ) → find q xs ≡ None → find q (xs ++ ys) ≡ find q ys
found_second q xs ys e = find-append q xs ys ∙ ap (λ o. option_or o (find q ys)) e

-- where none is found, none passes
pub find_none : (q : ℕ → Bool) (a n i : ℕ) → find q (range_with_len a n) ≡ None → a ≤ i → i < a + n → q i ≡ false
find_none q a zero i e le lt = absurd (omega arith)
find_none q a (suc n) i e le lt =
    elim (q a) as (λ b. q a ≡ b → cond b (Some a) (find q (range_with_len (a + 1) n)) ≡ None → q i ≡ false) [
      | true ↦ λ _ f. absurd (some_is_none a f)
      | false ↦ λ t f. elim (nat_eq i a) as (λ b. nat_eq i a ≡ b → q i ≡ false) [
        | true ↦ λ s. ap q (eqb-true _ _ s) ∙ t
        | false ↦ λ s. let apart : i ≢ a = eqb-false _ _ s in find_none q (a + 1) n i f (omega arith) (omega arith)
      ] refl
    ] refl e

-- where each is used, all are
all_used : (cs : List ℕ) → ((i : ℕ) → i < length cs → 2 ≤ slice_index cs i) → count_by is_used cs ≡ length cs
all_used [] h = refl
all_used (c ∷ cs) h =
    let first : 2 ≤ c = h 0 (omega arith) in
    let rest = all_used cs (λ i b. h (suc i) (omega arith)) in
    let one : cond {A = ℕ} (is_used c) 1 0 ≡ 1 = ap (λ b. cond {A = ℕ} b 1 0) (le-leb 1 c (omega arith)) in
    omega (arith, rest, one, sum_by-cons (λ x. cond {A = ℕ} (is_used x) 1 0) c cs)

pub free_exists : (cs : List ℕ) (s : ℕ) → s < length cs → count_by is_used cs < length cs
    → find (λ i. nat_lt (slice_index cs i) 2) (range_with_len s (length cs - s)) ≡ None
    → find (λ i. nat_lt (slice_index cs i) 2) (range_with_len 0 (s - 0)) ≡ None → ⊥
free_exists cs s within room tail head =
    let full : (i : ℕ) → i < length cs → 2 ≤ slice_index cs i = λ i b.
    elim (nat_lt i s) as (λ t. nat_lt i s ≡ t → 2 ≤ slice_index cs i) [
      | true ↦ λ t. let below : i < s = ltb-true _ _ t in
          ltb-false _ _ (find_none (λ j. nat_lt (slice_index cs j) 2) 0 (s - 0) i head (omega arith) (omega arith))
      | false ↦ λ t. let above : s ≤ i = ltb-false _ _ t in
          ltb-false _ _ (find_none (λ j. nat_lt (slice_index cs j) 2) s (length cs - s) i tail (omega arith) (omega arith))
    ] refl in
    let all = all_used cs full in omega arith
