-- The maps that the cells of a table file.
--     Contains-head, Contains-tail, Contains_cases     an element of a list, by its first
--     Contains-map                  what a function makes of an element
--     marked_is, marked_among       a cell among those marked has their mark, and was searched
--     marked_kept                   a cell is found again after changes that empty none
--     marked_put                    the first free cell is found, once it is marked
--     distinct_map                  what a function makes of distinct elements is distinct, where it keeps them apart
use Rattle.std.proofs.Common.{◌≡◌, ◌≢◌, ◌⊎◌, ℕ, suc, zero, ◌+◌, ◌-◌, ◌<◌, ◌≤◌, Bool, true, false, cond, List, [], ◌∷◌, ◌++◌, length, get_or, slice_index, slice_set, nat_lt, nat_eq, ◌==◌, map, Option, Some, None, is_some, IsSome, ◌↔◌, refl, sym, ap, subst, ◌∙◌, inl, inr, arith, count_by, get_or-set_same, get_or-set_other}
use Rattle.std.specs.List.{find, range_with_len, Contains, IsDistinct, All, AllByRecursion}
use Rattle.std.proofs.lemmas.Bool.{ltb-false, le-leb, eqb-true, eqb-false, eq-eqb, ne_eqb}
use Rattle.std.proofs.lemmas.List.Elements.{Contains-append_cases, Contains-get_or}
use Rattle.std.proofs.lemmas.List.Sums.{sum_by-set, sum_by-cons}
use Rattle.std.proofs.lemmas.List.{length-set}
use Rattle.key_index.specs.Table.{is_used, is_full, marked, from_cell, places, home, control_of, fingerprint, with_hash, without, Files, AreCandidates}
use Rattle.key_index.proofs.tables.TableLemmas.{marked_end, marked_here, marked_past}
use Rattle.key_index_flat.proofs.entries.EntryLemmas.{some_not_none}

some_same : {a b : ℕ} → Some a ≡ Some b → a ≡ b
some_same e = cc

none_is_some : IsSome {T = ℕ} None → ⊥
none_is_some e = absurd (cc)

module _ {X : Type 0} where
  pub Contains-head : (x : X) (xs : List X) → Contains (x ∷ xs) x
  Contains-head x xs = (0, omega arith, refl)

  pub Contains-tail : (x : X) (xs : List X) (y : X) → Contains xs y → Contains (x ∷ xs) y
  Contains-tail x xs y (k, b, e) = (suc k, omega arith, e)

  pub Contains_cases : (x : X) (xs : List X) (y : X) → Contains (x ∷ xs) y → (x ≡ y) ⊎ Contains xs y
  Contains_cases x xs y (zero, b, e) = inl e
  Contains_cases x xs y (suc k, b, e) = inr (k, omega arith, e)

  pub Contains_none : (y : X) → Contains [] y → ⊥
  Contains_none y (k, b, e) = omega arith

pub Contains-map : (f : ℕ → ℕ) (xs : List ℕ) (x y : ℕ) → f x ≡ y → Contains xs x → Contains (map f xs) y
Contains-map f [] x y e h = absurd (Contains_none x h)
Contains-map f (z ∷ xs) x y e h =
    elim (Contains_cases z xs x h) [
      | inl s ↦ subst (λ v. Contains (f z ∷ map f xs) v) (ap f s ∙ e) (Contains-head (f z) (map f xs))
      | inr t ↦ Contains-tail (f z) (map f xs) y (Contains-map f xs x y e t)
    ]

pub Contains-from_map : (f : ℕ → ℕ) (xs : List ℕ) (y : ℕ) → Contains (map f xs) y → (x : ℕ) × (f x ≡ y) × Contains xs x
Contains-from_map f [] y h = absurd (Contains_none y h)
Contains-from_map f (z ∷ xs) y h =
    elim (Contains_cases (f z) (map f xs) y h) [
      | inl s ↦ (z, s, Contains-head z xs)
      | inr t ↦ let r = Contains-from_map f xs y t in (r.0, r.1, Contains-tail z xs r.0 r.2)
    ]

-- of a cell: it is empty, or has a mark, or another one
zero_or_same_or_other : (v c : ℕ) → (v ≡ 0) ⊎ (((v ≢ 0) × (v ≡ c)) ⊎ ((v ≢ 0) × (v ≢ c)))
zero_or_same_or_other zero c = inl refl
zero_or_same_or_other (suc v) c =
    let used : suc v ≢ 0 = omega arith in
    elim (nat_eq (suc v) c) as (λ b. nat_eq (suc v) c ≡ b → (suc v ≡ 0) ⊎ (((suc v ≢ 0) × (suc v ≡ c)) ⊎ ((suc v ≢ 0) × (suc v ≢ c)))) [
      | true ↦ λ t. inr (inl (used, eqb-true _ _ t))
      | false ↦ λ t. inr (inr (used, eqb-false _ _ t))
    ] refl

pub marked_is : (cs : List ℕ) (c : ℕ) (cells : List ℕ) (i : ℕ) → Contains (marked cs c cells) i → (slice_index cs i ≡ c) × Contains cells i
marked_is cs c [] i h = absurd (Contains_none i h)
marked_is cs c (x ∷ xs) i h =
    elim (zero_or_same_or_other (slice_index cs x) c) [
      | inl e ↦ absurd (Contains_none i (subst (λ l. Contains l i) (marked_end cs c x xs e) h))
      | inr (inl (u, e)) ↦ elim (Contains_cases x (marked cs c xs) i (subst (λ l. Contains l i) (marked_here cs c x xs u e) h)) [
        | inl s ↦ (ap (slice_index cs) (sym s) ∙ e, subst (Contains (x ∷ xs)) s (Contains-head x xs))
        | inr t ↦ let r = marked_is cs c xs i t in (r.0, Contains-tail x xs i r.1)
      ]
      | inr (inr (u, n)) ↦ let r = marked_is cs c xs i (subst (λ l. Contains l i) (marked_past cs c x xs u n) h) in (r.0, Contains-tail x xs i r.1)
    ]

-- what is marked behind a used cell is marked from it on
marked_behind : (cs : List ℕ) (c x : ℕ) (xs : List ℕ) (i : ℕ) → slice_index cs x ≢ 0 → Contains (marked cs c xs) i → Contains (marked cs c (x ∷ xs)) i
marked_behind cs c x xs i u h =
    elim (zero_or_same_or_other (slice_index cs x) c) [
      | inl e ↦ absurd (u e)
      | inr (inl (_, e)) ↦ subst (λ l. Contains l i) (sym (marked_here cs c x xs u e)) (Contains-tail x (marked cs c xs) i h)
      | inr (inr (_, n)) ↦ subst (λ l. Contains l i) (sym (marked_past cs c x xs u n)) h
    ]

Contains-marked_head : (cs : List ℕ) (c x : ℕ) (xs : List ℕ) (i : ℕ) → c ≢ 0 → slice_index cs i ≡ c → x ≡ i → Contains (marked cs c (x ∷ xs)) i
Contains-marked_head cs c x xs i n e s =
    let at : slice_index cs x ≡ c = ap (slice_index cs) s ∙ e in
    let used : slice_index cs x ≢ 0 = λ z. n (sym at ∙ z) in
    subst (λ l. Contains l i) (sym (marked_here cs c x xs used at)) (subst (Contains (x ∷ marked cs c xs)) s (Contains-head x (marked cs c xs)))

pub marked_kept : (cs ds : List ℕ) (c : ℕ) (cells : List ℕ) (i : ℕ) → c ≢ 0
    → ((x : ℕ) → slice_index cs x ≢ 0 → slice_index ds x ≢ 0) → slice_index ds i ≡ c → Contains (marked cs c cells) i → Contains (marked ds c cells) i
marked_kept cs ds c [] i n k e h = absurd (Contains_none i h)
marked_kept cs ds c (x ∷ xs) i n k e h =
    elim (zero_or_same_or_other (slice_index cs x) c) [
      | inl z ↦ absurd (Contains_none i (subst (λ l. Contains l i) (marked_end cs c x xs z) h))
      | inr (inl (u, s)) ↦ elim (Contains_cases x (marked cs c xs) i (subst (λ l. Contains l i) (marked_here cs c x xs u s) h)) [
        | inl s ↦ Contains-marked_head ds c x xs i n e s
        | inr t ↦ marked_behind ds c x xs i (k x u) (marked_kept cs ds c xs i n k e t)
      ]
      | inr (inr (u, s)) ↦ marked_behind ds c x xs i (k x u) (marked_kept cs ds c xs i n k e (subst (λ l. Contains l i) (marked_past cs c x xs u s) h))
    ]

pub marked_put : (cs ds : List ℕ) (c : ℕ) (cells : List ℕ) (i : ℕ) → c ≢ 0
    → ((x : ℕ) → 2 ≤ slice_index cs x → slice_index ds x ≢ 0) → slice_index ds i ≡ c
    → find (λ x. nat_lt (slice_index cs x) 2) cells ≡ Some i → Contains (marked ds c cells) i
marked_put cs ds c [] i n k e f = absurd (cc)
marked_put cs ds c (x ∷ xs) i n k e f =
    elim (nat_lt (slice_index cs x) 2) as (λ b. nat_lt (slice_index cs x) 2 ≡ b → cond b (Some x) (find (λ x. nat_lt (slice_index cs x) 2) xs) ≡ Some i → Contains (marked ds c (x ∷ xs)) i) [
      | true ↦ λ _ g. Contains-marked_head ds c x xs i n e (cc)
      | false ↦ λ t g. marked_behind ds c x xs i (k x (ltb-false _ _ t)) (marked_put cs ds c xs i n k e g)
    ] refl f

-- ---- the counts of full and of used cells

in_bounds : (cs : List ℕ) (i : ℕ) → 1 ≤ slice_index cs i → i < length cs
in_bounds [] zero h = absurd (omega arith)
in_bounds [] (suc i) h = absurd (omega arith)
in_bounds (c ∷ cs) zero h = omega arith
in_bounds (c ∷ cs) (suc i) h = let r = in_bounds cs i h in omega (arith, r)

pub full_within : (cs : List ℕ) (i : ℕ) → 2 ≤ slice_index cs i → i < length cs
full_within cs i h = in_bounds cs i (omega arith)

is_full_yes : (v : ℕ) → 2 ≤ v → cond {A = ℕ} (is_full v) 1 0 ≡ 1
is_full_yes v h = ap (λ b. cond {A = ℕ} b 1 0) (le-leb 2 v h)

is_full_no : (v : ℕ) → v < 2 → cond {A = ℕ} (is_full v) 1 0 ≡ 0
is_full_no zero h = refl
is_full_no (suc zero) h = refl
is_full_no (suc (suc v)) h = absurd (omega arith)

pub no_full : (v : ℕ) → v < 2 → is_full v ≡ false
no_full zero h = refl
no_full (suc zero) h = refl
no_full (suc (suc v)) h = absurd (omega arith)

is_used_yes : (v : ℕ) → v ≢ 0 → cond {A = ℕ} (is_used v) 1 0 ≡ 1
is_used_yes v h = ap (λ b. cond {A = ℕ} b 1 0) (le-leb 1 v (omega arith))

is_used_no : (v : ℕ) → v ≡ 0 → cond {A = ℕ} (is_used v) 1 0 ≡ 0
is_used_no v e = ap (λ x. cond {A = ℕ} (is_used x) 1 0) e

one_full : (v : ℕ) → cond {A = ℕ} (is_full v) 1 0 ≤ cond {A = ℕ} (is_used v) 1 0
one_full zero = omega arith
one_full (suc v) =
    let used = is_used_yes (suc v) (omega arith) in
    elim (is_full (suc v)) as (λ b. cond {A = ℕ} b 1 0 ≤ cond {A = ℕ} (is_used (suc v)) 1 0) [
      | true ↦ omega (arith, used)
      | false ↦ omega arith
    ]

pub full_le_used : (cs : List ℕ) → count_by is_full cs ≤ count_by is_used cs
full_le_used [] = omega arith
full_le_used (c ∷ cs) =
    omega (arith, full_le_used cs, one_full c, sum_by-cons (λ x. cond {A = ℕ} (is_full x) 1 0) c cs, sum_by-cons (λ x. cond {A = ℕ} (is_used x) 1 0) c cs)

pub full-put : (cs : List ℕ) (i c : ℕ) → i < length cs → slice_index cs i < 2 → 2 ≤ c → count_by is_full (slice_set cs i c) ≡ count_by is_full cs + 1
full-put cs i c b f g = omega (arith, sum_by-set (λ x. cond {A = ℕ} (is_full x) 1 0) cs i c 0 b, is_full_no (slice_index cs i) f, is_full_yes c g)

pub used-put_empty : (cs : List ℕ) (i c : ℕ) → i < length cs → slice_index cs i ≡ 0 → c ≢ 0 → count_by is_used (slice_set cs i c) ≡ count_by is_used cs + 1
used-put_empty cs i c b f g = omega (arith, sum_by-set (λ x. cond {A = ℕ} (is_used x) 1 0) cs i c 0 b, is_used_no (slice_index cs i) f, is_used_yes c g)

pub used-put_used : (cs : List ℕ) (i c : ℕ) → i < length cs → slice_index cs i ≢ 0 → c ≢ 0 → count_by is_used (slice_set cs i c) ≡ count_by is_used cs
used-put_used cs i c b f g = omega (arith, sum_by-set (λ x. cond {A = ℕ} (is_used x) 1 0) cs i c 0 b, is_used_yes (slice_index cs i) f, is_used_yes c g)

pub full-removed : (cs : List ℕ) (i : ℕ) → 2 ≤ slice_index cs i → count_by is_full (slice_set cs i 1) + 1 ≡ count_by is_full cs
full-removed cs i f = omega (arith, sum_by-set (λ x. cond {A = ℕ} (is_full x) 1 0) cs i 1 0 (full_within cs i f), is_full_yes (slice_index cs i) f)

-- ---- what a search finds

pub All-from_contains : (P : ℕ → Type 0) (xs : List ℕ) → ((x : ℕ) → Contains xs x → P x) → All P xs
All-from_contains P xs f k d b = f (get_or xs k d) (Contains-get_or xs k d b)

pub places_is : (cs : List ℕ) (h i : ℕ) → Contains (places cs h) i → slice_index cs i ≡ control_of h
places_is cs h i at = (marked_is cs (control_of h) (from_cell (length cs) (home (length cs) h)) i at).0

pub places_full : (cs : List ℕ) (h i : ℕ) → Contains (places cs h) i → 2 ≤ slice_index cs i
places_full cs h i at = let e = places_is cs h i at in omega (arith, e)

pub places_within : (cs : List ℕ) (h n : ℕ) → n ≡ length cs → All (λ i. i < n) (places cs h)
places_within cs h n e =
    All-from_contains (λ i. i < n) (places cs h) (λ i at. let b = full_within cs i (places_full cs h i at) in omega arith)

pub find_passes : (q : ℕ → Bool) (xs : List ℕ) (i : ℕ) → find q xs ≡ Some i → q i ≡ true
find_passes q [] i e = absurd (cc)
find_passes q (x ∷ xs) i e =
    elim (q x) as (λ b. q x ≡ b → cond b (Some x) (find q xs) ≡ Some i → q i ≡ true) [
      | true ↦ λ t g. let s : x ≡ i = cc in ap q (sym s) ∙ t
      | false ↦ λ _ g. find_passes q xs i g
    ] refl e

pub find_is : (f : ℕ → ℕ) (p : ℕ) (xs : List ℕ) (i : ℕ) → find (λ x. f x == p) xs ≡ Some i → (f i ≡ p) × Contains xs i
find_is f p [] i e = absurd (cc)
find_is f p (x ∷ xs) i e =
    elim (f x == p) as (λ b. f x == p ≡ b → cond b (Some x) (find (λ x. f x == p) xs) ≡ Some i → (f i ≡ p) × Contains (x ∷ xs) i) [
      | true ↦ λ t g. let s : x ≡ i = cc in (ap f (sym s) ∙ eqb-true _ _ t, subst (Contains (x ∷ xs)) s (Contains-head x xs))
      | false ↦ λ _ g. let r = find_is f p xs i g in (r.0, Contains-tail x xs i r.1)
    ] refl e

pub find_nothing : (f : ℕ → ℕ) (p : ℕ) (xs : List ℕ) → find (λ x. f x == p) xs ≡ None → Contains (map f xs) p → ⊥
find_nothing f p [] e h = Contains_none p h
find_nothing f p (x ∷ xs) e h =
    elim (f x == p) as (λ b. f x == p ≡ b → cond b (Some x) (find (λ x. f x == p) xs) ≡ None → ⊥) [
      | true ↦ λ _ g. absurd (cc)
      | false ↦ λ t g. elim (Contains_cases (f x) (map f xs) p h) [
        | inl s ↦ eqb-false _ _ t s
        | inr r ↦ find_nothing f p xs g r
      ]
    ] refl e

pub find_beyond : (f : ℕ → ℕ) (p x : ℕ) (xs : List ℕ) → (f x ≡ p → ⊥) → find (λ y. f y == p) (x ∷ xs) ≡ find (λ y. f y == p) xs
find_beyond f p x xs n = ap (λ b. cond b (Some x) (find (λ y. f y == p) xs)) (ne_eqb (f x) p n)

-- whether a search that stops at a position finds it is whether the position is among all that are found
pub find_contains : (f : ℕ → ℕ) (p : ℕ) (xs : List ℕ) (o : Option ℕ) → o ≡ find (λ x. f x == p) xs → (is_some o ≡ true) ↔ Contains (map f xs) p
find_contains f p xs None e = ((λ t. absurd (cc)), (λ h. absurd (find_nothing f p xs (sym e) h)))
find_contains f p xs (Some i) e =
    let r = find_is f p xs i (sym e) in
    ((λ _. Contains-map f xs i p r.0 r.1), (λ _. refl))

-- ---- distinct positions

pub list_distinct : (xs : List ℕ) (x : ℕ) → ((y : ℕ) → Contains xs y → x ≢ y) → AllByRecursion (λ y. nat_eq x y ≡ false) xs
list_distinct [] x h = tt
list_distinct (y ∷ ys) x h = (ne_eqb x y (h y (Contains-head y ys)), list_distinct ys x (λ z t. h z (Contains-tail y ys z t)))

pub apart_from : (xs : List ℕ) (x : ℕ) → AllByRecursion (λ y. nat_eq x y ≡ false) xs → (y : ℕ) → Contains xs y → x ≢ y
apart_from [] x a y h = absurd (Contains_none y h)
apart_from (z ∷ zs) x a y h =
    elim (Contains_cases z zs y h) [
      | inl s ↦ λ e. eqb-false _ _ a.0 (e ∙ sym s)
      | inr t ↦ apart_from zs x a.1 y t
    ]

-- f keeps the cells marked c apart
pub distinct_marked : (cs : List ℕ) (c : ℕ) (f : ℕ → ℕ) → ((i j : ℕ) → slice_index cs i ≡ c → slice_index cs j ≡ c → f i ≡ f j → i ≡ j)
    → (cells : List ℕ) → IsDistinct nat_eq cells → IsDistinct nat_eq (map f (marked cs c cells))
unfolding IsDistinct
distinct_marked cs c f k [] d = tt
distinct_marked cs c f k (x ∷ xs) d =
    let rest = distinct_marked cs c f k xs d.1 in
    elim (zero_or_same_or_other (slice_index cs x) c) [
      | inl e ↦ subst (λ l. IsDistinct nat_eq (map f l)) (sym (marked_end cs c x xs e)) tt
      | inr (inl (u, e)) ↦ subst (λ l. IsDistinct nat_eq (map f l)) (sym (marked_here cs c x xs u e)) (
        list_distinct (map f (marked cs c xs)) (f x) (λ y h s.
            let r = Contains-from_map f (marked cs c xs) y h in
            let m = marked_is cs c xs r.0 r.2 in
            apart_from xs x d.0 r.0 m.1 (k x r.0 e m.0 (s ∙ sym r.1))),
        rest,
      )
      | inr (inr (u, n)) ↦ subst (λ l. IsDistinct nat_eq (map f l)) (sym (marked_past cs c x xs u n)) rest
    ]

pub range_is : (a n i : ℕ) → Contains (range_with_len a n) i → (a ≤ i) × (i < a + n)
range_is a zero i h = absurd (Contains_none i h)
range_is a (suc n) i h =
    elim (Contains_cases a (range_with_len (a + 1) n) i h) [
      | inl s ↦ (omega arith, omega arith)
      | inr t ↦ let r = range_is (a + 1) n i t in (omega arith, omega arith)
    ]

pub range_has : (a n i : ℕ) → a ≤ i → i < a + n → Contains (range_with_len a n) i
range_has a zero i l b = absurd (omega arith)
range_has a (suc n) i l b =
    elim (nat_eq a i) as (λ t. nat_eq a i ≡ t → Contains (a ∷ range_with_len (a + 1) n) i) [
      | true ↦ λ t. subst (Contains (a ∷ range_with_len (a + 1) n)) (eqb-true _ _ t) (Contains-head a (range_with_len (a + 1) n))
      | false ↦ λ t. let ne : a ≢ i = eqb-false _ _ t in
          Contains-tail a (range_with_len (a + 1) n) i (range_has (a + 1) n i (omega arith) (omega arith))
    ] refl

pub range_distinct : (a n : ℕ) → IsDistinct nat_eq (range_with_len a n)
unfolding IsDistinct
range_distinct a zero = tt
range_distinct a (suc n) = (list_distinct (range_with_len (a + 1) n) a (λ y h. let r = range_is (a + 1) n y h in omega arith), range_distinct (a + 1) n)

append_distinct : (xs ys : List ℕ) → IsDistinct nat_eq xs → IsDistinct nat_eq ys → ((x : ℕ) → Contains xs x → Contains ys x → ⊥) → IsDistinct nat_eq (xs ++ ys)
unfolding IsDistinct
append_distinct [] ys d e n = e
append_distinct (x ∷ xs) ys d e n = (
  list_distinct (xs ++ ys) x (λ y h s. elim (Contains-append_cases xs ys y h) [
    | inl l ↦ apart_from xs x d.0 y l s
    | inr r ↦ n x (Contains-head x xs) (subst (Contains ys) (sym s) r)
  ]),
  append_distinct xs ys d.1 e (λ y a b. n y (Contains-tail x xs y a) b),
)

pub from_cell_distinct : (n s : ℕ) → IsDistinct nat_eq (from_cell n s)
from_cell_distinct n s =
    append_distinct (range_with_len s (n - s)) (range_with_len 0 s) (range_distinct s (n - s)) (range_distinct 0 s)
    (λ x a b. let r = range_is s (n - s) x a in let q = range_is 0 s x b in omega arith)

-- ---- maps

-- full cells keep positions of a map: what a table files, but for the positions that it lacks
pub record Keeps (cs ps : List ℕ) (m : ℕ → Option ℕ) : Type 0 where
  pub held : (i : ℕ) → 2 ≤ slice_index cs i → (h : ℕ) × (m (slice_index ps i) ≡ Some h) × Contains (places cs h) i
  pub apart : (i j : ℕ) → 2 ≤ slice_index cs i → 2 ≤ slice_index cs j → slice_index ps i ≡ slice_index ps j → i ≡ j

pub Keeps-Files : {cs ps : List ℕ} {m : ℕ → Option ℕ} → Files cs ps m → Keeps cs ps m
Keeps-Files s = record { held = s.held; apart = s.apart }

pub files_candidates : (cs ps : List ℕ) (m : ℕ → Option ℕ) (h : ℕ) → Files cs ps m → AreCandidates m h (map (slice_index ps) (places cs h))
files_candidates cs ps m h s = record {
  once = distinct_marked cs (control_of h) (slice_index ps) (λ i j a b. s.apart i j (omega arith) (omega arith))
      (from_cell (length cs) (home (length cs) h)) (from_cell_distinct (length cs) (home (length cs) h));
  all = λ p e.
      let at = s.found p (subst IsSome (sym e) refl) in
      let has = s.held at.0 at.1 in
      let same : has.0 ≡ h = some_same (sym has.1 ∙ ap m at.2 ∙ e) in
      Contains-map (slice_index ps) (places cs h) at.0 p at.2 (subst (λ g. Contains (places cs g) at.0) same has.2);
  only = λ p t.
      let at = Contains-from_map (slice_index ps) (places cs h) p t in
      let has = s.held at.0 (places_full cs h at.0 at.2) in
      let mark : fingerprint has.0 + 2 ≡ fingerprint h + 2 = sym (places_is cs has.0 at.0 has.2) ∙ places_is cs h at.0 at.2 in
      (has.0, ap m (sym at.1) ∙ has.1, omega arith);
}

-- a position under a hash, put into the first free cell
module _ (cs ps : List ℕ) (h p cell : ℕ) (sized : length ps ≡ length cs)
    (first : find (λ i. nat_lt (slice_index cs i) 2) (from_cell (length cs) (home (length cs) h)) ≡ Some cell)
    (free : slice_index cs cell < 2) (within : cell < length cs) where
  slice_index-put_same : slice_index (slice_set cs cell (control_of h)) cell ≡ control_of h
  slice_index-put_same = get_or-set_same cs cell (control_of h) 0 within

  there_position : slice_index (slice_set ps cell p) cell ≡ p
  there_position = get_or-set_same ps cell p 0 (omega arith)

  slice_index-put_other : (i : ℕ) → i ≢ cell → slice_index (slice_set cs cell (control_of h)) i ≡ slice_index cs i
  slice_index-put_other i n = get_or-set_other cs cell i (control_of h) 0 n

  elsewhere_position : (i : ℕ) → i ≢ cell → slice_index (slice_set ps cell p) i ≡ slice_index ps i
  elsewhere_position i n = get_or-set_other ps cell i p 0 n

  -- no cell is emptied
  stays_used : (i : ℕ) → slice_index cs i ≢ 0 → slice_index (slice_set cs cell (control_of h)) i ≢ 0
  stays_used i u =
      elim (nat_eq i cell) as (λ b. nat_eq i cell ≡ b → slice_index (slice_set cs cell (control_of h)) i ≢ 0) [
        | true ↦ λ t z. let e = ap (slice_index (slice_set cs cell (control_of h))) (eqb-true _ _ t) ∙ slice_index-put_same in omega (arith, e, z)
        | false ↦ λ t z. u (sym (slice_index-put_other i (eqb-false _ _ t)) ∙ z)
      ] refl

  -- a search finds what it found before, and the cell
  Contains-places_put : (g i : ℕ) → i ≢ cell → Contains (places cs g) i → Contains (places (slice_set cs cell (control_of h)) g) i
  Contains-places_put g i n at =
      subst (λ count. Contains (marked (slice_set cs cell (control_of h)) (control_of g) (from_cell count (home count g))) i) (sym (length-set cs cell (control_of h)))
      (marked_kept cs (slice_set cs cell (control_of h)) (control_of g) (from_cell (length cs) (home (length cs) g)) i (omega arith) stays_used
      (slice_index-put_other i n ∙ places_is cs g i at) at)

  finds_cell : Contains (places (slice_set cs cell (control_of h)) h) cell
  finds_cell =
      subst (λ count. Contains (marked (slice_set cs cell (control_of h)) (control_of h) (from_cell count (home count h))) cell) (sym (length-set cs cell (control_of h)))
      (marked_put cs (slice_set cs cell (control_of h)) (control_of h) (from_cell (length cs) (home (length cs) h)) cell (omega arith)
      (λ i f. stays_used i (omega arith)) slice_index-put_same first)

  -- what was full is elsewhere
  full_before_put : (i : ℕ) → i ≢ cell → 2 ≤ slice_index (slice_set cs cell (control_of h)) i → 2 ≤ slice_index cs i
  full_before_put i n f = let e = slice_index-put_other i n in omega (arith, e)

  pub put_keeps : (m n : ℕ → Option ℕ) → Keeps cs ps m → n p ≡ Some h → ((i : ℕ) → 2 ≤ slice_index cs i → slice_index ps i ≢ p)
      → ((q : ℕ) → q ≢ p → n q ≡ m q) → Keeps (slice_set cs cell (control_of h)) (slice_set ps cell p) n
  put_keeps m n k at fresh same = record {
    held = λ i f. elim (nat_eq i cell) as (λ b. nat_eq i cell ≡ b → (g : ℕ) × (n (slice_index (slice_set ps cell p) i) ≡ Some g) × Contains (places (slice_set cs cell (control_of h)) g) i) [
      | true ↦ λ t. let e = eqb-true _ _ t in
          (h, ap (λ j. n (slice_index (slice_set ps cell p) j)) e ∙ ap n there_position ∙ at, subst (Contains (places (slice_set cs cell (control_of h)) h)) (sym e) finds_cell)
      | false ↦ λ t. let e = eqb-false _ _ t in
          let was = full_before_put i e f in
          let has = k.held i was in
          (has.0, ap n (elsewhere_position i e) ∙ same (slice_index ps i) (fresh i was) ∙ has.1, Contains-places_put has.0 i e has.2)
    ] refl;
    apart = λ i j f g e. elim (nat_eq i cell) as (λ b. nat_eq i cell ≡ b → i ≡ j) [
      | true ↦ λ t. elim (nat_eq j cell) as (λ b. nat_eq j cell ≡ b → i ≡ j) [
        | true ↦ λ u. eqb-true _ _ t ∙ sym (eqb-true _ _ u)
        | false ↦ λ u. let ne = eqb-false _ _ u in
            absurd (fresh j (full_before_put j ne g) (sym (elsewhere_position j ne) ∙ sym e ∙ ap (slice_index (slice_set ps cell p)) (eqb-true _ _ t) ∙ there_position))
      ] refl
      | false ↦ λ t. let ni = eqb-false _ _ t in elim (nat_eq j cell) as (λ b. nat_eq j cell ≡ b → i ≡ j) [
        | true ↦ λ u. absurd (fresh i (full_before_put i ni f) (sym (elsewhere_position i ni) ∙ e ∙ ap (slice_index (slice_set ps cell p)) (eqb-true _ _ u) ∙ there_position))
        | false ↦ λ u. let nj = eqb-false _ _ u in
            k.apart i j (full_before_put i ni f) (full_before_put j nj g) (sym (elsewhere_position i ni) ∙ e ∙ elsewhere_position j nj)
      ] refl
    ] refl;
  }

  pub put_files : (m : ℕ → Option ℕ) → Files cs ps m → m p ≡ None → Files (slice_set cs cell (control_of h)) (slice_set ps cell p) (with_hash m p h)
  put_files m s none =
      let fresh : (i : ℕ) → 2 ≤ slice_index cs i → slice_index ps i ≢ p = λ i f e. absurd (some_not_none _ (sym (s.held i f).1 ∙ ap m e ∙ none)) in
      let at : with_hash m p h p ≡ Some h = ap (λ b. cond b (Some h) (m p)) (eq-eqb p p refl) in
      let same : (q : ℕ) → q ≢ p → with_hash m p h q ≡ m q = λ q n. ap (λ b. cond b (Some h) (m q)) (ne_eqb q p n) in
      let kept = put_keeps m (with_hash m p h) (Keeps-Files s) at fresh same in
      record {
        held = kept.held;
        apart = kept.apart;
        found = λ q is. elim (nat_eq q p) as (λ b. nat_eq q p ≡ b → (i : ℕ) × (2 ≤ slice_index (slice_set cs cell (control_of h)) i) × (slice_index (slice_set ps cell p) i ≡ q)) [
          | true ↦ λ t. (cell, (let e = slice_index-put_same in omega (arith, e)), there_position ∙ sym (eqb-true _ _ t))
          | false ↦ λ t.
              let has = s.found q (subst IsSome (same q (eqb-false _ _ t)) is) in
              let ne : has.0 ≢ cell = λ e. let c = ap (slice_index cs) e in let f = has.1 in omega (arith, c, f) in
              (has.0, (let e = slice_index-put_other has.0 ne in let f = has.1 in omega (arith, e, f)), elsewhere_position has.0 ne ∙ has.2)
        ] refl;
      }

-- a position taken out of its cell
module _ (cs ps : List ℕ) (cell : ℕ) (full : 2 ≤ slice_index cs cell) where
  slice_index-freed_other : (i : ℕ) → i ≢ cell → slice_index (slice_set cs cell 1) i ≡ slice_index cs i
  slice_index-freed_other i n = get_or-set_other cs cell i 1 0 n

  removed_mark : slice_index (slice_set cs cell 1) cell ≡ 1
  removed_mark = get_or-set_same cs cell 1 0 (full_within cs cell full)

  still_used : (i : ℕ) → slice_index cs i ≢ 0 → slice_index (slice_set cs cell 1) i ≢ 0
  still_used i u =
      elim (nat_eq i cell) as (λ b. nat_eq i cell ≡ b → slice_index (slice_set cs cell 1) i ≢ 0) [
        | true ↦ λ t z. let e = ap (slice_index (slice_set cs cell 1)) (eqb-true _ _ t) ∙ removed_mark in omega (arith, e, z)
        | false ↦ λ t z. u (sym (slice_index-freed_other i (eqb-false _ _ t)) ∙ z)
      ] refl

  -- what is full yet is another cell
  full_not_freed : (i : ℕ) → 2 ≤ slice_index (slice_set cs cell 1) i → i ≢ cell
  full_not_freed i f e = let z = ap (slice_index (slice_set cs cell 1)) e ∙ removed_mark in omega (arith, z)

  was_full : (i : ℕ) → 2 ≤ slice_index (slice_set cs cell 1) i → 2 ≤ slice_index cs i
  was_full i f = let e = slice_index-freed_other i (full_not_freed i f) in omega (arith, e)

  still_finds : (g i : ℕ) → i ≢ cell → Contains (places cs g) i → Contains (places (slice_set cs cell 1) g) i
  still_finds g i n at =
      subst (λ count. Contains (marked (slice_set cs cell 1) (control_of g) (from_cell count (home count g))) i) (sym (length-set cs cell 1))
      (marked_kept cs (slice_set cs cell 1) (control_of g) (from_cell (length cs) (home (length cs) g)) i (omega arith) still_used
      (slice_index-freed_other i n ∙ places_is cs g i at) at)

  pub removed_files : (m : ℕ → Option ℕ) (p : ℕ) → slice_index ps cell ≡ p → Files cs ps m → Files (slice_set cs cell 1) ps (without m p)
  removed_files m p at s =
      let same : (q : ℕ) → q ≢ p → without m p q ≡ m q = λ q n. ap (λ b. cond b None (m q)) (ne_eqb q p n) in
      record {
        held = λ i f.
            let has = s.held i (was_full i f) in
            let ne = full_not_freed i f in
            let apart : slice_index ps i ≢ p = λ e. ne (s.apart i cell (was_full i f) full (e ∙ sym at)) in
            (has.0, same (slice_index ps i) apart ∙ has.1, still_finds has.0 i ne has.2);
        apart = λ i j f g e. s.apart i j (was_full i f) (was_full j g) e;
        found = λ q is. elim (nat_eq q p) as (λ b. nat_eq q p ≡ b → (i : ℕ) × (2 ≤ slice_index (slice_set cs cell 1) i) × (slice_index ps i ≡ q)) [
          | true ↦ λ t. absurd (none_is_some (subst (λ b. IsSome (cond b None (m q))) t is))
          | false ↦ λ t.
              let has = s.found q (subst (λ b. IsSome (cond b None (m q))) t is) in
              let ne : has.0 ≢ cell = λ e. eqb-false _ _ t (sym has.2 ∙ ap (slice_index ps) e ∙ at) in
              (has.0, (let e = slice_index-freed_other has.0 ne in let f = has.1 in omega (arith, e, f)), has.2)
        ] refl;
      }

-- a map is filed if it is the same as one that is
pub files_same : {cs ps : List ℕ} (m n : ℕ → Option ℕ) → ((q : ℕ) → m q ≡ n q) → Files cs ps m → Files cs ps n
files_same m n same s = record {
  held = λ i f. let has = s.held i f in (has.0, sym (same _) ∙ has.1, has.2);
  found = λ p is. s.found p (subst IsSome (sym (same p)) is);
  apart = s.apart;
}

-- the map of a list of hashes, by position, with one more
pub with_hash-listed : (hs : List (Option ℕ)) (p h : ℕ) → p < length hs → (q : ℕ) → with_hash (λ r. get_or hs r None) p h q ≡ get_or (slice_set hs p (Some h)) q None
with_hash-listed hs p h b q =
    elim (nat_eq q p) as (λ t. nat_eq q p ≡ t → cond t (Some h) (get_or hs q None) ≡ get_or (slice_set hs p (Some h)) q None) [
      | true ↦ λ t. sym (ap (λ r. get_or (slice_set hs p (Some h)) r None) (eqb-true _ _ t) ∙ get_or-set_same hs p (Some h) None b)
      | false ↦ λ t. sym (get_or-set_other hs p q (Some h) None (eqb-false _ _ t))
    ] refl

pub none_if_not_some : {X : Type 0} (o : Option X) → false ≡ is_some o → o ≡ None
none_if_not_some None e = refl
none_if_not_some (Some x) e = absurd (cc)

pub listed_within : {X : Type 0} (os : List (Option X)) (i : ℕ) (x : X) → get_or os i None ≡ Some x → i < length os
listed_within [] i x e = absurd (cc)
listed_within (o ∷ os) zero x e = omega arith
listed_within (o ∷ os) (suc i) x e = let r = listed_within os i x e in omega (arith, r)
