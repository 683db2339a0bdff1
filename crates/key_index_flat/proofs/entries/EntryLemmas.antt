-- On a list of values that each stand for an entry, a full key with something: the first entry of a key, where no two have one key.
--     length-put_value, All-put_value          a list with one value more
--     look                                     what the first value of a list that has a key has
--     passed_by, look-at_place, key-slice_get  a walk along the list
--     put_look, set_look, out_look             what each key has after one went in, took the place of another, or went out
--     put_distinct, set_keys, out_distinct     still no two have one key
use Rattle.std.proofs.Common.{◌≡◌, ℕ, zero, suc, ◌<◌, Bool, true, false, cond, ◌||◌, T, List, [], ◌∷◌, ◌++◌, length, map, take, Option, Some, None, is_some, slice_get, slice_set, slice_index_or, get_or, Fits, w8, All, refl, sym, ap, subst, ◌∙◌, arith, length-append, ◌+◌}
use Rattle.std.proofs.lemmas.Bool.{false≢true}
use Rattle.std.proofs.lemmas.List.{map-append}
use Rattle.std.proofs.lemmas.List.Elements.{All-nil, All-cons, All-head, All-tail, All-append, All-from_get_or}
use Rattle.std.proofs.lemmas.Map.Keys.{IsDistinct-head, IsDistinct-tail, IsDistinct-cons, IsDistinct-push}
use Rattle.std.proofs.lemmas.Map.Lookups.{exact_bytes}
use Rattle.std.proofs.lemmas.Slice.Eq.{bytes_eq-Decides}
use Rattle.std.specs.Cmp.{eq_by_cmp_equiv, tied_itself}
use Rattle.std.specs.Cmp.Lexicographic.{nat_list_cmp_total}
use Rattle.std.specs.FinMap.{find}
use Rattle.std.specs.FinMap.Entries.{find-append}
use Rattle.std.specs.List.{AllByRecursion, IsDistinct, list_any}
use Rattle.std.specs.Prelude.{remove}
use Rattle.std.specs.Option.{option_map, unwrap_or}
use Rattle.std.specs.Ordering.{eq_by_cmp, is_eq}
use Rattle.std.specs.Str.{bytes_eq}
use Rattle.key_index_flat.specs.FullKeys.{IsBytes, byte_cmp}
use Rattle.key_index_flat.specs.View.{put_value}
use Rattle.key_index_flat.proofs.content.ContentLemmas.{Equal-is_eq}

-- what stands behind a reference to bytes
pub bytes_in : (b : List ℕ) → ((i : ℕ) → Fits w8 (get_or b i 0)) → IsBytes b
bytes_in b h = All-from_get_or (λ n. n < 256) b 0 (λ i within. let fits = h i in omega (arith, fits))

abbrev pub same : List ℕ → List ℕ → Bool
same a b = eq_by_cmp byte_cmp a b

pub some_not_none : {X : Type 0} (x : X) → Some x ≡ None → ⊥
some_not_none x e = subst T (ap is_some e) tt

pub some_injective : {X : Type 0} (x y : X) → Some x ≡ Some y → x ≡ y
some_injective x y e = ap (λ o. unwrap_or o x) e

pub same_itself : (a : List ℕ) → same a a ≡ true
same_itself a = ap is_eq (tied_itself nat_list_cmp_total a)

pub head_apart : (x y : List ℕ) → same x y ≡ false → same y x ≡ false
head_apart x y e = (eq_by_cmp_equiv nat_list_cmp_total).symm y x ∙ e

pub same_is : (x y : List ℕ) → same x y ≡ true → x ≡ y
same_is x y e = exact_bytes x y (Equal-is_eq _ e)

pub cond-shadowed : {X : Type 0} (b : Bool) (x y z : X) → cond b x z ≡ cond b x (cond b y z)
cond-shadowed true x y z = refl
cond-shadowed false x y z = refl

pub cond-swapped : {X : Type 0} (b c : Bool) (x y z : X) → (b ≡ true → c ≡ true → ⊥) → cond b x (cond c y z) ≡ cond c y (cond b x z)
cond-swapped true true x y z apart = absurd (apart refl refl)
cond-swapped true false x y z apart = refl
cond-swapped false c x y z apart = refl

-- a key is not that of two that differ
pub not_both : (a x y : List ℕ) → same x y ≡ false → same a x ≡ true → same a y ≡ true → ⊥
not_both a x y apart p q = false≢true (sym apart ∙ ap (λ k. same k y) (sym (same_is a x p)) ∙ q)

none_any : (k : List ℕ) (ks : List (List ℕ)) → AllByRecursion (λ y. same k y ≡ false) ks → list_any (same k) ks ≡ false
none_any k [] h = refl
none_any k (x ∷ xs) h = subst (λ b. (b || list_any (same k) xs) ≡ false) (sym h.0) (none_any k xs h.1)

pub length-put_value : {V : Type 0} (first : Bool) (v : V) (l : List V) → length (put_value first v l) ≡ length l + 1
length-put_value true v l = omega arith
length-put_value false v l = length-append l (v ∷ [])

pub All-put_value : {V : Type 0} (P : V → Type 0) (first : Bool) (v : V) (l : List V) → P v → All P l → All P (put_value first v l)
All-put_value P true v l h k = All-cons P v l h k
All-put_value P false v l h k = All-append P l (v ∷ []) k (All-cons P v [] h (All-nil P))

pub out_all : {V : Type 0} (P : V → Type 0) (l : List V) (place : ℕ) → All P l → All P (remove l place)
out_all P [] zero h = h
out_all P [] (suc i) h = h
out_all P (x ∷ xs) zero h = All-tail P x xs h
out_all P (x ∷ xs) (suc i) h = All-cons P x (remove xs i) (All-head P x xs h) (out_all P xs i (All-tail P x xs h))

pub none_distinct : IsDistinct same []
unfolding IsDistinct
none_distinct = tt

module _ {V X : Type 0} (entry : V → List ℕ × X) where
  abbrev pub key : V → List ℕ
  key v = (entry v).0

  abbrev pub look : List ℕ → List V → Option X
  look a l = find byte_cmp a (map entry l)

  abbrev pub Distinct : List V → Type 0
  Distinct l = IsDistinct same (map key l)

  pub apart_none : (k : List ℕ) (l : List V) → AllByRecursion (λ y. same k y ≡ false) (map key l) → look k l ≡ None
  apart_none k [] h = refl
  apart_none k (v ∷ vs) h = ap (λ b. cond b (Some (entry v).1) (look k vs)) h.0 ∙ apart_none k vs h.1

  pub none_apart : (k : List ℕ) (l : List V) → look k l ≡ None → AllByRecursion (λ y. same k y ≡ false) (map key l)
  none_apart k [] h = tt
  none_apart k (v ∷ vs) h =
      elim (same k (key v)) as (λ b. same k (key v) ≡ b → cond b (Some (entry v).1) (look k vs) ≡ None → AllByRecursion (λ y. same k y ≡ false) (map key (v ∷ vs))) [
        | true ↦ λ e n. absurd (some_not_none (entry v).1 n)
        | false ↦ λ e n. (e, none_apart k vs n)
      ] refl h

  apart_at : (k q : List ℕ) (l : List V) (i : ℕ) → AllByRecursion (λ y. same k y ≡ false) (map key l) → option_map key (slice_get l i) ≡ Some q → same k q ≡ false
  apart_at k q [] i h at = absurd (some_not_none q (sym at))
  apart_at k q (v ∷ vs) zero h at = ap (same k) (sym (some_injective (key v) q at)) ∙ h.0
  apart_at k q (v ∷ vs) (suc i) h at = apart_at k q vs i h.1 at

  -- ---- one goes in

  pub put_look : (first : Bool) (a k : List ℕ) (l : List V) (v : V) → key v ≡ k → look k l ≡ None
      → look a (put_value first v l) ≡ cond (same a k) (Some (entry v).1) (look a l)
  put_look true a k l v own none = ap (λ x. cond (same a x) (Some (entry v).1) (look a l)) own
  put_look false a k l v own none =
      ap (find byte_cmp a) (map-append entry l (v ∷ []) ∙ ap (λ x. map entry l ++ (x, (entry v).1) ∷ []) own)
      ∙ find-append byte_cmp nat_list_cmp_total (map entry l) k (entry v).1 a none

  pub put_distinct : (first : Bool) (l : List V) (v : V) → look (key v) l ≡ None → Distinct l → Distinct (put_value first v l)
  put_distinct true l v none d = IsDistinct-cons same (key v) (map key l) (none_apart (key v) l none) d
  put_distinct false l v none d =
      subst (IsDistinct same) (sym (map-append key l (v ∷ [])))
      (IsDistinct-push (eq_by_cmp_equiv nat_list_cmp_total) (map key l) (key v) d (none_any (key v) (map key l) (none_apart (key v) l none)))

  -- ---- one takes the place of another with its key

  pub set_look : (a k : List ℕ) (l : List V) (place : ℕ) (v : V) → key v ≡ k → Distinct l → option_map key (slice_get l place) ≡ Some k
      → look a (slice_set l place v) ≡ cond (same a k) (Some (entry v).1) (look a l)
  set_look a k [] place v own d at = absurd (some_not_none k (sym at))
  set_look a k (x ∷ xs) zero v own d at =
      ap (λ y. cond (same a y) (Some (entry v).1) (look a xs)) own
      ∙ cond-shadowed (same a k) (Some (entry v).1) (Some (entry x).1) (look a xs)
      ∙ ap (λ y. cond (same a k) (Some (entry v).1) (cond (same a y) (Some (entry x).1) (look a xs))) (sym (some_injective (key x) k at))
  set_look a k (x ∷ xs) (suc i) v own d at =
      let apart = apart_at (key x) k xs i (IsDistinct-head same (key x) (map key xs) d) at in
      ap (cond (same a (key x)) (Some (entry x).1)) (set_look a k xs i v own (IsDistinct-tail same (key x) (map key xs) d) at)
      ∙ cond-swapped (same a (key x)) (same a k) (Some (entry x).1) (Some (entry v).1) (look a xs) (not_both a (key x) k apart)

  pub set_keys : (l : List V) (place : ℕ) (v : V) → option_map key (slice_get l place) ≡ Some (key v) → map key (slice_set l place v) ≡ map key l
  set_keys [] place v at = absurd (some_not_none (key v) (sym at))
  set_keys (x ∷ xs) zero v at = ap (λ y. y ∷ map key xs) (sym (some_injective (key x) (key v) at))
  set_keys (x ∷ xs) (suc i) v at = ap (λ ks. key x ∷ ks) (set_keys xs i v at)

  -- ---- one goes out

  pub out_look : (a k : List ℕ) (l : List V) (place : ℕ) → Distinct l → option_map key (slice_get l place) ≡ Some k → look a (remove l place) ≡ cond (same a k) None (look a l)
  out_look a k [] place d at = absurd (some_not_none k (sym at))
  out_look a k (x ∷ xs) zero d at =
      let is = some_injective (key x) k at in
      elim (same a k) as (λ b. same a k ≡ b → look a xs ≡ cond b None (look a (x ∷ xs))) [
        | true ↦ λ t. ap (λ y. look y xs) (same_is a k t) ∙ apart_none k xs (subst (λ y. AllByRecursion (λ z. same y z ≡ false) (map key xs)) is (IsDistinct-head same (key x) (map key xs) d))
        | false ↦ λ t. ap (λ b. cond b (Some (entry x).1) (look a xs)) (sym (ap (same a) is ∙ t))
      ] refl
  out_look a k (x ∷ xs) (suc i) d at =
      let apart = apart_at (key x) k xs i (IsDistinct-head same (key x) (map key xs) d) at in
      ap (cond (same a (key x)) (Some (entry x).1)) (out_look a k xs i (IsDistinct-tail same (key x) (map key xs) d) at)
      ∙ cond-swapped (same a (key x)) (same a k) (Some (entry x).1) None (look a xs) (not_both a (key x) k apart)

  out_apart : (k : List ℕ) (l : List V) (place : ℕ) → AllByRecursion (λ y. same k y ≡ false) (map key l) → AllByRecursion (λ y. same k y ≡ false) (map key (remove l place))
  out_apart k [] zero h = h
  out_apart k [] (suc i) h = h
  out_apart k (x ∷ xs) zero h = h.1
  out_apart k (x ∷ xs) (suc i) h = (h.0, out_apart k xs i h.1)

  pub out_distinct : (l : List V) (place : ℕ) → Distinct l → Distinct (remove l place)
  out_distinct [] zero d = d
  out_distinct [] (suc i) d = d
  out_distinct (x ∷ xs) zero d = IsDistinct-tail same (key x) (map key xs) d
  out_distinct (x ∷ xs) (suc i) d =
      IsDistinct-cons same (key x) (map key (remove xs i)) (out_apart (key x) xs i (IsDistinct-head same (key x) (map key xs) d))
      (out_distinct xs i (IsDistinct-tail same (key x) (map key xs) d))

  -- ---- a walk along the list, which `shows` reads

  pub passed_by : {A : Type 0} (shows : A → V) (a : List ℕ) (xs : List A) (x : A) → look a (map shows xs) ≡ None → bytes_eq (key (shows x)) a ≡ false → look a (map shows (xs ++ x ∷ [])) ≡ None
  passed_by shows a [] x none other =
      let apart : same a (key (shows x)) ≡ false =
      elim (same a (key (shows x))) as (λ b. same a (key (shows x)) ≡ b → b ≡ false) [
        | true ↦ λ t. absurd (false≢true (sym other ∙ (bytes_eq-Decides (key (shows x)) a).1 (sym (same_is a (key (shows x)) t))))
        | false ↦ λ t. refl
      ] refl in
      ap (λ b. cond b (Some (entry (shows x)).1) None) apart
  passed_by shows a (y ∷ ys) x none other =
      elim (same a (key (shows y))) as (λ b. cond b (Some (entry (shows y)).1) (look a (map shows ys)) ≡ None → cond b (Some (entry (shows y)).1) (look a (map shows (ys ++ x ∷ []))) ≡ None) [
        | true ↦ λ e. absurd (some_not_none (entry (shows y)).1 e)
        | false ↦ λ e. passed_by shows a ys x e other
      ] none

  pub look-at_place : (a : List ℕ) (all : List V) (n : ℕ) (v : V) → n < length all → v ≡ slice_index_or all n v → look a (take n all) ≡ None → bytes_eq (key v) a ≡ true → look a all ≡ Some (entry v).1
  look-at_place a [] n v h is none own = absurd (omega (arith, h))
  look-at_place a (x ∷ xs) zero v h is none own =
      ap (λ q. look a (q ∷ xs)) (sym is)
      ∙ ap (λ k. cond (same a k) (Some (entry v).1) (look a xs)) ((bytes_eq-Decides (key v) a).0 own)
      ∙ ap (λ b. cond b (Some (entry v).1) (look a xs)) (same_itself a)
  look-at_place a (x ∷ xs) (suc n) v h is none own =
      elim (same a (key x)) as (λ b. cond b (Some (entry x).1) (look a (take n xs)) ≡ None → cond b (Some (entry x).1) (look a xs) ≡ Some (entry v).1) [
        | true ↦ λ e. absurd (some_not_none (entry x).1 e)
        | false ↦ λ e. look-at_place a xs n v (omega (arith, h)) is e own
      ] none

  pub key-slice_get : (a : List ℕ) (all : List V) (n : ℕ) (v : V) → n < length all → v ≡ slice_index_or all n v → bytes_eq (key v) a ≡ true → option_map key (slice_get all n) ≡ Some a
  key-slice_get a [] n v h is own = absurd (omega (arith, h))
  key-slice_get a (x ∷ xs) zero v h is own = ap (λ q. Some (key q)) (sym is) ∙ ap (λ k. Some k) ((bytes_eq-Decides (key v) a).0 own)
  key-slice_get a (x ∷ xs) (suc n) v h is own = key-slice_get a xs n v (omega (arith, h)) is own

  -- a key that stands at a place is found
  pub is_some-look : (k : List ℕ) (l : List V) (place : ℕ) → option_map key (slice_get l place) ≡ Some k → is_some (look k l) ≡ true
  is_some-look k [] place at = absurd (some_not_none k (sym at))
  is_some-look k (x ∷ xs) zero at = ap (λ b. is_some (cond b (Some (entry x).1) (look k xs))) (ap (same k) (some_injective (key x) k at) ∙ same_itself k)
  is_some-look k (x ∷ xs) (suc i) at =
      elim (same k (key x)) as (λ b. is_some (cond b (Some (entry x).1) (look k xs)) ≡ true) [
        | true ↦ refl
        | false ↦ is_some-look k xs i at
      ]
