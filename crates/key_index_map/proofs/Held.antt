-- On the items whose tags say that they are held.
--     Cut, cut                     the items held, but for a place
--     standing, without, turned    where one is held at the place: as it is, after it has gone, and after another one has its place
--     was_free                     where none is
--     none_held                    no held pair passes a test
--     all_held                     each item is held
use Rattle.std.proofs.Common.{◌≡◌, ℕ, zero, suc, ◌<◌, ◌≤◌, Bool, true, false, cond, List, [], ◌∷◌, length, Some, None, slice_get, slice_set, slice_index, refl, sym, ap, subst, ◌∙◌, arith}
use Rattle.std.specs.List.Sorted.{IsPermutation}
use Rattle.std.specs.Map.{lookup}
use Rattle.std.proofs.lemmas.Bool.{le-leb, lt-leb, leb-true}
use Rattle.std.proofs.lemmas.List.{set-get_or}
use Rattle.std.proofs.lemmas.List.Sorted.{IsPermutation-refl, IsPermutation-cons, IsPermutation-swap, IsPermutation-trans}
use Rattle.std.proofs.lemmas.Option.{get_or_from_slice_get}
use Rattle.key_index_map.specs.Table.{held, is_held}

module _ {X : Type 0} where
  pub held_first : (t : ℕ) (x : X) (l : List X) → 3 ≤ t → cond (is_held t) (x ∷ l) l ≡ x ∷ l
  held_first t x l had = ap (λ b. cond b (x ∷ l) l) (le-leb 3 t had)

  pub without_first : (t : ℕ) (x : X) (l : List X) → t < 3 → cond (is_held t) (x ∷ l) l ≡ l
  without_first t x l low = ap (λ b. cond b (x ∷ l) l) (lt-leb 3 t low)

  pub record Cut (ts : List ℕ) (xs : List X) (i : ℕ) : Type 0 where
    pub others : List X
    pub with_one : (t : ℕ) (x : X) → 3 ≤ t → IsPermutation (held (slice_set ts i t) (slice_set xs i x)) (x ∷ others)
    pub with_none : (t : ℕ) (x : X) → t < 3 → held (slice_set ts i t) (slice_set xs i x) ≡ others

  behind : (t : ℕ) (x y : X) (all others : List X) → IsPermutation all (y ∷ others) → IsPermutation (cond (is_held t) (x ∷ all) all) (y ∷ cond (is_held t) (x ∷ others) others)
  behind t x y all others moved =
      elim (is_held t) as (λ b. IsPermutation (cond b (x ∷ all) all) (y ∷ cond b (x ∷ others) others)) [
        | true ↦ IsPermutation-trans _ _ _ (IsPermutation-cons x all (y ∷ others) moved) (IsPermutation-swap (x ∷ y ∷ others) (y ∷ x ∷ others) 0 1 (omega arith) (omega arith) refl)
        | false ↦ moved
      ]

  pub cut : (ts : List ℕ) (xs : List X) (i : ℕ) → i < length xs → length xs ≤ length ts → Cut ts xs i
  cut [] xs i below long = absurd (omega (arith, below, long))
  cut (t ∷ ts) [] i below long = absurd (omega (arith, below))
  cut (t ∷ ts) (x ∷ xs) zero below long = record {
    others = held ts xs;
    with_one = λ u y had. subst (λ l. IsPermutation l (y ∷ held ts xs)) (sym (held_first u y (held ts xs) had)) (IsPermutation-refl (y ∷ held ts xs));
    with_none = λ u y low. without_first u y (held ts xs) low;
  }
  cut (t ∷ ts) (x ∷ xs) (suc i) below long =
      let c = cut ts xs i (omega (arith, below)) (omega (arith, long)) in
      record {
        others = cond (is_held t) (x ∷ c.others) c.others;
        with_one = λ u y had. behind t x y _ c.others (c.with_one u y had);
        with_none = λ u y low. ap (λ l. cond (is_held t) (x ∷ l) l) (c.with_none u y low);
      }

  module _ (ts : List ℕ) (xs : List X) (i : ℕ) (c : Cut ts xs i) where
    same_tags : slice_set ts i (slice_index ts i) ≡ ts
    same_tags = set-get_or ts i 0

    module _ (x : X) (at : slice_get xs i ≡ Some x) where
      same_items : slice_set xs i x ≡ xs
      same_items = ap (λ y. slice_set xs i y) (sym (get_or_from_slice_get xs i x x at)) ∙ set-get_or xs i x

      pub without : (t : ℕ) → t < 3 → held (slice_set ts i t) xs ≡ c.others
      without t low = ap (λ l. held (slice_set ts i t) l) (sym same_items) ∙ c.with_none t x low

    pub turned_to : (y : X) → 3 ≤ slice_index ts i → IsPermutation (held ts (slice_set xs i y)) (y ∷ c.others)
    turned_to y had = subst (λ l. IsPermutation (held l (slice_set xs i y)) (y ∷ c.others)) same_tags (c.with_one (slice_index ts i) y had)

    pub standing : (x : X) → slice_get xs i ≡ Some x → 3 ≤ slice_index ts i → IsPermutation (held ts xs) (x ∷ c.others)
    standing x at had = subst (λ l. IsPermutation (held ts l) (x ∷ c.others)) (same_items x at) (turned_to x had)

    pub was_free : (x : X) → slice_get xs i ≡ Some x → slice_index ts i < 3 → held ts xs ≡ c.others
    was_free x at low = sym (ap (λ l. held l xs) same_tags) ∙ without x at (slice_index ts i) low

module _ {K V : Type 0} (test : K → Bool) where
  pub none_held : (ts : List ℕ) (xs : List (K × V)) → ((i : ℕ) (e : K × V) → slice_get xs i ≡ Some e → 3 ≤ slice_index ts i → test e.0 ≡ false) → lookup test (held ts xs) ≡ None
  none_held [] xs none = refl
  none_held (t ∷ ts) [] none = refl
  none_held (t ∷ ts) (x ∷ xs) none =
      let rest = none_held ts xs (λ i e at is. none (suc i) e at is) in
      elim (is_held t) as (λ b. is_held t ≡ b → lookup test (cond b (x ∷ held ts xs) (held ts xs)) ≡ None) [
        | true ↦ λ is. ap (λ b. cond b (Some x.1) (lookup test (held ts xs))) (none 0 x refl (leb-true 3 t is)) ∙ rest
        | false ↦ λ _. rest
      ] refl

pub all_held : {X : Type 0} (ts : List ℕ) (xs : List X) → length xs ≤ length ts → ((i : ℕ) → i < length xs → 3 ≤ slice_index ts i) → held ts xs ≡ xs
all_held [] [] long all = refl
all_held [] (x ∷ xs) long all = absurd (omega (arith, long))
all_held (t ∷ ts) [] long all = refl
all_held (t ∷ ts) (x ∷ xs) long all =
    held_first t x (held ts xs) (all 0 (omega arith)) ∙ ap (λ l. x ∷ l) (all_held ts xs (omega (arith, long)) (λ i below. all (suc i) (omega (arith, below))))
