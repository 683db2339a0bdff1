-- On the least value of a list, the first of those that tie, in any total order.
--     pushed_takes, pushed_keeps                  one more value at the end, which is or isn't less
--     IsLeast-front, IsLeast-back                 a list of greater values behind, and in front
--     least_has                                   what holds of each value holds of the least
--     is_lt-same_keys, told_before                what a test of two keys told, and what `<` of them by `PartialOrd` did
--     not_below, not_above                        a key that is above another isn't below it; one that is neither another nor above it is below it
--     filter_push_passes, filter_push_fails       one more value that passes a filter, and one that doesn't
use Rattle.std.proofs.Common.{◌≡◌, ℕ, Bool, true, false, cond, List, [], ◌∷◌, ◌++◌, map, Some, All, append_assoc, append-nil, refl, sym, ap, subst, ◌∙◌}
use Rattle.std.proofs.lemmas.List.{map-append}
use Rattle.std.specs.List.{filter}
use Rattle.std.proofs.lemmas.List.Elements.{filter-append, All-nil, All-cons, All-head, All-tail, All-append, All-push, All-weaker}
use Rattle.std.specs.declared.cmp.Ordering.{Ordering}
use Rattle.std.specs.declared.cmp.Ordering.TheVariants.{Less, Equal, Greater}
use Rattle.std.specs.Ordering.{is_eq, is_gt, is_lt, is_some_and, nat_cmp, ordering_reverse}
use Rattle.std.proofs.lemmas.Bool.{false≢true}
use Rattle.std.specs.Str.{bytes_eq}
use Rattle.std.specs.Cmp.Lexicographic.{nat_list_cmp_total, slice_cmp, slice_partial_cmp, lists_agrees, texts_ties}
use Rattle.std.specs.Cmp.{IsTotalOrder, alike_right}
use Rattle.std.specs.BTreeMap.Range.{IsLeBy}
use Rattle.key_index_flat.specs.FullKeys.{IsLeast, byte_cmp}

module _ {V : Type 0} {cmp : V → V → Ordering} (o : IsTotalOrder cmp) where
  pub le_by_less : (v w : V) → cmp v w ≡ Less → IsLeBy cmp v w
  le_by_less v w p = ap is_gt p

  less_le : (v u w : V) → cmp v u ≡ Less → IsLeBy cmp u w → cmp v w ≡ Less
  less_le v u w p =
      elim (cmp u w) as (λ r. cmp u w ≡ r → is_gt r ≡ false → cmp v w ≡ Less) [
        | Less ↦ λ q h. o.trans v u w p q
        | Equal ↦ λ q h. sym (alike_right o u w v q) ∙ p
        | Greater ↦ λ q h. cc
      ] refl

  -- one more value at the end, as `is_before` tells whether it is less
  pub pushed_takes : (l : List V) (v u : V) → IsLeast cmp l (Some v) → is_lt (cmp u v) ≡ true → IsLeast cmp (l ++ u ∷ []) (Some u)
  pushed_takes l v u h k =
      let less : cmp u v ≡ Less = elim (cmp u v) as (λ r. is_lt r ≡ true → r ≡ Less) [ Less ↦ λ _. refl | Equal ↦ λ e. cc | Greater ↦ λ e. cc ] k in
      let front : All (λ w. cmp u w ≡ Less) h.0 = All-weaker (λ w. cmp v w ≡ Less) (λ w. cmp u w ≡ Less) (λ w q. o.trans u v w less q) h.0 h.3 in
      let behind : All (λ w. cmp u w ≡ Less) h.1 = All-weaker (λ w. IsLeBy cmp v w) (λ w. cmp u w ≡ Less) (λ w q. less_le u v w less q) h.1 h.4 in
      let all : All (λ w. cmp u w ≡ Less) (h.0 ++ v ∷ h.1) = All-append (λ w. cmp u w ≡ Less) h.0 (v ∷ h.1) front (All-cons (λ w. cmp u w ≡ Less) v h.1 less behind) in
      (l, [], refl, subst (All (λ w. cmp u w ≡ Less)) (sym h.2) all, All-nil (λ w. IsLeBy cmp u w))

  pub pushed_keeps : (l : List V) (v u : V) → IsLeast cmp l (Some v) → is_lt (cmp u v) ≡ false → IsLeast cmp (l ++ u ∷ []) (Some v)
  pushed_keeps l v u h k =
      let le : IsLeBy cmp v u = ap is_gt (o.antisymm v u) ∙ elim (cmp u v) as (λ r. is_lt r ≡ false → is_gt (ordering_reverse r) ≡ false) [ Less ↦ λ e. cc | Equal ↦ λ _. refl | Greater ↦ λ _. refl ] k in
      (h.0, h.1 ++ u ∷ [], ap (λ x. x ++ u ∷ []) h.2 ∙ append_assoc h.0 (v ∷ h.1) (u ∷ []), h.3, All-push (λ w. IsLeBy cmp v w) h.1 u h.4 le)

  pub IsLeast-front : (l m : List V) (v : V) → IsLeast cmp l (Some v) → All (λ w. cmp v w ≡ Less) m → IsLeast cmp (l ++ m) (Some v)
  IsLeast-front l m v h k =
      let behind : All (λ w. IsLeBy cmp v w) m = All-weaker (λ w. cmp v w ≡ Less) (λ w. IsLeBy cmp v w) (λ w q. le_by_less v w q) m k in
      (h.0, h.1 ++ m, ap (λ x. x ++ m) h.2 ∙ append_assoc h.0 (v ∷ h.1) m, h.3, All-append (λ w. IsLeBy cmp v w) h.1 m h.4 behind)

  pub IsLeast-back : (l m : List V) (v : V) → IsLeast cmp l (Some v) → All (λ w. cmp v w ≡ Less) m → IsLeast cmp (m ++ l) (Some v)
  IsLeast-back l m v h k =
      (m ++ h.0, h.1, ap (λ x. m ++ x) h.2 ∙ sym (append_assoc m h.0 (v ∷ h.1)), All-append (λ w. cmp v w ≡ Less) m h.0 k h.3, h.4)

  pub least_has : (P : V → Type 0) (l : List V) (v : V) → IsLeast cmp l (Some v) → All P l → P v
  least_has P l v h k = All-head P v h.1 (All-drop_front P h.0 (v ∷ h.1) (subst (All P) h.2 k))
    where
      All-drop_front : (P : V → Type 0) (xs ys : List V) → All P (xs ++ ys) → All P ys
      All-drop_front P [] ys h = h
      All-drop_front P (x ∷ xs) ys h = All-drop_front P xs ys (All-tail P x (xs ++ ys) h)

-- what a test of two keys told
pub is_lt-same_keys : (cmp : List ℕ → List ℕ → Ordering) (a b p q : List ℕ) (r : Bool) → r ≡ is_lt (cmp a b) → a ≡ p → b ≡ q → is_lt (cmp p q) ≡ r
is_lt-same_keys cmp a b p q r is first second = (λ i. is_lt (cmp (sym first i) (sym second i))) ∙ sym is

-- what `<` of two keys by `PartialOrd` told, by their order
pub told_before : (a b : List ℕ) (r : Bool) → r ≡ is_some_and is_lt (slice_partial_cmp (λ m n. Some (nat_cmp m n)) a b) → r ≡ is_lt (slice_cmp nat_cmp a b)
told_before a b r said = said ∙ ap (is_some_and is_lt) (lists_agrees {R = nat_cmp} {C = λ m n. Some (nat_cmp m n)} (λ m n. refl) a b)

module _ (a b : List ℕ) where
  pub not_below : is_lt (byte_cmp a b) ≡ true → is_lt (byte_cmp b a) ≡ false
  not_below above =
      ap is_lt (nat_list_cmp_total.antisymm b a)
      ∙ elim (byte_cmp a b) as (λ r. is_lt r ≡ true → is_lt (ordering_reverse r) ≡ false) [ Less ↦ λ _. refl | Equal ↦ λ e. cc | Greater ↦ λ e. cc ] above

  pub not_above : bytes_eq b a ≡ false → is_lt (byte_cmp a b) ≡ false → is_lt (byte_cmp b a) ≡ true
  not_above other low =
      ap is_lt (nat_list_cmp_total.antisymm b a)
      ∙ elim (byte_cmp a b) as (λ r. byte_cmp a b ≡ r → is_lt r ≡ false → is_lt (ordering_reverse r) ≡ true) [
        | Less ↦ λ _ e. cc
        | Equal ↦ λ tied e. absurd (false≢true (sym other ∙ texts_ties b a ∙ ap is_eq (nat_list_cmp_total.antisymm b a ∙ ap ordering_reverse tied)))
        | Greater ↦ λ _ e. refl
      ] refl low

-- one more value, which passes a filter or doesn't
module _ {X Y : Type 0} (p : Y → Bool) (f : X → Y) (xs : List X) (x : X) where
  filter_push : filter p (map f (xs ++ x ∷ [])) ≡ filter p (map f xs) ++ cond (p (f x)) (f x ∷ []) []
  filter_push = ap (filter p) (map-append f xs (x ∷ [])) ∙ filter-append p (map f xs) (f x ∷ [])

  pub filter_push_passes : p (f x) ≡ true → filter p (map f (xs ++ x ∷ [])) ≡ filter p (map f xs) ++ f x ∷ []
  filter_push_passes e = filter_push ∙ ap (λ b. filter p (map f xs) ++ cond b (f x ∷ []) []) e

  pub filter_push_fails : p (f x) ≡ false → filter p (map f (xs ++ x ∷ [])) ≡ filter p (map f xs)
  filter_push_fails e = filter_push ∙ ap (λ b. filter p (map f xs) ++ cond b (f x ∷ []) []) e ∙ append-nil (filter p (map f xs))
