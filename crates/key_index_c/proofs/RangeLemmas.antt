-- What a range covers and holds as it goes through keys; and whether it can be installed, told of equal ones.
use Rattle.std.proofs.Common.{◌≡◌, ℕ, zero, suc, ◌+◌, Bool, true, false, List, refl, sym, ap, subst, ◌∙◌, add-one}
use Rattle.std.specs.Prelude.{if◌then◌else◌, slice_index, slice_range}
use Rattle.std.specs.declared.cmp.Ordering.{Ordering}
use Rattle.key_index_flat.specs.View.{View, after_insert}
use Rattle.key_index_c.specs.Any.{any_view, kind_of}
use Rattle.key_index_c.specs.Calls.{key_of, start_of}
use Rattle.key_index_c.specs.Ranges.{CanInstall, after_offer, after_offers, is_covered, range_kind, range_view}
use Rattle.key_index_c.specs.declared.any.Any.{Any}
use Rattle.key_index_c.specs.declared.any_range.AnyRange.{AnyRange}

module _ {K : Type 0} (cmp : K → K → Ordering) (first : Bool) where
  covered-after_offer : (t : View K ℕ) (key : List ℕ) (value : ℕ) (other : List ℕ)
      → is_covered (after_offer cmp first t key value) other ≡ is_covered t other
  covered-after_offer t key value other =
      elim (is_covered t key) as (λ b. is_covered (if b then after_insert cmp first t key value else t) other ≡ is_covered t other) [
        | true ↦ refl
        | false ↦ refl
      ]

  pub covered-after_offers : (t : View K ℕ) (keys ends values : List ℕ) (n : ℕ) (other : List ℕ)
      → is_covered (after_offers cmp first t keys ends values n) other ≡ is_covered t other
  covered-after_offers t keys ends values zero other = refl
  covered-after_offers t keys ends values (suc n) other =
      covered-after_offer (after_offers cmp first t keys ends values n) (key_of keys ends n) (slice_index values n) other
      ∙ covered-after_offers t keys ends values n other

  -- now: what the first n left; start: where the key of that number begins
  pub covered-key : (t now : View K ℕ) (keys ends values : List ℕ) (n start : ℕ) → start ≡ start_of ends n
      → now ≡ after_offers cmp first t keys ends values n
      → is_covered now (slice_range keys start (slice_index ends n)) ≡ is_covered t (key_of keys ends n)
  covered-key t now keys ends values n start from left =
      ap (λ s. is_covered s (slice_range keys start (slice_index ends n))) left
      ∙ covered-after_offers t keys ends values n (slice_range keys start (slice_index ends n))
      ∙ ap (λ m. is_covered t (slice_range keys m (slice_index ends n))) from

  pub next-after_offers : (t now new : View K ℕ) (keys ends values : List ℕ) (n start : ℕ) → start ≡ start_of ends n
      → now ≡ after_offers cmp first t keys ends values n
      → new ≡ after_offer cmp first now (slice_range keys start (slice_index ends n)) (slice_index values n)
      → new ≡ after_offers cmp first t keys ends values (n + 1)
  next-after_offers t now new keys ends values n start from left offered =
      offered
      ∙ ap (λ m. after_offer cmp first now (slice_range keys m (slice_index ends n)) (slice_index values n)) from
      ∙ ap (λ s. after_offer cmp first s (key_of keys ends n) (slice_index values n)) left
      ∙ sym (ap (after_offers cmp first t keys ends values) (add-one n))

abbrev pub AreFit : Any → AnyRange → Type 0
AreFit any range = CanInstall (kind_of any) (any_view any) (range_kind range) (range_view range)

pub AreFit-equal : (any any' : Any) (range range' : AnyRange) → any ≡ any' → range ≡ range' → AreFit any range → AreFit any' range'
AreFit-equal any any' range range' e f fit = subst (λ x. AreFit x range') e (subst (λ y. AreFit any y) f fit)
