-- Ranges: some neighbouring partitions of an index, apart from it. `s` is the view of an index, and `t` that of a range.
--     RangeView        a range as contracts see it, by pairs of a partition's number and an index key there
--     range_kind       the kind of its index; range_view: what it holds; kind_in_range, view_in_range: those of the range in a handle
--     has_partitions   whether an index of a kind has so many partitions from one on; range_refusal: why no range of these was made
--     IsNewRange       of an index of a kind, these partitions, with no values
--     is_covered       whether a key is of one of its partitions
--     after_offer      a value is inserted under a key, if that is covered; after_offers: the first so many values, in turn
--     IsCoveredAt      there is a key of a number, and it is covered
--     CanInstall       it is of the index's kind, and the index has no value in its partitions
--     with_range       an index with what a range holds
use Rattle.std.specs.Prelude.{◌≡◌, ℕ, zero, suc, ◌+◌, ◌<◌, Bool, false, IsTrue, ◌&&◌, nat_lt, nat_le, if◌then◌else◌, List, length, slice_index, Option, Some, None}
use Rattle.std.specs.declared.cmp.Ordering.{Ordering}
use Rattle.std.specs.Ordering.{nat_cmp}
use Rattle.key_index_flat.specs.View.{View, after_insert}
use Rattle.key_index_parts.specs.Gathered.{pair_cmp}
use Rattle.key_index_parts.specs.Joined.{IsFree, is_between, joined_view}
use Rattle.key_index_parts.specs.Prefix.{partition_count}
use Rattle.key_index_parts.specs.Range as parts
use Rattle.key_index_parts.specs.Ranges.{empty_view}
use Rattle.key_index_c.specs.Any.{prefix_of}
use Rattle.key_index_c.specs.Calls.{key_of}
use Rattle.key_index_c.specs.Views.{AnyView, ByNumber, ByPair}
use Rattle.key_index_c.specs.declared.any_range.AnyRange.{AnyRange}
use Rattle.key_index_c.specs.declared.any_range.AnyRange.TheVariants.{UnorderedByOne, UnorderedByTwo, OrderedByOne, OrderedByTwo}
use Rattle.key_index_c.specs.declared.range.Range.{Range}

abbrev pub RangeView : Type 0
RangeView = View (ℕ × ℕ) ℕ

abbrev pub range_kind : AnyRange → ℕ
range_kind (UnorderedByOne range) = 3
range_kind (UnorderedByTwo range) = 4
range_kind (OrderedByOne range) = 5
range_kind (OrderedByTwo range) = 6

abbrev pub range_view : AnyRange → RangeView
range_view (UnorderedByOne range) = parts.range_view range
range_view (UnorderedByTwo range) = parts.range_view range
range_view (OrderedByOne range) = parts.range_view range
range_view (OrderedByTwo range) = parts.range_view range

-- that of what is no range
abbrev pub no_range : RangeView
no_range = empty_view (λ _. (0, 0)) (λ _. false)

abbrev pub kind_of_held_range : Option AnyRange → ℕ
kind_of_held_range None = 0
kind_of_held_range (Some range) = range_kind range

abbrev pub kind_in_range : Range → ℕ
kind_in_range range = kind_of_held_range range.held

abbrev pub view_of_held_range : Option AnyRange → RangeView
view_of_held_range None = no_range
view_of_held_range (Some range) = range_view range

abbrev pub view_in_range : Range → RangeView
view_in_range range = view_of_held_range range.held

abbrev pub has_partitions : ℕ → ℕ → ℕ → Bool
has_partitions kind first count =
    nat_lt 2 kind && nat_lt kind 7 && nat_le (first + count) (partition_count (prefix_of kind))

abbrev pub range_refusal : ℕ → ℕ → ℕ → ℕ
range_refusal kind first count = if has_partitions kind first count then 1 else 4

abbrev pub empty_range : AnyView → ℕ → ℕ → RangeView
empty_range (ByNumber s) first count = no_range
empty_range (ByPair s) first count = empty_view s.slot (λ slot. is_between first (first + count) slot.0)

abbrev pub IsNewRange : ℕ → AnyView → ℕ → ℕ → ℕ → RangeView → Type 0
IsNewRange kind s first count made t =
    (made ≡ kind) × IsTrue (has_partitions kind first count) × (t ≡ empty_range s first count)

abbrev pub is_covered : {K : Type 0} → View K ℕ → List ℕ → Bool
is_covered t key = t.admitted (t.slot key)

module _ {K : Type 0} (cmp : K → K → Ordering) (first : Bool) where
  abbrev pub after_offer : View K ℕ → List ℕ → ℕ → View K ℕ
  after_offer t key value = if is_covered t key then after_insert cmp first t key value else t

  abbrev pub after_offers : View K ℕ → List ℕ → List ℕ → List ℕ → ℕ → View K ℕ
  after_offers t keys ends values zero = t
  after_offers t keys ends values (suc n) =
      after_offer (after_offers t keys ends values n) (key_of keys ends n) (slice_index values n)

abbrev pub IsCoveredAt : {K : Type 0} → View K ℕ → List ℕ → List ℕ → ℕ → Type 0
IsCoveredAt t keys ends n = (n < length ends) × IsTrue (is_covered t (key_of keys ends n))

abbrev pub IsFreeFor : AnyView → RangeView → Type 0
IsFreeFor (ByNumber s) t = ⊥
IsFreeFor (ByPair s) t = IsFree (pair_cmp nat_cmp) t.admitted s.content

abbrev pub CanInstall : ℕ → AnyView → ℕ → RangeView → Type 0
CanInstall kind s made t = (kind ≡ made) × IsFreeFor s t

abbrev pub with_range : AnyView → RangeView → AnyView
with_range (ByNumber s) t = ByNumber s
with_range (ByPair s) t = ByPair (joined_view (pair_cmp nat_cmp) s t)
