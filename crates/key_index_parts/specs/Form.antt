-- The form of a bucket that spills: arrays, or a tree in a box.
--     is_spilled          whether it is a tree
--     HoldsSome           its tree, if it is one, holds something
--     HoldsSome-prop      which has one proof at most
--     held_by             what it holds, by what a tree holds
--     IsLawful-held_by    the law of contents holds of it
--     filled-held_by      it holds something where it is a tree
use denote.Struct.Props as logic
use Rattle.std.specs.Prelude.{◌<◌, Bool, true, false, IsTrue, Box}
use Rattle.std.specs.Cmp.{IsTotalOrder}
use Rattle.std.specs.declared.cmp.Ordering.{Ordering}
use Rattle.key_index_flat.specs.Content.{Content, IsLawful, item_count}
use Rattle.key_index_parts.specs.Pairs.{grouped}
use Rattle.key_index_parts.specs.declared.index.partitioned.bucket.sorted_arrays.SortedArrays.{SortedArrays}
use Rattle.key_index_parts.specs.declared.index.partitioned.bucket.sorted_bucket.Form.{Form}
use Rattle.key_index_parts.specs.declared.index.partitioned.bucket.sorted_bucket.Form.TheVariants.{Inline, Spilled}
use Rattle.key_index_parts.specs.laws.PairLaws.{IsLawful-grouped}
use Rattle.key_index_parts.specs.laws.StandingLaws.{inline_filled}

abbrev pub is_spilled : {A B : Type 0} → Form A B → Bool
is_spilled (Inline arrays) = false
is_spilled (Spilled tree) = true

module _ {A X B K V : Type 0} (content : X → Content K V) where
  abbrev pub HoldsSome : Form A (Box X B) → Type 0
  HoldsSome (Inline arrays) = Unit {0}
  HoldsSome (Spilled tree) = 0 < item_count (content tree.value)

  pub HoldsSome-prop : (form : Form A (Box X B)) → IsProp (HoldsSome form)
  HoldsSome-prop (Inline arrays) = Prim.hlevel logic.props
  HoldsSome-prop (Spilled tree) = Prim.hlevel logic.props

module _ {T K V X B : Type 0} (cmp : K → K → Ordering) (content : X → Content K V) where
  abbrev pub held_by : Form (SortedArrays T V K) (Box X B) → Content K V
  held_by (Inline arrays) = grouped cmp arrays.pairs.pairs
  held_by (Spilled tree) = content tree.value

  pub IsLawful-held_by : IsTotalOrder cmp → ((x : X) → IsLawful cmp (content x)) → (form : Form (SortedArrays T V K) (Box X B))
      → IsLawful cmp (held_by form)
  IsLawful-held_by total lawful (Inline arrays) = IsLawful-grouped total arrays.pairs.pairs
  IsLawful-held_by total lawful (Spilled tree) = lawful tree.value

  pub filled-held_by : (form : Form (SortedArrays T V K) (Box X B)) → HoldsSome content form → IsTrue (is_spilled form)
      → 0 < item_count (held_by form)
  filled-held_by (Inline arrays) some h = inline_filled (item_count (grouped cmp arrays.pairs.pairs)) h
  filled-held_by (Spilled tree) some h = some
