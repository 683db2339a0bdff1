-- Pairs in an array with a tag of each of the first sixteen keys.
--     tag_of          the tag of a key, by what it feeds a hasher
--     IsAt            the pair at the place has the key
--     NoneBefore      no pair before the place has the key
--     AreTagged       the first sixteen pairs have their keys' tags
--     AreTaggedBut    the first sixteen have, but for the pair at a place
--     entries_in      the pairs in the array, or in the table
--     IsFew           they stand in the array
use Rattle.std.specs.Prelude.{◌≡◌, ◌≢◌, ℕ, ◌/◌, ◌^◌, ◌<◌, Bool, true, false, List, Some, ⊤, slice_get, slice_index, length}
use Rattle.std.specs.List.{fold}
use Rattle.key_index_map.specs.Table.{Cells, pairs}
use Rattle.key_index_flat.specs.declared.index.storage.small_map.Kept.{Kept}
use Rattle.key_index_flat.specs.declared.index.storage.small_map.Kept.TheVariants.{Few, Many}
use Rattle.std.specs.Hash.FoldHasher as hasher

unfoldable pub tag_of : List (List ℕ) → ℕ
tag_of input = hasher.finish (fold hasher.write hasher.initial input) / 2 ^ 56

pub record IsAt {K V : Type 0} (eq : K → K → Bool) (pairs : List (K × V)) (place : ℕ) (k : K) : Type 0 where
  pub within : place < length pairs
  pub pair : (e : K × V) → slice_get pairs place ≡ Some e → eq k e.0 ≡ true

abbrev pub NoneBefore : {K V : Type 0} → (K → K → Bool) → List (K × V) → ℕ → K → Type 0
NoneBefore {K} {V} eq pairs place k = (i : ℕ) (e : K × V) → i < place → slice_get pairs i ≡ Some e → eq k e.0 ≡ false

abbrev pub AreTagged : {K V : Type 0} → (K → List (List ℕ)) → List ℕ → List (K × V) → Type 0
AreTagged {K} {V} input tags pairs =
    (i : ℕ) (e : K × V) → i < 16 → slice_get pairs i ≡ Some e → slice_index tags i ≡ tag_of (input e.0)

abbrev pub AreTaggedBut : {K V : Type 0} → (K → List (List ℕ)) → List ℕ → List (K × V) → ℕ → Type 0
AreTaggedBut {K} {V} input tags pairs place =
    (i : ℕ) (e : K × V) → i < 16 → i ≢ place → slice_get pairs i ≡ Some e → slice_index tags i ≡ tag_of (input e.0)

abbrev pub entries_in : {K V : Type 0} → Kept (List (K × V)) (Cells K V) → List (K × V)
entries_in (Few pairs) = pairs
entries_in (Many table) = pairs table

abbrev pub IsFew : {K V : Type 0} → Kept (List (K × V)) (Cells K V) → Type 0
IsFew (Few pairs) = ⊤
IsFew (Many table) = ⊥
