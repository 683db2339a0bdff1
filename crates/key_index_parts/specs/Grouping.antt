-- When two keys have one index key, and how index keys stand to each other.
--     ComparesAs cmp slot bytes    index keys `slot` compare by `cmp` as what `bytes` makes of the keys does, byte by byte, and two
--                                  are one exactly where these are
use Rattle.std.specs.Prelude.{◌≡◌, ◌↔◌, ℕ, List}
use Rattle.std.specs.declared.cmp.Ordering.{Ordering}
use Rattle.key_index_flat.specs.FullKeys.{IsBytes, byte_cmp}

abbrev pub ComparesAs : {K : Type 0} → (K → K → Ordering) → (List ℕ → K) → (List ℕ → List ℕ) → Type 0
ComparesAs cmp slot bytes =
    (a b : List ℕ) → IsBytes a → IsBytes b
    → (cmp (slot a) (slot b) ≡ byte_cmp (bytes a) (bytes b)) × ((slot a ≡ slot b) ↔ (bytes a ≡ bytes b))
