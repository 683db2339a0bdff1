-- Arrays of bytes as translated keys.
--     array_of n b    what a cap of n bytes makes of a key, as an array
--     array_cmp       the order of arrays, which is that of their bytes
use Rattle.std.specs.Prelude.{ℕ, List}
use Rattle.std.specs.declared.cmp.Ordering.{Ordering}
use Rattle.key_index_flat.specs.FullKeys.{byte_cmp}
use Rattle.key_index_flat.specs.Padding.{padded}
use Rattle.key_index_flat.specs.declared.translator.array.UnhashedArray.{UnhashedArray}

abbrev pub array_of : (n : ℕ) → List ℕ → UnhashedArray n
array_of n b = record { inner = padded n b }

abbrev pub array_cmp : {n : ℕ} → UnhashedArray n → UnhashedArray n → Ordering
array_cmp a b = byte_cmp a.inner b.inner
