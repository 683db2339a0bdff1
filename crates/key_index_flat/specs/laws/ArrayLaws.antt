-- The laws of arrays as keys.
--     array_cmp-total    their order is total
--     array_cmp-exact    arrays that compare equal are one
--     array-keeps_order  arrays of keys in the order of bytes are in order
use Rattle.std.proofs.Common.{ℕ}
use Rattle.std.proofs.lemmas.Map.Lookups.{CmpEqualImpliesEq, exact_bytes}
use Rattle.std.specs.Cmp.{IsTotalOrder}
use Rattle.std.specs.Cmp.Lexicographic.{on_texts}
use Rattle.key_index_flat.specs.Arrays.{array_of, array_cmp}
use Rattle.key_index_flat.specs.laws.CapOrder.{padded-keeps_order}
use Rattle.key_index_flat.specs.Neighbours.{KeepsOrder}
use Rattle.key_index_flat.specs.declared.translator.array.UnhashedArray.{UnhashedArray}

pub array_cmp-total : (n : ℕ) → IsTotalOrder (array_cmp {n = n})
array_cmp-total n = on_texts (λ (a : UnhashedArray n). a.inner)

pub array_cmp-exact : (n : ℕ) → CmpEqualImpliesEq (array_cmp {n = n})
array_cmp-exact n a b e i = record { inner = exact_bytes a.inner b.inner e i }

pub array-keeps_order : (n : ℕ) → KeepsOrder array_cmp (array_of n)
array-keeps_order n = padded-keeps_order n
