use Rattle.std.proofs.Common.{length, refl, sym, ap, arith}
use Rattle.std.proofs.lemmas.Map.Made.{keys_of-zip}
use Rattle.key_index_parts.proofs.pairs.ZipLemmas.{length-zip, values_of-zip}
use Rattle.key_index_parts.proofs.index.partitioned.ordered.partition.Partition.set.Goals as goal

pub index_mut-requires : goal.index_mut-requires
index_mut-requires g c = omega (arith, c.self.invariant.sized, length-zip _ _ c.self.invariant.sized, ap (λ s. length s.pairs) c.self.view_is)

pub returns-clause-pairs : goal.returns-clause-pairs
returns-clause-pairs g c = rw (← c.self.view_is, keys_of-zip _ _ (sym c.self.invariant.sized), values_of-zip _ _ c.self.invariant.sized) refl
