use Rattle.std.proofs.Common.{arith}
use Rattle.key_index_parts.proofs.pairs.ZipLemmas.{length-zip}
use Rattle.key_index_parts.proofs.index.partitioned.ordered.partition.Partition.len.Goals as goal

pub returns : goal.returns
returns g c = let e = length-zip _ _ c.self.invariant.sized in rw (← c.self.view_is) (omega (arith, e))
