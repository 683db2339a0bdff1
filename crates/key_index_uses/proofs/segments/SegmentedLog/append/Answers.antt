use Rattle.std.proofs.Common.{arith}
use Rattle.key_index.proofs.positions.PruneLemmas.{past_key}
use Rattle.key_index_uses.proofs.segments.SegmentedLog.append.Goals as goal

pub insert-requires-clause-free : goal.insert-requires-clause-free
insert-requires-clause-free g c = past_key c.self.inside.index c.self.inside.next (omega (arith, c.self.invariant))
