use Rattle.std.proofs.Common.{◌≤◌, ◌*◌, ◌-◌}
use Rattle.key_index_map.specs.Table.{NoneIn}
use Rattle.key_index_map.proofs.table.Table.search.Given as goal

abbrev pub invariant-loop-group : goal.invariant-loop-group
invariant-loop-group g l = (l.from ≤ l.group) × NoneIn g.K.PartialEq.eq l.self (16 * l.from) (16 * l.group) l.key

abbrev pub decreases-loop-group : goal.decreases-loop-group
decreases-loop-group g l = l.to - l.group
