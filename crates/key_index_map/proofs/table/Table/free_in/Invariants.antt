use Rattle.std.proofs.Common.{◌≤◌, ◌*◌, ◌-◌}
use Rattle.key_index_map.specs.Table.{NoneFree}
use Rattle.key_index_map.proofs.table.Table.free_in.Given as goal

abbrev pub invariant-loop-group : goal.invariant-loop-group
invariant-loop-group g l = (l.from ≤ l.group) × NoneFree l.self (16 * l.from) (16 * l.group)

abbrev pub decreases-loop-group : goal.decreases-loop-group
decreases-loop-group g l = l.to - l.group
