use Rattle.std.proofs.Common.{◌≡◌, ◌≤◌, ◌+◌, ◌-◌, ◌*◌}
use Rattle.key_index_map.specs.Table.{NoneIn}
use Rattle.key_index_map.proofs.table.Table.scan.Given as goal

abbrev pub invariant-loop-cell : goal.invariant-loop-cell
invariant-loop-cell g l =
    (l.end ≡ 16 * l.group + 16) × (16 * l.group ≤ l.cell) × (l.cell ≤ l.end) × NoneIn g.K.PartialEq.eq l.self (16 * l.group) l.cell l.key

abbrev pub decreases-loop-cell : goal.decreases-loop-cell
decreases-loop-cell g l = l.end - l.cell
