use Rattle.std.proofs.Common.{◌<◌, ◌-◌, ◌^◌}
use Rattle.key_index_map.proofs.table.cells_for.Given as goal

abbrev pub invariant-loop-cells : goal.invariant-loop-cells
invariant-loop-cells l = 0 < l.cells

abbrev pub decreases-loop-cells : goal.decreases-loop-cells
decreases-loop-cells l = 2 ^ 64 - l.cells
