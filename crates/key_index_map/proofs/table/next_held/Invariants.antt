use Rattle.std.proofs.Common.{◌≤◌, ◌<◌, ◌-◌, ℕ, slice_index}
use Rattle.key_index_map.proofs.table.next_held.Given as goal

abbrev pub invariant-loop-cell : goal.invariant-loop-cell
invariant-loop-cell l = (l.from ≤ l.cell) × (l.from ≤ l.end → l.cell ≤ l.end) × ((i : ℕ) → l.from ≤ i → i < l.cell → slice_index l.tags i < 3)

abbrev pub decreases-loop-cell : goal.decreases-loop-cell
decreases-loop-cell l = l.end - l.cell
