use Rattle.std.proofs.Common.{◌≡◌, ◌-◌}
use Rattle.core.specs.Mem.Slots.{slots_items, slots_filled, slots_ptr, slots_len}
use Rattle.key_index_map.proofs.Moving.{Emptied}
use Rattle.key_index_map.proofs.table.Table.drop.Given as goal

-- the cells so far are empty, and the pairs of the others stand there
abbrev pub invariant-loop-cell : goal.invariant-loop-cell
invariant-loop-cell g l = Emptied l.tags (slots_items l.row) (slots_filled l.row) l.cell × (l.deed.at ≡ slots_ptr l.row) × (l.deed.len ≡ slots_len l.row)

abbrev pub decreases-loop-cell : goal.decreases-loop-cell
decreases-loop-cell g l = slots_len l.row - l.cell
