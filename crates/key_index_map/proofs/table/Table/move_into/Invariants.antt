use Rattle.std.proofs.Common.{◌≡◌, ◌-◌, ◌+◌, ◌*◌, ◌<◌, ◌≤◌}
use Rattle.core.specs.Mem.Slots.{slots_items, slots_filled, slots_ptr, slots_len}
use Rattle.key_index_map.specs.Table.{pairs}
use Rattle.key_index_map.proofs.Moving.{Through}
use Rattle.key_index_map.proofs.table.Table.move_into.Given as goal

-- the pairs of the cells so far have moved, in a group up to its end
abbrev pub invariant-loop-cell-2 : goal.invariant-loop-cell-2
invariant-loop-cell-2 g l =
    Through g.met.K.Eq.laws l.tags (slots_items l.initial.row) (slots_items l.row) (slots_filled l.row) l.cell (pairs l.new) l.fn.new.spare l.new.spare
    × (l.deed.at ≡ slots_ptr l.row) × (l.deed.len ≡ slots_len l.row) × (16 * l.group ≤ l.cell) × (l.cell ≤ l.end) × (l.end ≤ 16 * l.group + 16) × (l.end ≤ slots_len l.row)
    × (l.end < slots_len l.row → l.end ≡ 16 * l.group + 16) × (16 * l.group < slots_len l.row)

abbrev pub decreases-loop-cell-2 : goal.decreases-loop-cell-2
decreases-loop-cell-2 g l = l.end - l.cell

-- and between groups
abbrev pub invariant-loop-cell : goal.invariant-loop-cell
invariant-loop-cell g l =
    Through g.met.K.Eq.laws l.tags (slots_items l.initial.row) (slots_items l.row) (slots_filled l.row) l.cell (pairs l.new) l.initial.new.spare l.new.spare
    × (l.deed.at ≡ slots_ptr l.row) × (l.deed.len ≡ slots_len l.row) × (l.cell < slots_len l.row → l.cell ≡ 16 * l.group)

abbrev pub decreases-loop-cell : goal.decreases-loop-cell
decreases-loop-cell g l = slots_len l.row - l.cell
