use Rattle.std.proofs.Common.{length, ap, ◌∙◌, arith}
use Rattle.core.specs.Mem.Slots.{slots_items}
use Rattle.key_index_map.specs.Table.{pairs}
use Rattle.key_index_map.proofs.Places.{element}
use Rattle.key_index_map.proofs.table.Table.grow.Goals as goal

-- an empty cell has a pair too
pub into_table-new-requires : goal.into_table-new-requires
into_table-new-requires g c = (element (slots_items c.self.inside.row) 0 c.self.invariant.0.any).0

pub move_into-requires-clause-room : goal.move_into-requires-clause-room
move_into-requires-clause-room g c =
    let old = ap (λ x. length (pairs x)) c.swap.ensures.y_after in
    let counted = c.self.invariant.0.counted ∙ ap (λ x. length (pairs x)) c.self.view_is in
    let spare = ap (λ x. x.spare) c.swap.ensures.x_after in
    omega (arith, old, counted, spare, c.into_table-new.ensures.room, c.in_ok-with_cells.ensures, c.in-Some-cells_for.ensures.1, c.in-Some.ensures)
