use Rattle.std.proofs.Common.{◌≡◌, false, replicate, sym, subst, arith}
use Rattle.core.specs.Mem.Slots.{slots_items, slots_filled, slots_len}
use Rattle.key_index_map.proofs.Moving.{one_gone, all_emptied}
use Rattle.key_index_map.proofs.table.Table.drop.Goals as goal

pub loop-cell-preserved : goal.loop-cell-preserved
loop-cell-preserved g c =
    let row = c.loop-cell.row in (
      one_gone c.self.inside.tags (slots_items row) (slots_filled row) c.loop-cell.cell c.loop-cell.invariant.0 _ _ (grind arith)
          (omega (arith, c.loop-cell-test.true, c.len.ensures, row.ok.0)) (omega (arith, c.loop-cell-test.true, c.len.ensures, row.ok.1)) (λ had. grind arith) (λ low. grind arith),
      grind arith,
      grind arith,
    )

pub release_emptied-requires-clause-empty : goal.release_emptied-requires-clause-empty
release_emptied-requires-clause-empty g c =
    let row = c.loop-cell.row in
    subst (λ r. slots_filled r ≡ replicate (slots_len r) false) (sym c.into_slots.ensures)
    (all_emptied c.self.inside.tags (slots_items row) (slots_filled row) c.loop-cell.cell c.loop-cell.invariant.0 (slots_len row) row.ok.1 (omega (arith, c.loop-cell-test.false, c.len.ensures)))
