use Rattle.std.proofs.Common.{slice_index, nat_lt, sym, ◌∙◌, arith}
use Rattle.key_index.proofs.tables.TableLemmas.{find_past}
use Rattle.key_index.proofs.table.free_between.Goals as goal

pub loop-cell-preserved : goal.loop-cell-preserved
loop-cell-preserved c =
    find_past (λ i. nat_lt (slice_index c.args.controls.now i) 2) c.loop-cell.cell c.args.to (omega arith) (sym c.is_free_at.ensures ∙ c.if-is_free_at.false)
    ∙ c.loop-cell.invariant
