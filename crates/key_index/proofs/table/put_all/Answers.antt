use Rattle.std.proofs.Common.{◌≡◌, ◌<◌, length, Some, subst, sym, ap, ◌∙◌, arith, refl}
use Rattle.std.proofs.lemmas.Bool.{ltb-true, ltb-false}
use Rattle.key_index.proofs.tables.TableCopies.{Copied, Copied-past, put_copies, put_kept, put_long, copied_files}
use Rattle.key_index.proofs.table.put_all.Goals as goal

pub loop-cell-preserved-then-is_free_at : goal.loop-cell-preserved-then-is_free_at
loop-cell-preserved-then-is_free_at g c = record {
  long = c.loop-cell.invariant.long;
  copied = Copied-past _ _ _ _ c.loop-cell.cell (omega (arith, c.loop-cell-test.true, c.len-cell-end.ensures)) (ltb-true _ _ (sym c.is_free_at.ensures ∙ c.if-is_free_at.true)) c.loop-cell.invariant.copied;
  kept = c.loop-cell.invariant.kept;
}

pub loop-cell-preserved : goal.loop-cell-preserved
loop-cell-preserved g c =
    let before = c.loop-cell.invariant in
    let within : c.loop-cell.cell < length c.args.controls.now = omega (arith, c.loop-cell-test.true, c.len-cell-end.ensures) in
    let full = ltb-false _ _ (sym c.is_free_at.ensures ∙ c.if-is_free_at.false) in
    record {
      long = put_long _ _ _ _ _ _ _ c.put.ensures ∙ before.long;
      copied = put_copies c.args.controls.now c.args.positions.now _ _ c.loop-cell.cell _ _ _ _ _ c.put.ensures before.copied within full refl;
      kept = λ m a r.
          let has = a.held c.loop-cell.cell full in
          let same : c.resolver-hash.result ≡ has.0 = (r _ has.0 has.1).1 c.resolver-hash.result c.resolver-hash.ensures in
          put_kept c.args.controls.now c.args.positions.now _ _ c.loop-cell.cell _ _ _ _ _ c.put.ensures before.copied within full refl m a
          (has.1 ∙ ap Some (sym same)) (before.kept m a r);
    }

pub returns-clause-files : goal.returns-clause-files
returns-clause-files g c = λ m a r.
    let all : c.loop-cell.cell ≡ length c.args.controls.now = omega arith in
    copied_files c.args.controls.now c.args.positions.now _ _ m a
    (subst (λ n. Copied c.args.controls.now c.args.positions.now c.loop-cell.new_controls c.loop-cell.new_positions.items n) all c.loop-cell.invariant.copied)
    (c.loop-cell.invariant.kept m a r)
