use Rattle.std.proofs.Common.{◌≢◌, ◌+◌, ◌<◌, ◌++◌, slice_index, sym, ap, ◌∙◌, arith}
use Rattle.std.proofs.lemmas.Bool.{eqb-true, eqb-false}
use Rattle.std.specs.List.{range_with_len}
use Rattle.key_index.specs.Table.{marked}
use Rattle.key_index.proofs.tables.TableLemmas.{range_step, marked_here, marked_past}
use Rattle.key_index.proofs.table.Places.next.Goals as goal

pub returns-then-has : goal.returns-then-has
returns-then-has c =
    let s = c.loop-self.self-inside in
    let lt : s.next < s.end = omega arith in
    let used : slice_index s.controls s.next ≢ 0 = eqb-false _ _ (sym c.is_empty_at.ensures ∙ c.if-is_empty_at.false) in
    sym c.loop-self.invariant.same
    ∙ ap (λ l. marked s.controls (s.wanted + 2) (l ++ range_with_len 0 s.rest)) (range_step s.next s.end lt)
    ∙ marked_here s.controls (s.wanted + 2) s.next _ used (eqb-true _ _ (sym c.has.ensures ∙ c.if-has.true))

pub loop-self-preserved : goal.loop-self-preserved
loop-self-preserved c =
    let s = c.loop-self.self-inside in
    let lt : s.next < s.end = omega arith in
    let used : slice_index s.controls s.next ≢ 0 = eqb-false _ _ (sym c.is_empty_at.ensures ∙ c.if-is_empty_at.false) in
    record {
      same = sym (ap (λ l. marked s.controls (s.wanted + 2) (l ++ range_with_len 0 s.rest)) (range_step s.next s.end lt)
          ∙ marked_past s.controls (s.wanted + 2) s.next _ used (eqb-false _ _ (sym c.has.ensures ∙ c.if-has.false))) ∙ c.loop-self.invariant.same;
      next = omega arith;
      end = omega arith;
      rest = omega arith;
      fits = c.loop-self.invariant.fits;
    }

pub overflow_add-self : goal.overflow_add-self
overflow_add-self c = omega (arith, c.loop-self.invariant.next, c.loop-self.invariant.end, c.loop-self.invariant.fits, c.if-self.false)
