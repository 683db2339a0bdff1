use Rattle.std.proofs.Common.{length, sym, ap, ◌∙◌, arith}
use Rattle.std.specs.Vec.Iter.{into_iter_items, into_iter_len}
use Rattle.key_index_flat.proofs.runs.RunLemmas.{empty-by_count}
use Rattle.key_index_parts.proofs.builds.FillLemmas.{fill_first, fill_more, fill_all, fill_stops, IfErr-IsErrAnd}
use Rattle.key_index_parts.proofs.index.partitioned.builds.fill.fill_steps.Goals as goal

pub steps-init : goal.steps-init
steps-init g c =
    let start = c.args.cursor.now in
    let iter = c.into_iter-rest in
    record {
      known = iter.ensures.len ∙ c.args.steps.ok.0 ∙ ap (λ l. length l) (sym iter.ensures.rest);
      fills = fill_first g.met.R.Key.Ord.total g.met.R.Runs.exact start (g.met.R.Runs.lawful start.index.now) c.args.steps.items (into_iter_items iter.result) iter.ensures.rest;
    }

pub steps-preserved : goal.steps-preserved
steps-preserved g c =
    let start = c.args.cursor.now in
    let at = c.steps in
    let split = c.in-Some.ensures.items in
    let long = ap (λ l. length l) split in
    let known = at.invariant.known in
    let len = c.in-Some.ensures.len in
    record {
      known = omega (arith, long, known, len);
      fills = fill_more g.met.R.Key.Ord.total g.met.R.Runs.exact start (g.met.R.Runs.lawful start.index.now) c.args.steps.items (into_iter_items at.rest) (into_iter_items c.next.new.self) c.in-Some.step at.cursor c.step.new.self split c.in_ok-step.ensures.edited at.invariant.fills;
    }

pub returns-clause-filled : goal.returns-clause-filled
returns-clause-filled g c =
    let start = c.args.cursor.now in
    let at = c.steps in
    fill_all g.met.R.Key.Ord.total g.met.R.Runs.exact start (g.met.R.Runs.lawful start.index.now) c.args.steps.items (into_iter_items at.rest) at.cursor (empty-by_count (into_iter_items at.rest) (into_iter_len at.rest) at.invariant.known c.in_default.ensures.cases.0) at.invariant.fills

pub returns-in_err-step-clause-refused : goal.returns-in_err-step-clause-refused
returns-in_err-step-clause-refused g c =
    let at = c.steps in
    IfErr-IsErrAnd _ c.from_residual.result c.in_err-step.field-0.0 c.from_residual.ensures.1 (fill_stops c.args.steps.items (into_iter_items at.rest) c.args.cursor.now at.cursor _ c.in_err-step.ensures.fault at.invariant.fills)
