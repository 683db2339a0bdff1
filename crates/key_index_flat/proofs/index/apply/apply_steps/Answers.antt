use Rattle.std.proofs.Common.{length, sym, ap, ◌∙◌, arith}
use Rattle.std.specs.Vec.Iter.{into_iter_items, into_iter_len}
use Rattle.key_index_flat.proofs.runs.RunLemmas.{EditsBy-flag, run_first, run_more, run_all, empty-by_count}
use Rattle.key_index_flat.proofs.index.apply.apply_steps.Goals as goal

pub steps-init : goal.steps-init
steps-init g c =
    let start = c.args.cursor.now in
    let iter = c.into_iter-rest in
    record {
      known = iter.ensures.len ∙ c.args.steps.ok.0 ∙ ap (λ l. length l) (sym iter.ensures.rest);
      runs = run_first g.met.I.Key.Ord.total g.met.I.Runs.exact start (g.met.I.Runs.lawful start.index.now) c.args.steps.items (into_iter_items iter.result) c.args.flags.now iter.ensures.rest c.requires;
    }

pub steps-preserved : goal.steps-preserved
steps-preserved g c =
    let start = c.args.cursor.now in
    let at = c.steps in
    let split = c.in-Some.ensures.items in
    let long = ap (λ l. length l) split in
    let known = at.invariant.known in
    let len = c.in-Some.ensures.len in
    let said = c.step.ensures in
    let flag = EditsBy-flag g.met.I.Key.Ord.total g.met.I.Runs.exact at.cursor (g.met.I.Runs.lawful at.cursor.index.now) c.step.new.self c.in-Some.step c.unwrap_or.result c.step.result c.unwrap_or.ensures said.allowed said.edited said.room said.refused in
    record {
      known = omega (arith, long, known, len);
      runs = run_more g.met.I.Key.Ord.total g.met.I.Runs.exact start (g.met.I.Runs.lawful start.index.now) c.args.steps.items (into_iter_items at.rest) (into_iter_items c.next.new.self) c.in-Some.step at.at at.flags c.unwrap_or.result at.cursor c.step.new.self split flag at.invariant.runs;
    }

pub returns : goal.returns
returns g c =
    let start = c.args.cursor.now in
    let at = c.steps in
    run_all g.met.I.Key.Ord.total g.met.I.Runs.exact start (g.met.I.Runs.lawful start.index.now) c.args.steps.items (into_iter_items at.rest) at.at at.flags at.cursor (empty-by_count (into_iter_items at.rest) (into_iter_len at.rest) at.invariant.known c.in_default.ensures.cases.0) at.invariant.runs
