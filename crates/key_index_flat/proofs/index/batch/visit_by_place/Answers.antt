use Rattle.std.proofs.Common.{ap, ◌∙◌, arith}
use Rattle.std.proofs.lemmas.List.{length_push}
use Rattle.key_index_flat.specs.View.{run_at}
use Rattle.key_index_flat.specs.Visits.{VisitsAt}
use Rattle.key_index_flat.proofs.closures.VisitLemmas.{folds_key}
use Rattle.key_index_flat.proofs.index.batch.visit_by_place.Goals as goal

pub loop-key-preserved : goal.loop-key-preserved
loop-key-preserved g c =
    let i = c.loop-key.invariant in
    let left = c.in-Some.ensures.goes.on i.1 in
    let less = left.2 in
    let room = i.2 in
    let long = length_push c.loop-key.yielded c.in-Some.key in
    let count = i.3 in
    let view = g.I.Runs.view c.args.index.now in (
      left.0,
      left.1,
      omega (arith, less, room),
      omega (arith, long, count),
      c.visit_list-visit.ensures.again,
      folds_key view.slot g.B.Item.AsSlice.items c.loop-key.yielded c.in-Some.key c.loop-key.place c.as_slice.result.now count c.as_slice.ensures (run_at g.I.Key.Ord.cmp view) (VisitsAt g.F.FnMut)
          c.args.visit c.loop-key.visit c.visit_list-visit.result c.list_at.result (c.list_at.ensures ∙ ap (run_at g.I.Key.Ord.cmp view) c.slot_of.ensures) i.5 c.visit_list-visit.ensures.visited,
    )
