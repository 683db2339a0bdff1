use Rattle.std.proofs.Common.{sym, subst, ◌∙◌, ap}
use Rattle.std.specs.List.{FoldsTo}
use Rattle.key_index_flat.specs.View.{run_at}
use Rattle.key_index_flat.specs.Visits.{VisitsAt, visits_of}
use Rattle.key_index_flat.proofs.closures.VisitLemmas.{folds_append, visits_append}
use Rattle.key_index_parts.specs.Gathered.{pair_cmp}
use Rattle.key_index_parts.specs.Ordered.{view}
use Rattle.key_index_parts.proofs.index.partitioned.ordered.together.show_together.Goals as goal

pub few-preserved : goal.few-preserved
few-preserved g c =
    let run = run_at (pair_cmp g.T.Key.Ord.cmp) (view c.args.index.now) in
    let visits = VisitsAt g.F.FnMut in
    let few = c.split_at.result.0.now in
    let behind = c.split_at.result.1.now in
    let all = c.split_at.ensures.by_index.0 in (
      c.show_few-visit.ensures.again,
      λ last h. c.few.invariant.1 last
          (subst (λ l. FoldsTo visits c.few.visit l last) (sym (ap (visits_of run) all ∙ visits_append run few behind))
          (folds_append visits c.few.visit c.show_few-visit.result last (visits_of run few) (visits_of run behind) c.show_few-visit.ensures.visited h)),
    )
