use Rattle.std.proofs.Common.{refl}
use borrow.Author.Rules.{of_calls}
use Rattle.key_index_flat.specs.Visits.{VisitsAt}
use Rattle.key_index_flat.proofs.closures.VisitLemmas.{folds_shown}
use Rattle.key_index_parts.proofs.index.partitioned.ordered.together.show_list.Goals as goal

pub loop-value-preserved : goal.loop-value-preserved
loop-value-preserved g c =
    let value = c.in-Some.value in (
      search of_calls,
      folds_shown (VisitsAt g.F.FnMut) (λ v. (c.args.place, v)) (λ value. value.now) c.args.visit c.loop-value.visit c.visit.new.self c.loop-value.yielded value c.loop-value.invariant.1 (value, refl, c.visit.ensures),
    )
