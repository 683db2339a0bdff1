use Rattle.std.proofs.Common.{refl}
use borrow.Author.Rules.{of_calls}
use Rattle.key_index_flat.proofs.closures.VisitLemmas.{folds_shown}
use Rattle.key_index_parts.specs.Ahead.{TellsAt, Visit}
use Rattle.key_index_parts.proofs.index.partitioned.ordered.ahead.visit.Goals as goal

pub loop-value-preserved : goal.loop-value-preserved
loop-value-preserved g c =
    let value = c.in-Some.value in (
      search of_calls,
      folds_shown (TellsAt g.F.FnMut) (λ v. Visit c.args.place v) (λ value. value.now) c.args.on.now c.loop-value.on c.on.new.self c.loop-value.yielded value c.loop-value.invariant.1 (value, refl, c.on.ensures),
    )
