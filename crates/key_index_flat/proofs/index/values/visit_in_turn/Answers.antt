use Rattle.std.proofs.Common.{[], ◌∷◌, map, refl, sym, subst}
use Rattle.std.proofs.lemmas.Fn.{FoldsTo-push}
use Rattle.std.proofs.lemmas.List.{map-append}
use Rattle.std.specs.Fn.{CalledAt}
use borrow.Author.Rules.{of_calls}
use Rattle.key_index_flat.specs.Values.{VisitsInTurn}
use Rattle.key_index_flat.proofs.index.values.visit_in_turn.Goals as goal

pub loop-value-preserved : goal.loop-value-preserved
loop-value-preserved g c =
    let so_far = map (λ value. value.now) c.loop-value.yielded in (
      subst (λ l. VisitsInTurn (CalledAt g.F.FnMut) c.args.visit.now l c.visit.new.self) (sym (map-append (λ value. value.now) c.loop-value.yielded (c.in-Some.value ∷ [])))
          (FoldsTo-push (λ p v q. CalledAt g.F.FnMut p v tt q) c.args.visit.now so_far c.loop-value.visit c.in-Some.value.now c.visit.new.self c.loop-value.invariant.0
          (record { shown = c.in-Some.value; shows = refl; called = c.visit.ensures })),
      search of_calls,
    )
