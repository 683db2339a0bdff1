use Rattle.std.proofs.Common.{[], ◌∷◌, Bor, map, sym, subst}
use Rattle.std.proofs.lemmas.Iterator.Consumers.{YieldsList-end, YieldsList-from_first}
use Rattle.std.proofs.lemmas.List.{map-append}
use Rattle.std.specs.Fn.{CalledAt}
use Rattle.key_index_flat.specs.Storage.{tail_at}
use Rattle.key_index_flat.specs.Values.{VisitsInTurn}
use Rattle.key_index_flat.proofs.content.ValueLemmas.{all_values, in_turn, visits_more}
use Rattle.key_index_flat.proofs.index.storage.list_map.visit_all.Goals as goal

pub loop-pair-preserved : goal.loop-pair-preserved
loop-pair-preserved g c =
    let tail = tail_at g.E.End.FIRST g.K.PartialEq.eq c.args.tails.now.map in
    let shown : Bor (g.row.K.Denot × g.row.V.Denot) → g.row.K.Denot × g.row.V.Denot = λ x. x.now in
    let e : g.row.K.Denot × g.row.V.Denot = c.in-Some.pair.now in
    let list = subst (λ l. VisitsInTurn (CalledAt g.F.FnMut) c.loop-pair.visit l c.visit_in_turn.new.visit) c.list.ensures c.visit_in_turn.ensures.visited in (
      subst (λ es. VisitsInTurn (CalledAt g.F.FnMut) c.args.visit.now (in_turn tail es) c.visit_in_turn.new.visit)
          (sym (map-append shown c.loop-pair.yielded (c.in-Some.pair ∷ [])))
          (visits_more tail (CalledAt g.F.FnMut) c.args.visit.now c.loop-pair.visit c.visit_in_turn.new.visit (map shown c.loop-pair.yielded) e c.loop-pair.invariant.0 list),
      c.visit_in_turn.ensures.callable,
    )

pub returns-clause-visits : goal.returns-clause-visits
returns-clause-visits g c =
    let tail = tail_at g.E.End.FIRST g.K.PartialEq.eq c.args.tails.now.map in
    let entries = c.args.heads in
    let end = YieldsList-end (YieldsList-from_first (λ x. x.now) (λ pairs. pairs) entries c.into_iter-pair-iterator.ensures.into_iter_gives) c.loop-pair.yielded _ c.loop-pair.yielded_by _ _ c.in-None.is c.next.ensures.steps in (
      in_turn tail entries,
      all_values g.met.K.Ord.total tail entries c.requires.linked.sized,
      subst (λ es. VisitsInTurn (CalledAt g.F.FnMut) c.args.visit.now (in_turn tail es) c.loop-pair.visit) end.0 c.loop-pair.invariant.0,
    )
