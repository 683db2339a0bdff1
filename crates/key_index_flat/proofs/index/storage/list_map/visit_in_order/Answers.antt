use Rattle.std.proofs.Common.{[], ◌∷◌, map, ap, sym, subst, ◌∙◌}
use Rattle.std.proofs.lemmas.List.{map-append}
use Rattle.std.proofs.lemmas.Map.Iter.{iter_end}
use Rattle.std.specs.Fn.{CalledAt}
use Rattle.std.specs.Map.Iter.{deref_pair}
use Rattle.key_index_flat.specs.Storage.{tail_at}
use Rattle.key_index_flat.specs.Values.{VisitsInTurn}
use Rattle.key_index_flat.proofs.content.ValueLemmas.{all_values, in_turn, visits_more}
use Rattle.key_index_flat.proofs.index.storage.list_map.visit_in_order.Goals as goal

pub loop-key-preserved : goal.loop-key-preserved
loop-key-preserved g c =
    let tail = tail_at g.E.End.FIRST g.K.PartialEq.eq c.args.tails.now.map in
    let e : g.row.K.Denot × g.row.V.Denot = (c.in-Some.key.now, c.in-Some.head.now) in
    let list = subst (λ l. VisitsInTurn (CalledAt g.F.FnMut) c.loop-key.visit l c.visit_in_turn.new.visit) (c.list.ensures ∙ ap (λ k. c.in-Some.head.now ∷ tail k) c.get.ensures) c.visit_in_turn.ensures.visited in (
      subst (λ es. VisitsInTurn (CalledAt g.F.FnMut) c.args.visit.now (in_turn tail es) c.visit_in_turn.new.visit)
          (sym (map-append deref_pair c.loop-key.yielded ((c.in-Some.key, c.in-Some.head) ∷ [])))
          (visits_more tail (CalledAt g.F.FnMut) c.args.visit.now c.loop-key.visit c.visit_in_turn.new.visit (map deref_pair c.loop-key.yielded) e c.loop-key.invariant.0 list),
      c.visit_in_turn.ensures.callable,
    )

pub returns-clause-visits : goal.returns-clause-visits
returns-clause-visits g c =
    let tail = tail_at g.E.End.FIRST g.K.PartialEq.eq c.args.tails.now.map in
    let entries = c.args.heads.now.entries in
    let end = iter_end deref_pair entries c.loop-key.yielded _ _ _ _ (c.into_iter-key-iterator.ensures.into_iter_gives ∙ c.iter-key-items.ensures.rest)
    c.loop-key.yielded_by c.in-None.is c.next.ensures.steps in (
      in_turn tail entries,
      all_values g.met.K.Ord.total tail entries c.requires.linked.sized,
      subst (λ es. VisitsInTurn (CalledAt g.F.FnMut) c.args.visit.now (in_turn tail es) c.loop-key.visit) end.0 c.loop-key.invariant.0,
    )
