use Rattle.std.proofs.Common.{◌≡◌, ◌+◌, [], ◌∷◌, ◌++◌, take, sym, ap, subst, ◌∙◌, arith}
use Rattle.std.specs.Fn.{CalledAt}
use Rattle.std.proofs.lemmas.List.{take_more, take_all}
use Rattle.key_index_flat.specs.Storage.{tail_at}
use Rattle.key_index_flat.specs.Values.{VisitsInTurn}
use Rattle.key_index_flat.proofs.content.ValueLemmas.{all_values, in_turn, visits_more}
use Rattle.key_index_flat.proofs.index.storage.list_map.visit_few.Goals as goal

pub loop-key-preserved : goal.loop-key-preserved
loop-key-preserved g c =
    let tail = tail_at g.E.End.FIRST g.K.PartialEq.eq c.args.tails.now.map in
    let heads = c.args.heads.now in
    let e : g.row.K.Denot × g.row.V.Denot = c.loop-key-item.result in
    let next : take (c.loop-key.key-index + 1) heads ≡ take c.loop-key.key-index heads ++ e ∷ [] =
    take_more heads c.loop-key.key-index e (omega (arith, c.loop-key-test.true)) ∙ ap (λ x. take c.loop-key.key-index heads ++ x ∷ []) (sym c.loop-key-item.is) in
    let list = subst (λ l. VisitsInTurn (CalledAt g.F.FnMut) c.loop-key.visit l c.visit_in_turn.new.visit) c.list.ensures c.visit_in_turn.ensures.visited in (
      subst (λ es. VisitsInTurn (CalledAt g.F.FnMut) c.args.visit.now (in_turn tail es) c.visit_in_turn.new.visit) (sym next)
          (visits_more tail (CalledAt g.F.FnMut) c.args.visit.now c.loop-key.visit c.visit_in_turn.new.visit (take c.loop-key.key-index heads) e c.loop-key.invariant.0 list),
      c.visit_in_turn.ensures.callable,
    )

pub returns-clause-visits : goal.returns-clause-visits
returns-clause-visits g c =
    let tail = tail_at g.E.End.FIRST g.K.PartialEq.eq c.args.tails.now.map in
    let heads = c.args.heads.now in (
      in_turn tail heads,
      all_values g.met.K.Ord.total tail heads c.requires.linked.sized,
      subst (λ es. VisitsInTurn (CalledAt g.F.FnMut) c.args.visit.now (in_turn tail es) c.loop-key.visit) (take_all c.loop-key.key-index heads (omega (arith, c.loop-key-test.false))) c.loop-key.invariant.0,
    )
