use Rattle.std.proofs.Common.{List, ◌∷◌, ◌++◌, length, sym, ap, ◌∙◌, arith}
use Rattle.std.specs.Option.{option_to_list}
use Rattle.key_index_flat.specs.Neighbours.{entries_above}
use Rattle.key_index_flat.specs.Walk.{lists_of, lists_behind}
use Rattle.key_index_flat.proofs.neighbours.WalkLemmas.{above_next}
use Rattle.key_index_flat.proofs.index.walk.WalkIterator.next.Goals as goal

pub returns-clause-steps : goal.returns-clause-steps
returns-clause-steps g c =
    let cmp = g.I.Key.Ord.cmp in
    let content = (g.I.Runs.view c.self.inside.index.now).content in
    let entry : g.row.I-Key.Denot × List g.row.I-Value.Denot = (c.in_ok-slot.slot, c.in_ok-slot.values) in
    let next = above_next g.met.I.Key.Ord.total content c.in_ok-self.field-0 entry (g.met.I.Runs.lawful c.self.inside.index.now).0 (sym c.in_ok-slot.ensures) in
    sym c.self.view_is ∙ (λ i. option_to_list (sym c.in_default.ensures.value i) ++ lists_behind cmp content (c.in_ok-self.was i))
    ∙ ap lists_of next ∙ ap (λ found. c.in_ok-slot.values ∷ option_to_list found ++ lists_of (entries_above cmp content c.in_ok-slot.slot)) (sym c.take.ensures.after)

pub returns-clause-goes : goal.returns-clause-goes
returns-clause-goes g c =
    let shorter = ap (λ l. length l) (returns-clause-steps g c) in
    record { on = λ _. (tt, tt, omega (arith, shorter)); keeps = tt; rests = λ _. tt }
