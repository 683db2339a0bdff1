use Rattle.std.proofs.Common.{◌≤◌, length, subst, sym, arith}
use Rattle.std.proofs.lemmas.List.Edits.{length-insert}
use Rattle.key_index_flat.specs.Content.{list_at}
use Rattle.key_index_flat.proofs.closures.KeptLemmas.{lawful_edit, IsCounted-with_list}
use Rattle.key_index_flat.proofs.index.storage.Storage.insert_at.Goals as goal

pub invariant_of-self : goal.invariant_of-self
invariant_of-self g c =
    let list = list_at g.T.Key.Ord.cmp c.self.inside.lists.content c.args.slot in
    let more = length-insert list c.args.place c.args.value (subst (λ s. c.args.place ≤ length (list_at g.T.Key.Ord.cmp s.content c.args.slot)) (sym c.self.view_is) c.requires.place) in
    IsCounted-with_list g.met.T.Key.Ord.total _ _ _ _ _ _ c.self.invariant c.in-Ok.ensures.accepted (omega (arith, more))

pub returns-in-Ok-clause-lawful : goal.returns-in-Ok-clause-lawful
returns-in-Ok-clause-lawful g c = lawful_edit g.met.T.Key.Ord.total _ _ _ _ c.self.invariant.lawful c.in-Ok.ensures.accepted
