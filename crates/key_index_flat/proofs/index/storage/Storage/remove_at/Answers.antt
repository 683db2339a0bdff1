use Rattle.std.proofs.Common.{◌<◌, length, subst, sym, arith}
use Rattle.std.proofs.lemmas.List.Edits.{length-remove}
use Rattle.key_index_flat.specs.Content.{list_at}
use Rattle.key_index_flat.proofs.closures.KeptLemmas.{lawful_edit, IsCounted-with_list, within_count}
use Rattle.key_index_flat.proofs.index.storage.Storage.remove_at.Goals as goal

pub overflow_sub-self : goal.overflow_sub-self
overflow_sub-self g c =
    let list = list_at g.T.Key.Ord.cmp c.self.inside.lists.content c.args.slot in
    let within = within_count g.met.T.Key.Ord.total c.self.inside.lists.content c.args.slot _ c.self.invariant in
    let place : c.args.place < length list = subst (λ s. c.args.place < length (list_at g.T.Key.Ord.cmp s.content c.args.slot)) (sym c.self.view_is) c.requires.place in
    omega (arith, within, place)

pub invariant_of-self : goal.invariant_of-self
invariant_of-self g c =
    let list = list_at g.T.Key.Ord.cmp c.self.inside.lists.content c.args.slot in
    let within = within_count g.met.T.Key.Ord.total c.self.inside.lists.content c.args.slot _ c.self.invariant in
    let place : c.args.place < length list = subst (λ s. c.args.place < length (list_at g.T.Key.Ord.cmp s.content c.args.slot)) (sym c.self.view_is) c.requires.place in
    let less = length-remove list c.args.place place in
    IsCounted-with_list g.met.T.Key.Ord.total _ _ _ _ _ _ c.self.invariant c.remove_at-value.ensures.content (omega (arith, within, place, less))

pub returns-clause-lawful : goal.returns-clause-lawful
returns-clause-lawful g c = lawful_edit g.met.T.Key.Ord.total _ _ _ _ c.self.invariant.lawful c.remove_at-value.ensures.content
