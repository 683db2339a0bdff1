use Rattle.std.proofs.Common.{arith}
use Rattle.std.proofs.Math.ListN.{length-set}
use Rattle.key_index_flat.specs.Content.{list_at}
use Rattle.key_index_flat.proofs.closures.KeptLemmas.{lawful_edit, IsCounted-with_list}
use Rattle.key_index_flat.proofs.index.storage.Storage.set_at.Goals as goal

pub invariant_of-self : goal.invariant_of-self
invariant_of-self g c =
    let list = list_at g.T.Key.Ord.cmp c.self.inside.lists.content c.args.slot in
    let same = length-set list c.args.place c.args.value in
    IsCounted-with_list g.met.T.Key.Ord.total _ _ _ _ _ _ c.self.invariant c.set_at.ensures.content (omega (arith, same))

pub returns-clause-lawful : goal.returns-clause-lawful
returns-clause-lawful g c = lawful_edit g.met.T.Key.Ord.total _ _ _ _ c.self.invariant.lawful c.set_at.ensures.content
