use Rattle.std.proofs.Common.{◌∷◌, arith}
use Rattle.key_index_flat.specs.Content.{list_at}
use Rattle.key_index_flat.proofs.closures.KeptLemmas.{lawful_edit, IsCounted-with_list}
use Rattle.key_index_flat.proofs.index.storage.Storage.insert.Goals as goal

pub invariant_of-self : goal.invariant_of-self
invariant_of-self g c = IsCounted-with_list g.met.T.Key.Ord.total _ _ c.args.slot (c.args.value ∷ list_at g.T.Key.Ord.cmp c.self.inside.lists.content c.args.slot) _ _ c.self.invariant c.in-Ok.ensures.accepted (omega arith)

pub returns-in-Ok-clause-lawful : goal.returns-in-Ok-clause-lawful
returns-in-Ok-clause-lawful g c = lawful_edit g.met.T.Key.Ord.total _ _ c.args.slot (c.args.value ∷ list_at g.T.Key.Ord.cmp c.self.inside.lists.content c.args.slot) c.self.invariant.lawful c.in-Ok.ensures.accepted
