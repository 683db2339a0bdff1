use Rattle.std.proofs.Common.{[], arith}
use Rattle.key_index_flat.proofs.closures.KeptLemmas.{lawful_edit, IsCounted-with_list, within_count}
use Rattle.key_index_flat.proofs.index.storage.Storage.remove.Goals as goal

pub overflow_sub-self : goal.overflow_sub-self
overflow_sub-self g c =
    let within = within_count g.met.T.Key.Ord.total c.self.inside.lists.content c.args.slot _ c.self.invariant in
    omega (arith, within, c.remove-taken.ensures.taken)

pub invariant_of-self : goal.invariant_of-self
invariant_of-self g c =
    let within = within_count g.met.T.Key.Ord.total c.self.inside.lists.content c.args.slot _ c.self.invariant in
    IsCounted-with_list g.met.T.Key.Ord.total _ _ c.args.slot [] _ _ c.self.invariant c.remove-taken.ensures.content (omega (arith, within, c.remove-taken.ensures.taken))

pub returns-clause-lawful : goal.returns-clause-lawful
returns-clause-lawful g c = lawful_edit g.met.T.Key.Ord.total _ _ c.args.slot [] c.self.invariant.lawful c.remove-taken.ensures.content
