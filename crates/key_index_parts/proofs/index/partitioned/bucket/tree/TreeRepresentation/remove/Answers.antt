use Rattle.std.proofs.Common.{[], arith}
use Rattle.key_index_flat.proofs.closures.KeptLemmas.{IsCounted-with_list, within_count}
use Rattle.key_index_parts.proofs.index.partitioned.bucket.tree.TreeRepresentation.remove.Goals as goal

pub overflow_sub-self : goal.overflow_sub-self
overflow_sub-self g c =
    let within = within_count g.met.T.Key.Ord.total c.args.self.now.lists.content c.args.key _ c.args.self.now.counted in
    omega (arith, within, c.remove-taken.ensures.taken)

pub invariant_of-self : goal.invariant_of-self
invariant_of-self g c =
    let within = within_count g.met.T.Key.Ord.total c.args.self.now.lists.content c.args.key _ c.args.self.now.counted in
    record { counted = IsCounted-with_list g.met.T.Key.Ord.total _ _ c.args.key [] _ _ c.args.self.now.counted c.remove-taken.ensures.content (omega (arith, within, c.remove-taken.ensures.taken)) }
