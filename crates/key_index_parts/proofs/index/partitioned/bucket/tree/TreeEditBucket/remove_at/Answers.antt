use Rattle.std.proofs.Common.{arith}
use Rattle.std.proofs.lemmas.List.Edits.{length-remove}
use Rattle.key_index_flat.specs.Content.{list_at}
use Rattle.key_index_flat.proofs.closures.KeptLemmas.{IsCounted-with_list, within_count}
use Rattle.key_index_parts.proofs.index.partitioned.bucket.tree.TreeEditBucket.remove_at.Goals as goal

pub overflow_sub-self : goal.overflow_sub-self
overflow_sub-self g c =
    let within = within_count g.met.T.Key.Ord.total c.args.self.now.lists.content c.args.key _ c.args.self.now.counted in
    omega (arith, within, c.requires)

pub invariant_of-self : goal.invariant_of-self
invariant_of-self g c =
    let within = within_count g.met.T.Key.Ord.total c.args.self.now.lists.content c.args.key _ c.args.self.now.counted in
    let less = length-remove (list_at g.T.Key.Ord.cmp c.args.self.now.lists.content c.args.key) c.args.place c.requires in
    record { counted = IsCounted-with_list g.met.T.Key.Ord.total _ _ _ _ _ _ c.args.self.now.counted c.remove_at-removed.ensures.content (omega (arith, within, less, c.requires)) }
