use Rattle.std.proofs.Common.{length-set, arith}
use Rattle.key_index_flat.specs.Content.{list_at}
use Rattle.key_index_flat.proofs.closures.KeptLemmas.{IsCounted-with_list}
use Rattle.key_index_parts.proofs.index.partitioned.bucket.tree.TreeEditBucket.set_at.Goals as goal

pub invariant_of-self : goal.invariant_of-self
invariant_of-self g c =
    let same = length-set (list_at g.T.Key.Ord.cmp c.args.self.now.lists.content c.args.key) c.args.place c.args.value in
    record { counted = IsCounted-with_list g.met.T.Key.Ord.total _ _ _ _ _ _ c.args.self.now.counted c.set_at.ensures.content (omega (arith, same)) }
