use Rattle.std.proofs.Common.{arith}
use Rattle.std.proofs.lemmas.List.Edits.{length-insert}
use Rattle.key_index_flat.specs.Content.{list_at}
use Rattle.key_index_flat.proofs.closures.KeptLemmas.{IsCounted-with_list}
use Rattle.key_index_parts.proofs.index.partitioned.bucket.tree.TreeEditBucket.insert_at.Goals as goal

pub invariant_of-self-2 : goal.invariant_of-self-2
invariant_of-self-2 g c =
    let more = length-insert (list_at g.T.Key.Ord.cmp c.args.self.now.lists.content c.args.key) c.args.place c.args.value c.requires in
    record { counted = IsCounted-with_list g.met.T.Key.Ord.total _ _ _ _ _ _ c.args.self.now.counted c.in_ok-absent.ensures.accepted (omega (arith, more)) }
