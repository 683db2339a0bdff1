use Rattle.std.proofs.Common.{◌<◌, length-set, arith}
use Rattle.key_index_flat.specs.Content.{item_count, list_at}
use Rattle.key_index_parts.proofs.standing.SortedBucketLemmas.{some_left}
use Rattle.key_index_parts.proofs.index.partitioned.bucket.sorted_bucket.SortedBucketEditBucket.set_at.Goals as goal

pub invariant_of-self-in-Spilled : goal.invariant_of-self-in-Spilled
invariant_of-self-in-Spilled g c =
    let tree = c.deref_mut.result.now in
    let held = tree.lists.content in
    let some : 0 < item_count held = rw c.deref_mut.ensures.value (rw c.in-Spilled.is at c.args.self.now.filled) in
    let long = length-set (list_at g.T.Key.Ord.cmp held c.args.key) c.args.place c.args.value in
    record {
      filled = some_left g.met.T.Key.Ord.total held c.set_at-in-Spilled.new.self.lists.content c.args.key _ tree.counted.lawful some (omega (arith, long)) c.set_at-in-Spilled.ensures.content;
    }
