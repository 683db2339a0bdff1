use Rattle.std.proofs.Common.{◌<◌, ◌≤◌, length, not, arith}
use Rattle.std.proofs.lemmas.List.Edits.{length-insert}
use Rattle.std.specs.List.{insert}
use Rattle.key_index_flat.specs.Content.{is_filled, item_count, list_at}
use Rattle.key_index_parts.proofs.standing.SortedBucketLemmas.{item_count-stays_positive}
use Rattle.key_index_parts.proofs.index.partitioned.bucket.sorted_bucket.SortedBucketEditBucket.insert_at.Goals as goal

pub invariant_of-self-in-Spilled : goal.invariant_of-self-in-Spilled
invariant_of-self-in-Spilled g c =
    let tree = c.deref_mut.result.now in
    let held = tree.lists.content in
    let l = list_at g.T.Key.Ord.cmp held c.args.key in
    let some : 0 < item_count held = rw c.deref_mut.ensures.value (rw c.in-Spilled.is at c.args.self.now.filled) in
    let upto : c.args.place ≤ length l = rw c.deref_mut.ensures.value (rw c.in-Spilled.is at c.requires) in
    let long = length-insert l c.args.place c.args.value upto in
    record {
      filled = item_count-stays_positive g.met.T.Key.Ord.total c.insert_at-in-Spilled.result held c.insert_at-in-Spilled.new.self.lists.content c.args.key (λ m. insert m c.args.place c.args.value)
          (not (is_filled l)) tree.counted.lawful some (omega (arith, long)) c.insert_at-in-Spilled.ensures.accepted c.insert_at-in-Spilled.ensures.refused;
    }
