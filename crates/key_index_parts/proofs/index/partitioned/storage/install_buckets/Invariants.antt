use Rattle.std.proofs.Common.{◌≡◌, ◌+◌, ◌≤◌, length, map}
use Rattle.std.specs.Vec.Iter.{into_iter_items}
use Rattle.key_index_parts.specs.Buckets.{filled_buckets, with_items_from}
use Rattle.key_index_parts.proofs.index.partitioned.storage.install_buckets.Given as goal

abbrev pub invariant-loop-bucket : goal.invariant-loop-bucket
invariant-loop-bucket g l =
    (length l.buckets.items ≡ length l.fn.buckets.items) × (l.number + length (into_iter_items l.rest) ≤ length l.buckets.items)
    × (with_items_from l.buckets.items l.number (into_iter_items l.rest) ≡ with_items_from l.fn.buckets.items l.fn.first l.fn.others.items)
    × (l.filled ≡ filled_buckets (map g.X.Contents.content l.buckets.items))

abbrev pub decreases-loop-bucket : goal.decreases-loop-bucket
decreases-loop-bucket g l = length (into_iter_items l.rest)
