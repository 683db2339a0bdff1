use Rattle.std.proofs.Common.{◌≡◌, ◌+◌, ◌≤◌, length, map}
use Rattle.key_index_parts.specs.Buckets.{stands}
use Rattle.key_index_parts.specs.Standing.{spilled_in}
use Rattle.key_index_parts.specs.Form.{held_by, is_spilled}
use Rattle.key_index_parts.proofs.index.partitioned.storage.Storage+T+V+SortedBucket+T+V+P.spilled_count.Given as goal

abbrev pub invariant-loop-bucket : goal.invariant-loop-bucket
invariant-loop-bucket g l =
    (l.count + spilled_in (map (λ b. stands (held_by g.T.Key.Ord.cmp (λ t. t.lists.content) b.form) (is_spilled b.form)) l.rest) ≡ spilled_in l.fn.self.standings.buckets)
    × (l.count + length l.rest ≤ length l.fn.self.standings.buckets)

abbrev pub decreases-loop-bucket : goal.decreases-loop-bucket
decreases-loop-bucket g l = length l.rest
