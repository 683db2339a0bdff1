use Rattle.std.proofs.Common.{◌≡◌, false, ◌≤◌, [], length, All, vec_capacity}
use Rattle.key_index_parts.specs.Buckets.{stands}
use Rattle.key_index_parts.proofs.index.partitioned.storage.Storage.new.Given as goal

abbrev pub invariant-loop : goal.invariant-loop
invariant-loop g l =
    (length l.buckets.items ≡ l.counter) × (l.count ≤ vec_capacity l.buckets) × All (λ bucket. g.X.Contents.content bucket ≡ []) l.buckets.items
    × All (λ bucket. stands (g.X.Contents.content bucket) (g.X.Contents.spilled bucket) ≡ record { entries = 0; spilled = false }) l.buckets.items
