use Rattle.std.proofs.Common.{ap, ◌∙◌}
use Rattle.key_index_parts.specs.Buckets.{held_at}
use Rattle.key_index_parts.proofs.buckets.BucketLemmas.{bucket_taken}
use Rattle.key_index_parts.proofs.buckets.StorageLemmas.{held_told}
use Rattle.key_index_parts.proofs.index.partitioned.storage.Storage.get.Goals as goal

pub returns : goal.returns
returns g c =
    let bucket = bucket_taken g.X.Contents.content c.self.inside.buckets.items (ap (λ s. s.buckets) c.self.view_is) c.requires c.index.ensures in
    c.get.ensures ∙ held_told g.T.Key.Ord.cmp bucket c.args.slot.1 ∙ ap (λ s. held_at g.T.Key.Ord.cmp s.buckets c.args.slot) c.self.view_is
