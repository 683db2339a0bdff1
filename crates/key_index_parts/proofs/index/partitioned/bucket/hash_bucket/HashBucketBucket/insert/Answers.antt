use Rattle.std.proofs.Common.{◌∷◌}
use Rattle.key_index_flat.specs.Content.{list_at}
use Rattle.key_index_parts.proofs.buckets.HashBucketLemmas.{lawful_put}
use Rattle.key_index_parts.proofs.index.partitioned.bucket.hash_bucket.HashBucketBucket.insert.Goals as goal

pub invariant_of-self : goal.invariant_of-self
invariant_of-self g c =
    let lists = c.args.self.now.lists.content in
    let list = c.args.value ∷ list_at g.T.Key.Ord.cmp lists c.args.key in
    record { lawful = lawful_put g.met.T.Key.Ord.total lists c.insert.new.self.content c.args.key list c.insert.result c.args.self.now.lawful c.insert.ensures.accepted c.insert.ensures.refused }
