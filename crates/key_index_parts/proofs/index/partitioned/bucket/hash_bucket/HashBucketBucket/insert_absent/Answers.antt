use Rattle.std.proofs.Common.{[], ◌∷◌}
use Rattle.key_index_parts.proofs.buckets.HashBucketLemmas.{lawful_absent}
use Rattle.key_index_parts.proofs.index.partitioned.bucket.hash_bucket.HashBucketBucket.insert_absent.Goals as goal

pub invariant_of-self : goal.invariant_of-self
invariant_of-self g c =
    let told = c.insert_absent.ensures in
    record { lawful = lawful_absent g.met.T.Key.Ord.total c.args.self.now.lists.content c.insert_absent.new.self.content c.args.key (c.args.value ∷ []) c.insert_absent.result c.args.self.now.lawful told.found told.inserted told.refused }
