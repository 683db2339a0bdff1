use Rattle.std.proofs.lemmas.Result.{IfOk-weaker}
use Rattle.key_index_parts.proofs.buckets.HashBucketLemmas.{lawful_kept}
use Rattle.key_index_parts.proofs.index.partitioned.bucket.hash_bucket.HashBucketBucket.retain.Goals as goal

pub invariant_of-self : goal.invariant_of-self
invariant_of-self g c =
    let told = c.retain.ensures in
    record {
      lawful = lawful_kept g.met.T.Key.Ord.total c.args.self.now.lists.content c.retain.new.self.content c.args.key c.retain.result c.args.self.now.lawful
          (IfOk-weaker c.retain.result _ _ (λ told h. (h.0, h.2)) told.accepted) told.refused;
    }
