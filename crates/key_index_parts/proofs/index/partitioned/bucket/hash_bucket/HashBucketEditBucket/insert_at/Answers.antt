use Rattle.key_index_parts.proofs.buckets.HashBucketLemmas.{absent_too, lawful_put}
use Rattle.key_index_parts.proofs.index.partitioned.bucket.hash_bucket.HashBucketEditBucket.insert_at.Goals as goal

pub invariant_of-self : goal.invariant_of-self
invariant_of-self g c = record { lawful = lawful_put g.met.T.Key.Ord.total c.args.self.now.lists.content _ c.args.key _ c.insert_at.result c.args.self.now.lawful c.insert_at.ensures.accepted c.insert_at.ensures.refused }

pub returns-clause-accepted : goal.returns-clause-accepted
returns-clause-accepted g c = absent_too _ c.insert_at.result _ c.insert_at.ensures.accepted c.insert_at.ensures.absent
