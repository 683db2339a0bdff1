use Rattle.std.proofs.Common.{[]}
use Rattle.key_index_flat.proofs.closures.KeptLemmas.{lawful_edit}
use Rattle.key_index_parts.proofs.index.partitioned.bucket.hash_bucket.HashBucketBucket.remove.Goals as goal

pub invariant_of-self : goal.invariant_of-self
invariant_of-self g c = record { lawful = lawful_edit g.met.T.Key.Ord.total _ _ c.args.key [] c.args.self.now.lawful c.remove.ensures.content }
