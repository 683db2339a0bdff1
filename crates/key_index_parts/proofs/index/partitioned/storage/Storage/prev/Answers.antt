use Rattle.std.proofs.Common.{◌≡◌, refl, ap}
use Rattle.key_index_parts.specs.Buckets.{bucket_at}
use Rattle.key_index_parts.proofs.buckets.BucketLemmas.{bucket_seen}
use Rattle.key_index_parts.proofs.buckets.BucketNeighbours.{prev_list-gathered}
use Rattle.key_index_parts.proofs.index.partitioned.storage.Storage.prev.Given.{Over}
use Rattle.key_index_parts.proofs.index.partitioned.storage.Storage.prev.Goals.{After-index}
use Rattle.key_index_parts.proofs.index.partitioned.storage.Storage.prev.Goals as goal

slot_bucket : (g : Over) (c : After-index g) → g.X.Contents.content c.index.result.now ≡ bucket_at c.args.self.now.buckets c.args.slot.0
slot_bucket g c = bucket_seen g.X.Contents.content c.self.inside.buckets.items (ap (λ s. s.buckets) c.self.view_is) c.requires c.index.ensures

pub returns-in-Some : goal.returns-in-Some
returns-in-Some g c = prev_list-gathered g.T.Key.Ord.cmp c.args.self.now.buckets c.args.slot (slot_bucket g (goal.at.returns-in-Some g c).After-index) c.in-Some.ensures refl refl

pub returns-in-Some-last_below : goal.returns-in-Some-last_below
returns-in-Some-last_below g c = prev_list-gathered g.T.Key.Ord.cmp c.args.self.now.buckets c.args.slot (slot_bucket g (goal.at.returns-in-Some-last_below g c).After-index) c.in-None.ensures c.in-Some-last_below.ensures refl

pub returns-in-Some-last : goal.returns-in-Some-last
returns-in-Some-last g c = prev_list-gathered g.T.Key.Ord.cmp c.args.self.now.buckets c.args.slot (slot_bucket g (goal.at.returns-in-Some-last g c).After-index) c.in-None.ensures c.in-None-last_below.ensures c.in-Some-last.ensures

pub returns-in-None-last : goal.returns-in-None-last
returns-in-None-last g c = prev_list-gathered g.T.Key.Ord.cmp c.args.self.now.buckets c.args.slot (slot_bucket g (goal.at.returns-in-None-last g c).After-index) c.in-None.ensures c.in-None-last_below.ensures c.in-None-last.ensures
