use Rattle.std.proofs.Common.{◌≡◌, refl, ap}
use Rattle.key_index_parts.specs.Buckets.{bucket_at}
use Rattle.key_index_parts.proofs.buckets.BucketLemmas.{bucket_seen}
use Rattle.key_index_parts.proofs.buckets.BucketNeighbours.{next_list-gathered}
use Rattle.key_index_parts.proofs.index.partitioned.storage.Storage.next.Given.{Over}
use Rattle.key_index_parts.proofs.index.partitioned.storage.Storage.next.Goals.{After-index}
use Rattle.key_index_parts.proofs.index.partitioned.storage.Storage.next.Goals as goal

told_here : (g : Over) (c : After-index g) → g.X.Contents.content c.index.result.now ≡ bucket_at c.args.self.now.buckets c.args.slot.0
told_here g c = bucket_seen g.X.Contents.content c.self.inside.buckets.items (ap (λ s. s.buckets) c.self.view_is) c.requires c.index.ensures

pub returns-in-Some : goal.returns-in-Some
returns-in-Some g c = next_list-gathered g.T.Key.Ord.cmp c.args.self.now.buckets c.args.slot (told_here g (goal.at.returns-in-Some g c).After-index) c.in-Some.ensures refl refl

pub returns-in-Some-first_from : goal.returns-in-Some-first_from
returns-in-Some-first_from g c = next_list-gathered g.T.Key.Ord.cmp c.args.self.now.buckets c.args.slot (told_here g (goal.at.returns-in-Some-first_from g c).After-index) c.in_default.ensures c.in-Some-first_from.ensures refl

pub returns-in-Some-first : goal.returns-in-Some-first
returns-in-Some-first g c = next_list-gathered g.T.Key.Ord.cmp c.args.self.now.buckets c.args.slot (told_here g (goal.at.returns-in-Some-first g c).After-index) c.in_default.ensures c.in-None.ensures c.in-Some-first.ensures
