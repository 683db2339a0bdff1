use Rattle.std.proofs.Common.{sym, ap, ◌∙◌}
use Rattle.key_index_flat.specs.Content.{item_count}
use Rattle.key_index_parts.specs.Buckets.{account, standings_with}
use Rattle.key_index_parts.specs.Standing.{IsCalled, called}
use Rattle.key_index_parts.proofs.buckets.BucketLemmas.{bucket_taken, bucket_stays}
use Rattle.key_index_parts.proofs.buckets.ChangeLemmas.{Slot, flags_here, kept_stays, paid-refused_here}
use Rattle.key_index_parts.proofs.buckets.StorageLemmas.{counted_as, keeps_all, same_but}
use Rattle.key_index_parts.proofs.standing.StandingLemmas.{changed, left_either, settled-called, settles}
use Rattle.key_index_parts.proofs.index.partitioned.storage.Storage.settle.Given.{Over}
use Rattle.key_index_parts.proofs.index.partitioned.storage.Storage.settle.Goals.{After-index_mut}
use Rattle.key_index_parts.proofs.index.partitioned.storage.Storage.settle.Goals as goal

slot : (g : Over) (c : After-index_mut g) → Slot g.T.Key.Ord.cmp g.row.P g.X.Contents.content c.self.inside.buckets.items c.self.inside.counts.items c.self.inside.counts.keys c.args.number c.index_mut.result.now
slot g c = record {
  counted = c.self.invariant.0;
  total = g.met.T.Key.Ord.total;
  exact = g.met.T.Translator.exact;
  lawful = g.met.X.Contents.lawful c.index_mut.result.now;
  bucket = bucket_taken g.X.Contents.content c.self.inside.buckets.items (ap (λ s. s.buckets) c.self.view_is) c.requires c.index_mut.ensures.value;
}

pub invariant_of-self-inside : goal.invariant_of-self-inside
invariant_of-self-inside g c =
    let at = slot g (goal.at.invariant_of-self-inside g c).After-index_mut in
    ((paid-refused_here at g.X.Contents.spilled c.settle.new.self c.self.inside.moves c.settle.new.moves g.X.Bucket.SPILLS c.self.inside.counts.pruned (left_either g.X.Bucket.SPILLS _ _ c.settle.result c.settle.ensures.settled c.settle.ensures.stands)).within c.self.inside.within, tt)

pub invariant_of-self : goal.invariant_of-self
invariant_of-self g c =
    let at = slot g (goal.at.invariant_of-self g c).After-index_mut in (
      counted_as at.counted _ (bucket_stays g.T.Key.Ord.cmp at.bucket c.settle.new.self c.settle.ensures.content),
      flags_here at c.self.inside.filled c.settle.new.self c.self.invariant.1 c.settle.ensures.content,
    )

pub invariant_of-self-2 : goal.invariant_of-self-2
invariant_of-self-2 g c =
    let at = slot g (goal.at.invariant_of-self-2 g c).After-index_mut in (
      counted_as at.counted _ (bucket_stays g.T.Key.Ord.cmp at.bucket c.settle.new.self c.settle.ensures.content),
      flags_here at c.self.inside.filled c.settle.new.self c.self.invariant.1 c.settle.ensures.content,
    )

pub returns-in_default-clause-same : goal.returns-in_default-clause-same
returns-in_default-clause-same g c =
    let at = slot g (goal.at.returns-in_default-clause-same g c).After-index_mut in
    rw (← c.self.view_is) (same_but (standings_with g.X.Contents.content g.X.Contents.spilled c.self.inside.buckets.items c.self.inside.moves) (bucket_stays g.T.Key.Ord.cmp at.bucket c.settle.new.self c.settle.ensures.content))

pub returns-clause-same : goal.returns-clause-same
returns-clause-same g c =
    let at = slot g (goal.at.returns-clause-same g c).After-index_mut in
    rw (← c.self.view_is) (same_but (standings_with g.X.Contents.content g.X.Contents.spilled c.self.inside.buckets.items c.self.inside.moves) (bucket_stays g.T.Key.Ord.cmp at.bucket c.settle.new.self c.settle.ensures.content))

pub returns-in_default-clause-refused : goal.returns-in_default-clause-refused
returns-in_default-clause-refused g c =
    let at = slot g (goal.at.returns-in_default-clause-refused g c).After-index_mut in
    kept_stays at g.X.Contents.spilled c.settle.new.self c.self.inside.moves c.settle.new.moves _ _ c.settle.ensures.content c.in_default.ensures.stands ∙ c.self.view_is

pub returns-in_default-clause-kept : goal.returns-in_default-clause-kept
returns-in_default-clause-kept g c =
    let at = slot g (goal.at.returns-in_default-clause-kept g c).After-index_mut in
    rw (← c.self.view_is) (keeps_all at.counted _ (bucket_stays g.T.Key.Ord.cmp at.bucket c.settle.new.self c.settle.ensures.content))

pub returns-clause-kept : goal.returns-clause-kept
returns-clause-kept g c =
    let at = slot g (goal.at.returns-clause-kept g c).After-index_mut in
    rw (← c.self.view_is) (keeps_all at.counted _ (bucket_stays g.T.Key.Ord.cmp at.bucket c.settle.new.self c.settle.ensures.content))

pub returns-in_default-clause-range_bound : goal.returns-in_default-clause-range_bound
returns-in_default-clause-range_bound g c =
    let at = slot g (goal.at.returns-in_default-clause-range_bound g c).After-index_mut in
    let stays = paid-refused_here at g.X.Contents.spilled c.settle.new.self c.self.inside.moves c.settle.new.moves g.X.Bucket.SPILLS c.self.inside.counts.pruned (left_either g.X.Bucket.SPILLS _ _ c.settle.result c.settle.ensures.settled c.settle.ensures.stands) in
    rw (← c.self.view_is) stays.range_bound

pub returns-clause-range_bound : goal.returns-clause-range_bound
returns-clause-range_bound g c =
    let at = slot g (goal.at.returns-clause-range_bound g c).After-index_mut in
    let stays = paid-refused_here at g.X.Contents.spilled c.settle.new.self c.self.inside.moves c.settle.new.moves g.X.Bucket.SPILLS c.self.inside.counts.pruned (left_either g.X.Bucket.SPILLS _ _ c.settle.result c.settle.ensures.settled c.settle.ensures.stands) in
    rw (← c.self.view_is) stays.range_bound

pub returns-clause-settles : goal.returns-clause-settles
returns-clause-settles g c =
    let at = slot g (goal.at.returns-clause-settles g c).After-index_mut in
    let x = c.index_mut.result.now in
    let old = account (g.X.Contents.content x) (g.X.Contents.spilled x) c.self.inside.moves in
    rw (← c.self.view_is)
    (λ is. settles g.X.Bucket.SPILLS is _ _ c.args.number c.self.inside.moves.least (changed at.bucket g.X.Contents.spilled c.settle.new.self c.self.inside.moves c.settle.new.moves (IsCalled g.X.Bucket.SPILLS)
    (c.in-Ok.ensures.settled ∙ settled-called g.X.Bucket.SPILLS old c.self.inside.moves.least (g.X.Contents.filled x) ∙ ap (λ d. called g.X.Bucket.SPILLS old (item_count d)) (sym c.settle.ensures.content))))
