use Rattle.std.proofs.Common.{Some, refl, subst, ap, ◌∙◌, arith}
use Rattle.std.specs.Fn.{CalledAt}
use Rattle.key_index_flat.specs.Content.{item_count}
use Rattle.key_index_flat.specs.Retention.{AsksWith}
use Rattle.key_index_flat.proofs.closures.PutLemmas.{few_with}
use Rattle.key_index_flat.proofs.content.FaultLemmas.{growth_fault-memory}
use Rattle.key_index_parts.specs.Buckets.{standings_with}
use Rattle.key_index_parts.specs.Gathered.{gathered, pair_cmp}
use Rattle.key_index_parts.specs.Standing.{IsLeftBy, IsRemoved}
use Rattle.key_index_parts.proofs.buckets.BucketLemmas.{bucket_taken, bucket_stays, flags_edited, not_not}
use Rattle.key_index_parts.proofs.buckets.ChangeLemmas.{Slot, entries-edited, flags_here, paid-refused_here, within-removed}
use Rattle.key_index_parts.proofs.buckets.CountLemmas.{left_and_gone}
use Rattle.key_index_parts.proofs.buckets.StorageLemmas.{KeepsBuckets-edited, can_change, counted_as, counted_change, held_told, keeps_all, retains_with, same_but, view_pruned}
use Rattle.key_index_parts.proofs.standing.StandingLemmas.{changed, left_by, resettles}
use Rattle.key_index_parts.proofs.index.partitioned.storage.Storage.insert_and_retain.Given.{Over}
use Rattle.key_index_parts.proofs.index.partitioned.storage.Storage.insert_and_retain.Goals.{After-index_mut-bucket}
use Rattle.key_index_parts.proofs.index.partitioned.storage.Storage.insert_and_retain.Goals as goal

slot : (g : Over) (c : After-index_mut-bucket g) → Slot g.T.Key.Ord.cmp g.row.P g.X.Contents.content c.self.inside.buckets.items c.self.inside.counts.items c.self.inside.counts.keys c.args.slot.0 c.index_mut-bucket.result.now
slot g c = record {
  counted = c.self.invariant.0;
  total = g.met.T.Key.Ord.total;
  exact = g.met.T.Translator.exact;
  lawful = g.met.X.Contents.lawful c.index_mut-bucket.result.now;
  bucket = bucket_taken g.X.Contents.content c.self.inside.buckets.items (ap (λ s. s.buckets) c.self.view_is) c.requires.within c.index_mut-bucket.ensures.value;
}

pub change-requires : goal.change-requires
change-requires g c =
    let at = slot g (goal.at.change-requires g c).After-index_mut-bucket in
    let said = c.in-Ok.ensures.accepted in
    let few = few_with (CalledAt g.F.FnMut) c.args.should_retain _ said.0 (Some c.args.value) _ said.1 in
    let full = ap (λ s. item_count (gathered s.buckets)) c.self.view_is in
    let was = at.counted.counted in
    let room = c.is_full.ensures.room c.if-is_full.false in
    can_change at.counted at.total at.bucket c.args.slot.1 at.exact said.0 c.retain.new.self said.2 _ _ said.3 said.4 (omega (arith, full, was, room, said.3, said.4, few))

pub invariant_of-self : goal.invariant_of-self
invariant_of-self g c =
    let at = slot g (goal.at.invariant_of-self g c).After-index_mut-bucket in
    let said = c.in-Ok.ensures.accepted in (
      counted_change at.counted at.total at.bucket c.args.slot.1 at.exact said.0 c.retain.new.self said.2 _ _ said.3 said.4 _ _ c.change.ensures.items c.change.ensures.keys,
      c.set.ensures ∙ flags_edited g.T.Key.Ord.cmp at.bucket c.self.inside.filled c.retain.new.self _ c.self.invariant.1 (not_not _ _ c.is_empty-none_left.ensures),
    )

pub invariant_of-self-inside : goal.invariant_of-self-inside
invariant_of-self-inside g c =
    let at = slot g (goal.at.invariant_of-self-inside g c).After-index_mut-bucket in
    let said = c.in-Ok.ensures.accepted in
    let few = entries-edited at _ c.args.slot.1 said.0 _ said.2 (left_and_gone (CalledAt g.F.FnMut) c.args.should_retain _ (Some c.args.value) said.0 _ said.1) in
    (within-removed at g.X.Contents.spilled c.retain.new.self c.self.inside.moves c.retain.new.moves g.X.Bucket.SPILLS c.self.inside.counts.pruned _ _ few c.change.ensures.pruned c.in-Ok.ensures.standing c.self.inside.within, tt)

pub returns-in-Ok-clause-accepted : goal.returns-in-Ok-clause-accepted
returns-in-Ok-clause-accepted g c =
    let at = slot g (goal.at.returns-in-Ok-clause-accepted g c).After-index_mut-bucket in
    let said = c.in-Ok.ensures.accepted in
    let taken = c.in-Ok.told.taken in
    rw (← c.self.view_is) (retains_with (pair_cmp g.T.Key.Ord.cmp) (CalledAt g.F.FnMut) c.args.should_retain _ _ c.args.slot (Some c.args.value) said.0 taken
    (subst (λ m. AsksWith (CalledAt g.F.FnMut) c.args.should_retain m (Some c.args.value) said.0 taken) (held_told g.T.Key.Ord.cmp at.bucket c.args.slot.1) said.1)
    (view_pruned at.counted at.total at.bucket c.args.slot.1 at.exact _ c.retain.new.self said.2 g.T.Translator.translated c.self.inside.translator _ _ (λ m. said.0) refl taken c.change.ensures.pruned))

pub returns-in-Ok-clause-settled : goal.returns-in-Ok-clause-settled
returns-in-Ok-clause-settled g c =
    let at = slot g (goal.at.returns-in-Ok-clause-settled g c).After-index_mut-bucket in
    rw (← c.self.view_is)
    (λ is. resettles g.X.Bucket.SPILLS is _ _ c.args.slot.0 c.self.inside.moves.least (changed at.bucket g.X.Contents.spilled c.retain.new.self c.self.inside.moves c.retain.new.moves (IsRemoved g.X.Bucket.SPILLS) c.in-Ok.ensures.standing))

pub returns-in-Ok-clause-kept : goal.returns-in-Ok-clause-kept
returns-in-Ok-clause-kept g c =
    let at = slot g (goal.at.returns-in-Ok-clause-kept g c).After-index_mut-bucket in
    let said = c.in-Ok.ensures.accepted in
    rw (← c.self.view_is) (KeepsBuckets-edited at.counted at.total at.bucket c.args.slot.1 at.exact _ c.retain.new.self said.2)

pub returns-in-Ok-clause-room : goal.returns-in-Ok-clause-room
returns-in-Ok-clause-room g c = c.is_full.ensures.room c.if-is_full.false

pub returns-then-is_full-clause-kept : goal.returns-then-is_full-clause-kept
returns-then-is_full-clause-kept g c = c.is_full.ensures.kept

pub invariant_of-self-inside-in-Err-1 : goal.invariant_of-self-inside-in-Err-1
invariant_of-self-inside-in-Err-1 g c =
    let at = slot g (goal.at.invariant_of-self-inside-in-Err-1 g c).After-index_mut-bucket in
    ((paid-refused_here at g.X.Contents.spilled c.retain.new.self c.self.inside.moves c.retain.new.moves g.X.Bucket.SPILLS c.self.inside.counts.pruned c.in-Err.ensures.left).within c.self.inside.within, tt)

pub invariant_of-self-in-Err : goal.invariant_of-self-in-Err
invariant_of-self-in-Err g c =
    let at = slot g (goal.at.invariant_of-self-in-Err g c).After-index_mut-bucket in (
      counted_as at.counted _ (bucket_stays g.T.Key.Ord.cmp at.bucket c.retain.new.self c.in-Err.ensures.refused),
      flags_here at c.self.inside.filled c.retain.new.self c.self.invariant.1 c.in-Err.ensures.refused,
    )

pub returns-clause-refused : goal.returns-clause-refused
returns-clause-refused g c =
    let at = slot g (goal.at.returns-clause-refused g c).After-index_mut-bucket in
    rw (← c.self.view_is) (same_but (standings_with g.X.Contents.content g.X.Contents.spilled c.self.inside.buckets.items c.self.inside.moves) (bucket_stays g.T.Key.Ord.cmp at.bucket c.retain.new.self c.in-Err.ensures.refused))

pub returns-clause-left : goal.returns-clause-left
returns-clause-left g c =
    let at = slot g (goal.at.returns-clause-left g c).After-index_mut-bucket in
    let full = ap (λ s. item_count (gathered s.buckets)) c.self.view_is in
    let room = c.is_full.ensures.room c.if-is_full.false in
    rw (← c.self.view_is)
    (left_by g.X.Bucket.SPILLS _ _ _ c.args.slot.0 (omega (arith, full, room)) (changed at.bucket g.X.Contents.spilled c.retain.new.self c.self.inside.moves c.retain.new.moves (IsLeftBy g.X.Bucket.SPILLS) c.in-Err.ensures.left))

pub returns-clause-kept : goal.returns-clause-kept
returns-clause-kept g c =
    let at = slot g (goal.at.returns-clause-kept g c).After-index_mut-bucket in
    rw (← c.self.view_is) (keeps_all at.counted _ (bucket_stays g.T.Key.Ord.cmp at.bucket c.retain.new.self c.in-Err.ensures.refused))

pub returns-clause-fault : goal.returns-clause-fault
returns-clause-fault g c = c.memory.ensures.fault ∙ growth_fault-memory _ (λ e. omega (arith, e, c.is_full.ensures.room c.if-is_full.false))
