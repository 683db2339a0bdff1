use Rattle.std.proofs.Common.{◌≡◌, true, not, [], ◌∷◌, set, length, refl, sym, ap, ◌∙◌, arith}
use Rattle.std.proofs.lemmas.List.{nil_from_length}
use Rattle.key_index_flat.specs.Content.{is_filled, item_count, list_at}
use Rattle.key_index_flat.proofs.content.FaultLemmas.{growth_fault-memory}
use Rattle.key_index_parts.specs.Buckets.{account, standings_with}
use Rattle.key_index_parts.specs.Gathered.{gathered}
use Rattle.key_index_parts.specs.Standing.{IsCalled, IsLeftBy}
use Rattle.key_index_parts.proofs.buckets.BucketLemmas.{bucket_taken, bucket_stays, filled_with, flags_edited, not_zero-positive}
use Rattle.key_index_parts.proofs.buckets.ChangeLemmas.{Slot, entries-edited, flags_here, paid-called, paid-refused_here}
use Rattle.key_index_parts.proofs.buckets.StorageLemmas.{KeepsBuckets-edited, counted_as, counted_gain, held_told, keeps_all, keys_below, same_but, view_edited}
use Rattle.key_index_parts.proofs.standing.PaidLemmas.{StaysPaid}
use Rattle.key_index_parts.proofs.standing.StandingLemmas.{changed, left_by, pruned_after-zero, settles}
use Rattle.key_index_parts.proofs.index.partitioned.storage.Storage.insert_absent.Given.{Over}
use Rattle.key_index_parts.proofs.index.partitioned.storage.Storage.insert_absent.Goals.{After-gain, After-index_mut, After-insert_absent}
use Rattle.key_index_parts.proofs.index.partitioned.storage.Storage.insert_absent.Goals as goal

slot : (g : Over) (c : After-index_mut g) → Slot g.T.Key.Ord.cmp g.row.P g.X.Contents.content c.self.inside.buckets.items c.self.inside.counts.items c.self.inside.counts.keys c.args.slot.0 c.index_mut.result.now
slot g c = record {
  counted = c.self.invariant.0;
  total = g.met.T.Key.Ord.total;
  exact = g.met.T.Translator.exact;
  lawful = g.met.X.Contents.lawful c.index_mut.result.now;
  bucket = bucket_taken g.X.Contents.content c.self.inside.buckets.items (ap (λ s. s.buckets) c.self.view_is) c.requires c.index_mut.ensures.value;
}

pub gain-requires : goal.gain-requires
gain-requires g c =
    let few = keys_below c.self.invariant.0 in
    let full = ap (λ s. item_count (gathered s.buckets)) c.self.view_is in
    let was = c.self.invariant.0.counted in
    let room = c.is_full.ensures.room c.if-is_full.false in
    record { items = omega (arith, full, was, room); keys = omega (arith, few, full, was, room) }

pub invariant_of-self : goal.invariant_of-self
invariant_of-self g c =
    let at = slot g (goal.at.invariant_of-self g c).After-index_mut in
    let cmp = g.T.Key.Ord.cmp in
    let list = list_at cmp (g.X.Contents.content c.index_mut.result.now) c.args.slot.1 in
    let zero = c.in-Ok-eq0.field-0-test in
    let made = c.in-Ok-eq0.ensures.inserted zero in
    let none : length list ≡ 0 = sym c.in-Ok-eq0.ensures.len ∙ zero in
    let absent : true ≡ not (is_filled list) = ap (λ l. not (is_filled l)) (sym (nil_from_length list none)) in (
      counted_gain at.counted at.total at.bucket c.args.slot.1 at.exact (c.args.value ∷ []) c.insert_absent.new.self made _ _ true absent (omega (arith, none)) c.gain.ensures.items c.gain.ensures.keys,
      c.set.ensures ∙ flags_edited cmp at.bucket c.self.inside.filled c.insert_absent.new.self true c.self.invariant.1 (sym (ap is_filled made ∙ filled_with cmp (g.X.Contents.content c.index_mut.result.now) c.args.slot.1 c.args.value [])),
    )

paid : (g : Over) (c : After-gain g) → Slot g.T.Key.Ord.cmp g.row.P g.X.Contents.content c.self.inside.buckets.items c.self.inside.counts.items c.self.inside.counts.keys c.args.slot.0 c.index_mut.result.now
    → let s = c.self.inside in
    StaysPaid (standings_with g.X.Contents.content g.X.Contents.spilled s.buckets.items s.moves) (standings_with g.X.Contents.content g.X.Contents.spilled (set s.buckets.items c.args.slot.0 c.insert_absent.new.self) c.insert_absent.new.moves) s.counts.pruned c.gain.new.self.pruned
paid g c at =
    let zero = c.in-Ok-eq0.field-0-test in
    paid-called at g.X.Contents.spilled c.insert_absent.new.self c.self.inside.moves c.insert_absent.new.moves g.X.Bucket.SPILLS c.self.inside.counts.pruned _ 0
    (entries-edited at _ c.args.slot.1 (c.args.value ∷ []) 0 (c.in-Ok-eq0.ensures.inserted zero) (omega (arith, c.in-Ok-eq0.ensures.len, zero))) (c.gain.ensures.pruned ∙ sym (pruned_after-zero c.self.inside.counts.pruned)) c.in-Ok-eq0.ensures.standing

pub invariant_of-self-inside : goal.invariant_of-self-inside
invariant_of-self-inside g c =
    let here = goal.at.invariant_of-self-inside g c in
    ((paid g here.After-gain (slot g here.After-index_mut)).within c.self.inside.within, tt)

pub returns-in-Ok-eq0-clause-inserted : goal.returns-in-Ok-eq0-clause-inserted
returns-in-Ok-eq0-clause-inserted g c =
    let at = slot g (goal.at.returns-in-Ok-eq0-clause-inserted g c).After-index_mut in
    let made = c.in-Ok-eq0.ensures.inserted c.in-Ok-eq0.field-0-test in
    rw (← c.self.view_is) (λ _. view_edited at.counted at.total at.bucket c.args.slot.1 at.exact (c.args.value ∷ []) c.insert_absent.new.self made g.T.Translator.translated c.self.inside.translator _ _ (λ _. c.args.value ∷ []) refl c.gain.ensures.pruned)

pub returns-in-Ok-eq0-clause-settled : goal.returns-in-Ok-eq0-clause-settled
returns-in-Ok-eq0-clause-settled g c =
    let at = slot g (goal.at.returns-in-Ok-eq0-clause-settled g c).After-index_mut in
    rw (← c.self.view_is)
    (λ is. settles g.X.Bucket.SPILLS is _ _ c.args.slot.0 c.self.inside.moves.least (changed at.bucket g.X.Contents.spilled c.insert_absent.new.self c.self.inside.moves c.insert_absent.new.moves (IsCalled g.X.Bucket.SPILLS) c.in-Ok-eq0.ensures.standing))

pub returns-in-Ok-eq0-clause-len : goal.returns-in-Ok-eq0-clause-len
returns-in-Ok-eq0-clause-len g c =
    let at = slot g (goal.at.returns-in-Ok-eq0-clause-len g c).After-index_mut in
    rw (← c.self.view_is) (sym c.in-Ok-eq0.field-0-test ∙ c.in-Ok-eq0.ensures.len ∙ ap (λ l. length l) (held_told g.T.Key.Ord.cmp at.bucket c.args.slot.1))

pub returns-in-Ok-eq0-clause-room : goal.returns-in-Ok-eq0-clause-room
returns-in-Ok-eq0-clause-room g c = c.is_full.ensures.room c.if-is_full.false

pub returns-in-Ok-eq0-clause-kept : goal.returns-in-Ok-eq0-clause-kept
returns-in-Ok-eq0-clause-kept g c =
    let at = slot g (goal.at.returns-in-Ok-eq0-clause-kept g c).After-index_mut in
    rw (← c.self.view_is) (KeepsBuckets-edited at.counted at.total at.bucket c.args.slot.1 at.exact (c.args.value ∷ []) c.insert_absent.new.self (c.in-Ok-eq0.ensures.inserted c.in-Ok-eq0.field-0-test))

pub returns-in-Ok-eq0-clause-range_bound : goal.returns-in-Ok-eq0-clause-range_bound
returns-in-Ok-eq0-clause-range_bound g c =
    let here = goal.at.returns-in-Ok-eq0-clause-range_bound g c in
    let stays = paid g here.After-gain (slot g here.After-index_mut) in
    rw (← c.self.view_is) stays.range_bound

-- the slot had values
pub invariant_of-self-in-Ok : goal.invariant_of-self-in-Ok
invariant_of-self-in-Ok g c =
    let at = slot g (goal.at.invariant_of-self-in-Ok g c).After-index_mut in
    let found = c.in-Ok.ensures.found (not_zero-positive _ c.in-Ok.had-test.1) in (
      counted_as at.counted _ (bucket_stays g.T.Key.Ord.cmp at.bucket c.insert_absent.new.self found),
      flags_here at c.self.inside.filled c.insert_absent.new.self c.self.invariant.1 found,
    )

found_paid : (g : Over) (c : After-insert_absent g) (at : Slot g.T.Key.Ord.cmp g.row.P g.X.Contents.content c.self.inside.buckets.items c.self.inside.counts.items c.self.inside.counts.keys c.args.slot.0 c.index_mut.result.now)
    → g.X.Contents.content c.insert_absent.new.self ≡ g.X.Contents.content c.index_mut.result.now
    → IsCalled g.X.Bucket.SPILLS (account (g.X.Contents.content c.index_mut.result.now) (g.X.Contents.spilled c.index_mut.result.now) c.self.inside.moves) (account (g.X.Contents.content c.insert_absent.new.self) (g.X.Contents.spilled c.insert_absent.new.self) c.insert_absent.new.moves)
    → let s = c.self.inside in
    StaysPaid (standings_with g.X.Contents.content g.X.Contents.spilled s.buckets.items s.moves) (standings_with g.X.Contents.content g.X.Contents.spilled (set s.buckets.items c.args.slot.0 c.insert_absent.new.self) c.insert_absent.new.moves) s.counts.pruned s.counts.pruned
found_paid g c at found standing =
    let same = ap (λ d. item_count d) found in
    paid-called at g.X.Contents.spilled c.insert_absent.new.self c.self.inside.moves c.insert_absent.new.moves g.X.Bucket.SPILLS c.self.inside.counts.pruned _ 0 (omega (arith, same)) (sym (pruned_after-zero c.self.inside.counts.pruned)) standing

pub invariant_of-self-inside-in_default-1 : goal.invariant_of-self-inside-in_default-1
invariant_of-self-inside-in_default-1 g c =
    let here = goal.at.invariant_of-self-inside-in_default-1 g c in
    let found = c.in-Ok.ensures.found (not_zero-positive _ c.in-Ok.had-test.1) in
    ((found_paid g here.After-insert_absent (slot g here.After-index_mut) found c.in-Ok.ensures.standing).within c.self.inside.within, tt)

pub returns-in-Ok-clause-found : goal.returns-in-Ok-clause-found
returns-in-Ok-clause-found g c =
    let at = slot g (goal.at.returns-in-Ok-clause-found g c).After-index_mut in
    rw (← c.self.view_is) (λ held. same_but (standings_with g.X.Contents.content g.X.Contents.spilled c.self.inside.buckets.items c.self.inside.moves) (bucket_stays g.T.Key.Ord.cmp at.bucket c.insert_absent.new.self (c.in-Ok.ensures.found held)))

pub returns-in-Ok-clause-settled : goal.returns-in-Ok-clause-settled
returns-in-Ok-clause-settled g c =
    let at = slot g (goal.at.returns-in-Ok-clause-settled g c).After-index_mut in
    rw (← c.self.view_is)
    (λ is. settles g.X.Bucket.SPILLS is _ _ c.args.slot.0 c.self.inside.moves.least (changed at.bucket g.X.Contents.spilled c.insert_absent.new.self c.self.inside.moves c.insert_absent.new.moves (IsCalled g.X.Bucket.SPILLS) c.in-Ok.ensures.standing))

pub returns-in-Ok-clause-len : goal.returns-in-Ok-clause-len
returns-in-Ok-clause-len g c =
    let at = slot g (goal.at.returns-in-Ok-clause-len g c).After-index_mut in
    rw (← c.self.view_is) (c.in-Ok.ensures.len ∙ ap (λ l. length l) (held_told g.T.Key.Ord.cmp at.bucket c.args.slot.1))

pub returns-in-Ok-clause-room : goal.returns-in-Ok-clause-room
returns-in-Ok-clause-room g c = c.is_full.ensures.room c.if-is_full.false

pub returns-in-Ok-clause-kept : goal.returns-in-Ok-clause-kept
returns-in-Ok-clause-kept g c =
    let at = slot g (goal.at.returns-in-Ok-clause-kept g c).After-index_mut in
    rw (← c.self.view_is) (keeps_all at.counted _ (bucket_stays g.T.Key.Ord.cmp at.bucket c.insert_absent.new.self (c.in-Ok.ensures.found (not_zero-positive _ c.in-Ok.had-test.1))))

pub returns-in-Ok-clause-range_bound : goal.returns-in-Ok-clause-range_bound
returns-in-Ok-clause-range_bound g c =
    let here = goal.at.returns-in-Ok-clause-range_bound g c in
    let found = c.in-Ok.ensures.found (not_zero-positive _ c.in-Ok.had-test.1) in
    let stays = found_paid g here.After-insert_absent (slot g here.After-index_mut) found c.in-Ok.ensures.standing in
    rw (← c.self.view_is) stays.range_bound

pub invariant_of-self-in-Err : goal.invariant_of-self-in-Err
invariant_of-self-in-Err g c =
    let at = slot g (goal.at.invariant_of-self-in-Err g c).After-index_mut in (
      counted_as at.counted _ (bucket_stays g.T.Key.Ord.cmp at.bucket c.insert_absent.new.self c.in-Err.ensures.refused),
      flags_here at c.self.inside.filled c.insert_absent.new.self c.self.invariant.1 c.in-Err.ensures.refused,
    )

pub invariant_of-self-inside-in-Err-1 : goal.invariant_of-self-inside-in-Err-1
invariant_of-self-inside-in-Err-1 g c =
    let at = slot g (goal.at.invariant_of-self-inside-in-Err-1 g c).After-index_mut in
    ((paid-refused_here at g.X.Contents.spilled c.insert_absent.new.self c.self.inside.moves c.insert_absent.new.moves g.X.Bucket.SPILLS c.self.inside.counts.pruned c.in-Err.ensures.left).within c.self.inside.within, tt)

pub returns-in-Err-clause-refused : goal.returns-in-Err-clause-refused
returns-in-Err-clause-refused g c =
    let at = slot g (goal.at.returns-in-Err-clause-refused g c).After-index_mut in
    rw (← c.self.view_is) (same_but (standings_with g.X.Contents.content g.X.Contents.spilled c.self.inside.buckets.items c.self.inside.moves) (bucket_stays g.T.Key.Ord.cmp at.bucket c.insert_absent.new.self c.in-Err.ensures.refused))

pub returns-in-Err-clause-left : goal.returns-in-Err-clause-left
returns-in-Err-clause-left g c =
    let at = slot g (goal.at.returns-in-Err-clause-left g c).After-index_mut in
    let full = ap (λ s. item_count (gathered s.buckets)) c.self.view_is in
    let room = c.is_full.ensures.room c.if-is_full.false in
    rw (← c.self.view_is)
    (left_by g.X.Bucket.SPILLS _ _ _ c.args.slot.0 (omega (arith, full, room)) (changed at.bucket g.X.Contents.spilled c.insert_absent.new.self c.self.inside.moves c.insert_absent.new.moves (IsLeftBy g.X.Bucket.SPILLS) c.in-Err.ensures.left))

pub returns-in-Err-clause-kept : goal.returns-in-Err-clause-kept
returns-in-Err-clause-kept g c =
    let at = slot g (goal.at.returns-in-Err-clause-kept g c).After-index_mut in
    rw (← c.self.view_is) (keeps_all at.counted _ (bucket_stays g.T.Key.Ord.cmp at.bucket c.insert_absent.new.self c.in-Err.ensures.refused))

pub returns-in-Err-clause-range_bound : goal.returns-in-Err-clause-range_bound
returns-in-Err-clause-range_bound g c =
    let at = slot g (goal.at.returns-in-Err-clause-range_bound g c).After-index_mut in
    let stays = paid-refused_here at g.X.Contents.spilled c.insert_absent.new.self c.self.inside.moves c.insert_absent.new.moves g.X.Bucket.SPILLS c.self.inside.counts.pruned c.in-Err.ensures.left in
    rw (← c.self.view_is) stays.range_bound

pub returns-in-Err-clause-fault : goal.returns-in-Err-clause-fault
returns-in-Err-clause-fault g c = c.memory.ensures.fault ∙ growth_fault-memory _ (λ e. omega (arith, e, c.is_full.ensures.room c.if-is_full.false))

pub returns-then-is_full-clause-kept : goal.returns-then-is_full-clause-kept
returns-then-is_full-clause-kept g c = c.is_full.ensures.kept
