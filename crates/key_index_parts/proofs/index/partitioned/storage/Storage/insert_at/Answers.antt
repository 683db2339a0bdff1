use Rattle.std.proofs.Common.{◌≤◌, false, set, length, insert, inl, refl, sym, ap, subst, ◌∙◌, arith}
use Rattle.std.proofs.lemmas.List.Edits.{length-insert}
use Rattle.key_index_flat.specs.Content.{is_filled, item_count, list_at}
use Rattle.key_index_parts.specs.Buckets.{account, held_at, standings_with}
use Rattle.key_index_parts.specs.Gathered.{gathered}
use Rattle.key_index_parts.proofs.buckets.BucketLemmas.{bucket_taken, bucket_stays, flags_filled, filled_held, filled_insert, filled_positive}
use Rattle.key_index_parts.proofs.buckets.ChangeLemmas.{Slot, entries-edited, flags_here, kept_stays, leaves_here, paid-edited, paid-refused_here}
use Rattle.key_index_parts.proofs.buckets.StorageLemmas.{held_told, keeps_all, counted_as, keys_below, counted_gain, KeepsBuckets-edited, view_edited}
use Rattle.key_index_parts.proofs.standing.PaidLemmas.{StaysPaid}
use Rattle.key_index_parts.proofs.standing.StandingLemmas.{pruned_after-zero}
use Rattle.key_index_parts.proofs.index.partitioned.storage.Storage.insert_at.Given.{Over}
use Rattle.key_index_parts.proofs.index.partitioned.storage.Storage.insert_at.Goals.{After-gain, After-index_mut}
use Rattle.key_index_parts.proofs.index.partitioned.storage.Storage.insert_at.Goals as goal

slot : (g : Over) (c : After-index_mut g) → Slot g.T.Key.Ord.cmp g.row.P g.X.Contents.content c.self.inside.buckets.items c.self.inside.counts.items c.self.inside.counts.keys c.args.slot.0 c.index_mut.result.now
slot g c = record {
  counted = c.self.invariant.0;
  total = g.met.T.Key.Ord.total;
  exact = g.met.T.Translator.exact;
  lawful = g.met.X.Contents.lawful c.index_mut.result.now;
  bucket = bucket_taken g.X.Contents.content c.self.inside.buckets.items (ap (λ s. s.buckets) c.self.view_is) c.requires.admits c.index_mut.ensures.value;
}

-- the place is within the slot's list, of some bucket
place_upto_list : (g : Over) (c : After-index_mut g) → c.args.place ≤ length (list_at g.T.Key.Ord.cmp (g.X.Contents.content c.index_mut.result.now) c.args.slot.1)
place_upto_list g c =
    let held = subst (λ s. c.args.place ≤ length (held_at g.T.Key.Ord.cmp s.buckets c.args.slot)) (sym c.self.view_is) c.requires.place in
    subst (λ l. c.args.place ≤ length l) (sym (held_told g.T.Key.Ord.cmp ((slot g c).bucket) c.args.slot.1)) held

pub insert_at-requires : goal.insert_at-requires
insert_at-requires g c = place_upto_list g c

pub gain-requires : goal.gain-requires
gain-requires g c =
    let few = keys_below c.self.invariant.0 in
    let full = ap (λ s. item_count (gathered s.buckets)) c.self.view_is in
    let room = c.is_full.ensures.room c.if-is_full.false in
    let was = c.self.invariant.0.counted in
    record { items = omega (arith, full, was, room); keys = omega (arith, few, full, was, room) }

pub invariant_of-self : goal.invariant_of-self
invariant_of-self g c =
    let cmp = g.T.Key.Ord.cmp in
    let d = g.X.Contents.content c.index_mut.result.now in
    let k = c.args.slot.1 in
    let before = (goal.at.invariant_of-self g c).After-index_mut in
    let at = slot g before in
    let list = list_at cmp d k in
    let more = length-insert list c.args.place c.args.value (place_upto_list g before) in
    let told = c.in-Ok.ensures.accepted in (
      counted_gain at.counted at.total at.bucket c.args.slot.1 at.exact (insert list c.args.place c.args.value) c.insert_at.new.self told.0 _ _ c.in-Ok.absent told.1 (omega (arith, more)) c.gain.ensures.items c.gain.ensures.keys,
      c.set_if.ensures ∙ flags_filled cmp at.bucket c.self.inside.filled c.insert_at.new.self _ c.self.invariant.1
          (ap (λ d. is_filled d) told.0 ∙ filled_insert cmp d k list c.args.place c.args.value) (λ b. filled_held cmp d k (filled_positive _ (sym b ∙ told.1))),
    )

pub invariant_of-self-in-Err : goal.invariant_of-self-in-Err
invariant_of-self-in-Err g c =
    let at = slot g (goal.at.invariant_of-self-in-Err g c).After-index_mut in (
      counted_as at.counted _ (bucket_stays g.T.Key.Ord.cmp at.bucket c.insert_at.new.self c.in-Err.ensures.refused),
      flags_here at c.self.inside.filled c.insert_at.new.self c.self.invariant.1 c.in-Err.ensures.refused,
    )

pub returns-in-Ok-clause-accepted : goal.returns-in-Ok-clause-accepted
returns-in-Ok-clause-accepted g c =
    let at = slot g (goal.at.returns-in-Ok-clause-accepted g c).After-index_mut in
    rw (← c.self.view_is)
    (view_edited at.counted at.total at.bucket c.args.slot.1 at.exact _ c.insert_at.new.self c.in-Ok.ensures.accepted.0 g.T.Translator.translated c.self.inside.translator _ _ (λ l. insert l c.args.place c.args.value) refl c.gain.ensures.pruned)

pub returns-in-Err-clause-refused : goal.returns-in-Err-clause-refused
returns-in-Err-clause-refused g c =
    let at = slot g (goal.at.returns-in-Err-clause-refused g c).After-index_mut in
    kept_stays at g.X.Contents.spilled c.insert_at.new.self c.self.inside.moves c.self.inside.moves _ _ c.in-Err.ensures.refused (λ i. account (c.in-Err.ensures.refused i) (c.in-Err.ensures.stands i) c.self.inside.moves) ∙ c.self.view_is

pub returns-then-is_full-clause-kept : goal.returns-then-is_full-clause-kept
returns-then-is_full-clause-kept g c = rw (← c.self.view_is) (keeps_all c.self.invariant.0 _ refl)

pub returns-in-Ok-clause-kept : goal.returns-in-Ok-clause-kept
returns-in-Ok-clause-kept g c =
    let at = slot g (goal.at.returns-in-Ok-clause-kept g c).After-index_mut in
    rw (← c.self.view_is) (KeepsBuckets-edited at.counted at.total at.bucket c.args.slot.1 at.exact _ c.insert_at.new.self c.in-Ok.ensures.accepted.0)

pub returns-in-Err-clause-kept : goal.returns-in-Err-clause-kept
returns-in-Err-clause-kept g c =
    let at = slot g (goal.at.returns-in-Err-clause-kept g c).After-index_mut in
    rw (← c.self.view_is) (keeps_all at.counted _ (bucket_stays g.T.Key.Ord.cmp at.bucket c.insert_at.new.self c.in-Err.ensures.refused))

pub returns-in-Ok-clause-standing : goal.returns-in-Ok-clause-standing
returns-in-Ok-clause-standing g c =
    let at = slot g (goal.at.returns-in-Ok-clause-standing g c).After-index_mut in
    rw (← c.self.view_is) (leaves_here at g.X.Contents.spilled c.insert_at.new.self c.self.inside.moves c.in-Ok.ensures.standing)

paid : (g : Over) (c : After-gain g) → Slot g.T.Key.Ord.cmp g.row.P g.X.Contents.content c.self.inside.buckets.items c.self.inside.counts.items c.self.inside.counts.keys c.args.slot.0 c.index_mut.result.now
    → c.args.place ≤ length (list_at g.T.Key.Ord.cmp (g.X.Contents.content c.index_mut.result.now) c.args.slot.1) → let s = c.self.inside in
    StaysPaid (standings_with g.X.Contents.content g.X.Contents.spilled s.buckets.items s.moves) (standings_with g.X.Contents.content g.X.Contents.spilled (set s.buckets.items c.args.slot.0 c.insert_at.new.self) s.moves) s.counts.pruned c.gain.new.self.pruned
paid g c at upto =
    let more = length-insert (list_at g.T.Key.Ord.cmp (g.X.Contents.content c.index_mut.result.now) c.args.slot.1) c.args.place c.args.value upto in
    paid-edited at g.X.Contents.spilled c.insert_at.new.self c.self.inside.moves c.in-Ok.ensures.standing c.self.inside.counts.pruned _ 0
    (entries-edited at _ c.args.slot.1 _ 0 c.in-Ok.ensures.accepted.0 (omega (arith, more))) (c.gain.ensures.pruned ∙ sym (pruned_after-zero c.self.inside.counts.pruned))

pub invariant_of-self-inside-in-Err-1 : goal.invariant_of-self-inside-in-Err-1
invariant_of-self-inside-in-Err-1 g c =
    let at = slot g (goal.at.invariant_of-self-inside-in-Err-1 g c).After-index_mut in
    ((paid-refused_here at g.X.Contents.spilled c.insert_at.new.self c.self.inside.moves c.self.inside.moves false c.self.inside.counts.pruned (inl (λ i. account (c.in-Err.ensures.refused i) (c.in-Err.ensures.stands i) c.self.inside.moves))).within c.self.inside.within, tt)

pub returns-in-Err-clause-range_bound : goal.returns-in-Err-clause-range_bound
returns-in-Err-clause-range_bound g c =
    let at = slot g (goal.at.returns-in-Err-clause-range_bound g c).After-index_mut in
    let stays = paid-refused_here at g.X.Contents.spilled c.insert_at.new.self c.self.inside.moves c.self.inside.moves false c.self.inside.counts.pruned (inl (λ i. account (c.in-Err.ensures.refused i) (c.in-Err.ensures.stands i) c.self.inside.moves)) in
    rw (← c.self.view_is) stays.range_bound

pub invariant_of-self-inside : goal.invariant_of-self-inside
invariant_of-self-inside g c =
    let here = goal.at.invariant_of-self-inside g c in
    ((paid g here.After-gain (slot g here.After-index_mut) (place_upto_list g here.After-index_mut)).within c.self.inside.within, tt)

pub returns-in-Ok-clause-range_bound : goal.returns-in-Ok-clause-range_bound
returns-in-Ok-clause-range_bound g c =
    let here = goal.at.returns-in-Ok-clause-range_bound g c in
    let stays = paid g here.After-gain (slot g here.After-index_mut) (place_upto_list g here.After-index_mut) in
    rw (← c.self.view_is) stays.range_bound
