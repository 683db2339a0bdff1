use Rattle.std.proofs.Common.{◌<◌, map, set, length, slice_set, refl, sym, ap, subst, ◌∙◌, arith}
use Rattle.std.proofs.lemmas.List.{length-set}
use Rattle.key_index_flat.specs.Content.{is_filled, list_at}
use Rattle.key_index_parts.specs.Buckets.{held_at, standings_with}
use Rattle.key_index_parts.proofs.buckets.CountLemmas.{as_many_entries}
use Rattle.key_index_parts.proofs.buckets.BucketLemmas.{flags_stay, filled_held, is_filled-with_list}
use Rattle.key_index_parts.proofs.buckets.ChangeLemmas.{Slot, entries-edited, leaves_here, paid-edited}
use Rattle.key_index_parts.proofs.buckets.StorageLemmas.{held_told, held_inside, IsCounted-edited, KeepsBuckets-edited, view_edited}
use Rattle.key_index_parts.proofs.standing.PaidLemmas.{StaysPaid}
use Rattle.key_index_parts.proofs.standing.StandingLemmas.{pruned_after-zero}
use Rattle.key_index_parts.proofs.index.partitioned.storage.Storage.set_at.Given.{Over}
use Rattle.key_index_parts.proofs.index.partitioned.storage.Storage.set_at.Goals.{After-index_mut, After-self, After-set_at}
use Rattle.key_index_parts.proofs.index.partitioned.storage.Storage.set_at.Goals as goal

place_held : (g : Over) (c : After-self g) → c.args.place < length (held_at g.T.Key.Ord.cmp (map g.X.Contents.content c.self.inside.buckets.items) c.args.slot)
place_held g c = subst (λ s. c.args.place < length (held_at g.T.Key.Ord.cmp s.buckets c.args.slot)) (sym c.self.view_is) c.requires

slot_inside : (g : Over) (c : After-self g) → c.args.slot.0 < length c.self.inside.buckets.items
slot_inside g c = held_inside g.T.Key.Ord.cmp g.X.Contents.content c.self.inside.buckets.items c.args.slot c.args.place (place_held g c)

pub index_mut-requires : goal.index_mut-requires
index_mut-requires g c = omega (arith, slot_inside g (goal.at.index_mut-requires g c).After-self, c.self.inside.buckets.ok.0)

slot : (g : Over) (c : After-index_mut g) → Slot g.T.Key.Ord.cmp g.row.P g.X.Contents.content c.self.inside.buckets.items c.self.inside.counts.items c.self.inside.counts.keys c.args.slot.0 c.index_mut.result.now
slot g c = record {
  counted = c.self.invariant.0;
  total = g.met.T.Key.Ord.total;
  exact = g.met.T.Translator.exact;
  lawful = g.met.X.Contents.lawful c.index_mut.result.now;
  bucket = record { inside = slot_inside g (goal.at.set_at-requires g c).After-self; at = c.index_mut.ensures.value };
}

place_listed : (g : Over) (c : After-index_mut g) → c.args.place < length (list_at g.T.Key.Ord.cmp (g.X.Contents.content c.index_mut.result.now) c.args.slot.1)
place_listed g c = subst (λ l. c.args.place < length l) (sym (held_told g.T.Key.Ord.cmp ((slot g c).bucket) c.args.slot.1)) (place_held g (goal.at.set_at-requires g c).After-self)

pub set_at-requires : goal.set_at-requires
set_at-requires g c = place_listed g c

pub invariant_of-self : goal.invariant_of-self
invariant_of-self g c =
    let cmp = g.T.Key.Ord.cmp in
    let d = g.X.Contents.content c.index_mut.result.now in
    let k = c.args.slot.1 in
    let before = (goal.at.invariant_of-self g c).After-index_mut in
    let at = slot g before in
    let some = place_listed g before in
    let list = list_at cmp d k in
    let l = slice_set list c.args.place c.args.value in
    let same = length-set list c.args.place c.args.value in
    let entries = as_many_entries l list same in (
      IsCounted-edited at.counted at.total at.bucket k at.exact l c.set_at.new.self c.set_at.ensures.content _ _ (omega (arith, same)) (omega (arith, entries)),
      flags_stay cmp at.bucket c.self.inside.filled c.set_at.new.self c.self.invariant.1
          (ap is_filled c.set_at.ensures.content ∙ is_filled-with_list cmp d k l (omega (arith, same, some)) ∙ sym (filled_held cmp d k (omega (arith, some)))),
    )

pub returns-clause-edited : goal.returns-clause-edited
returns-clause-edited g c =
    let at = slot g (goal.at.returns-clause-edited g c).After-index_mut in
    rw (← c.self.view_is)
    (view_edited at.counted at.total at.bucket c.args.slot.1 at.exact _ c.set_at.new.self c.set_at.ensures.content g.T.Translator.translated c.self.inside.translator _ _ (λ l. slice_set l c.args.place c.args.value) refl refl)

pub returns-clause-kept : goal.returns-clause-kept
returns-clause-kept g c =
    let at = slot g (goal.at.returns-clause-kept g c).After-index_mut in
    rw (← c.self.view_is) (KeepsBuckets-edited at.counted at.total at.bucket c.args.slot.1 at.exact _ c.set_at.new.self c.set_at.ensures.content)

pub returns-clause-standing : goal.returns-clause-standing
returns-clause-standing g c =
    let at = slot g (goal.at.returns-clause-standing g c).After-index_mut in
    rw (← c.self.view_is) (leaves_here at g.X.Contents.spilled c.set_at.new.self c.self.inside.moves c.set_at.ensures.standing)

paid : (g : Over) (c : After-set_at g) → Slot g.T.Key.Ord.cmp g.row.P g.X.Contents.content c.self.inside.buckets.items c.self.inside.counts.items c.self.inside.counts.keys c.args.slot.0 c.index_mut.result.now → let s = c.self.inside in
    StaysPaid (standings_with g.X.Contents.content g.X.Contents.spilled s.buckets.items s.moves) (standings_with g.X.Contents.content g.X.Contents.spilled (set s.buckets.items c.args.slot.0 c.set_at.new.self) s.moves) s.counts.pruned s.counts.pruned
paid g c at =
    let same = length-set (list_at g.T.Key.Ord.cmp (g.X.Contents.content c.index_mut.result.now) c.args.slot.1) c.args.place c.args.value in
    paid-edited at g.X.Contents.spilled c.set_at.new.self c.self.inside.moves c.set_at.ensures.standing c.self.inside.counts.pruned _ 0
    (entries-edited at _ c.args.slot.1 _ 0 c.set_at.ensures.content (omega (arith, same))) (sym (pruned_after-zero c.self.inside.counts.pruned))

pub invariant_of-self-inside : goal.invariant_of-self-inside
invariant_of-self-inside g c =
    let here = goal.at.invariant_of-self-inside g c in
    ((paid g here.After-set_at (slot g here.After-index_mut)).within c.self.inside.within, tt)

pub returns-clause-range_bound : goal.returns-clause-range_bound
returns-clause-range_bound g c =
    let here = goal.at.returns-clause-range_bound g c in
    let stays = paid g here.After-set_at (slot g here.After-index_mut) in
    rw (← c.self.view_is) stays.range_bound
