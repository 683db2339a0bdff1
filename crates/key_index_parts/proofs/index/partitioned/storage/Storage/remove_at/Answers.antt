use Rattle.std.proofs.Common.{rules, ◌≡◌, ◌+◌, ◌^◌, ◌<◌, Some, map, set, length, slice_get, remove, refl, sym, subst, ◌∙◌, arith}
use Rattle.std.proofs.lemmas.List.Edits.{length-remove}
use Rattle.key_index_flat.specs.Content.{list_at}
use Rattle.key_index_parts.specs.Buckets.{held_at, standings_with}
use Rattle.key_index_parts.proofs.buckets.BucketLemmas.{flags_emptied, flag_within, filled_held}
use Rattle.key_index_parts.proofs.buckets.ChangeLemmas.{Slot, entries-edited, leaves_here, paid-edited}
use Rattle.key_index_parts.proofs.buckets.StorageLemmas.{held_told, held_inside, items_within, can_change, counted_change, KeepsBuckets-edited, view_pruned}
use Rattle.key_index_parts.proofs.standing.PaidLemmas.{StaysPaid}
use Rattle.key_index_parts.proofs.index.partitioned.storage.Storage.remove_at.Given.{Over}
use Rattle.key_index_parts.proofs.index.partitioned.storage.Storage.remove_at.Goals.{After-change, After-index_mut-bucket}
use Rattle.key_index_parts.proofs.index.partitioned.storage.Storage.remove_at.Goals as goal

pub index_mut-bucket-requires : goal.index_mut-bucket-requires
index_mut-bucket-requires g c =
    let held = (subst (λ s. c.args.place < length (held_at g.T.Key.Ord.cmp s.buckets c.args.slot)) (sym c.self.view_is) c.requires) in
    omega (arith, held_inside g.T.Key.Ord.cmp g.X.Contents.content c.self.inside.buckets.items c.args.slot c.args.place held, c.self.inside.buckets.ok.0)

place_held : (g : Over) (c : After-index_mut-bucket g) → c.args.place < length (held_at g.T.Key.Ord.cmp (map g.X.Contents.content c.self.inside.buckets.items) c.args.slot)
place_held g c = subst (λ s. c.args.place < length (held_at g.T.Key.Ord.cmp s.buckets c.args.slot)) (sym c.self.view_is) c.requires

slot : (g : Over) (c : After-index_mut-bucket g) → Slot g.T.Key.Ord.cmp g.row.P g.X.Contents.content c.self.inside.buckets.items c.self.inside.counts.items c.self.inside.counts.keys c.args.slot.0 c.index_mut-bucket.result.now
slot g c = record {
  counted = c.self.invariant.0;
  total = g.met.T.Key.Ord.total;
  exact = g.met.T.Translator.exact;
  lawful = g.met.X.Contents.lawful c.index_mut-bucket.result.now;
  bucket = record { inside = held_inside g.T.Key.Ord.cmp g.X.Contents.content c.self.inside.buckets.items c.args.slot c.args.place (place_held g c); at = c.index_mut-bucket.ensures.value };
}

place_listed : (g : Over) (c : After-index_mut-bucket g) → c.args.place < length (list_at g.T.Key.Ord.cmp (g.X.Contents.content c.index_mut-bucket.result.now) c.args.slot.1)
place_listed g c = subst (λ l. c.args.place < length l) (sym (held_told g.T.Key.Ord.cmp ((slot g c).bucket) c.args.slot.1)) (place_held g c)

one_value_less : (g : Over) (c : After-index_mut-bucket g) → let list = (list_at g.T.Key.Ord.cmp (g.X.Contents.content c.index_mut-bucket.result.now) c.args.slot.1) in length (remove list c.args.place) + 1 ≡ length list
one_value_less g c =
    let less = length-remove _ c.args.place (place_listed g c) in
    let some = place_listed g c in
    omega (arith, less, some)

pub remove_at-value-requires : goal.remove_at-value-requires
remove_at-value-requires g c = place_listed g (goal.at.remove_at-value-requires g c).After-index_mut-bucket

pub set_if-requires : goal.set_if-requires
set_if-requires g c = flag_within g.T.Key.Ord.cmp ((slot g (goal.at.set_if-requires g c).After-index_mut-bucket).bucket) c.self.inside.filled c.self.invariant.1

pub overflow_add-had : goal.overflow_add-had
overflow_add-had g c =
    let items = items_within c.self.invariant.0 g.met.T.Key.Ord.total ((slot g (goal.at.overflow_add-had g c).After-index_mut-bucket).bucket) c.args.slot.1 in
    let small : c.self.inside.counts.items < 2 ^ 64 = search rules in
    omega (arith, items, small, c.remove_at-value.ensures.left)

pub change-requires : goal.change-requires
change-requires g c =
    let before = (goal.at.change-requires g c).After-index_mut-bucket in
    let at = slot g before in
    let less = one_value_less g before in
    let left = c.remove_at-value.ensures.left in
    let small : c.self.inside.counts.items < 2 ^ 64 = search rules in
    can_change at.counted at.total at.bucket c.args.slot.1 at.exact _ c.remove_at-value.new.self c.remove_at-value.ensures.content _ _ left (omega (arith, less, left)) (omega (arith, small))

pub invariant_of-self : goal.invariant_of-self
invariant_of-self g c =
    let before = (goal.at.invariant_of-self g c).After-index_mut-bucket in
    let at = slot g before in
    let less = one_value_less g before in
    let left = c.remove_at-value.ensures.left in
    let some = place_listed g before in (
      counted_change at.counted at.total at.bucket c.args.slot.1 at.exact _ c.remove_at-value.new.self c.remove_at-value.ensures.content _ _ left (omega (arith, less, left)) _ _ c.change.ensures.items c.change.ensures.keys,
      c.set_if.ensures ∙ flags_emptied g.T.Key.Ord.cmp at.bucket c.self.inside.filled c.remove_at-value.new.self _ c.self.invariant.1
          (λ _. filled_held g.T.Key.Ord.cmp _ c.args.slot.1 (omega (arith, some))) c.is_empty-emptied.ensures,
    )

pub returns-clause-value : goal.returns-clause-value
returns-clause-value g c =
    let at = slot g (goal.at.returns-clause-value g c).After-index_mut-bucket in
    rw (← c.self.view_is) (subst (λ l. slice_get l c.args.place ≡ Some c.remove_at-value.result.0) (held_told g.T.Key.Ord.cmp at.bucket c.args.slot.1) c.remove_at-value.ensures.value)

pub returns-clause-edited : goal.returns-clause-edited
returns-clause-edited g c =
    let at = slot g (goal.at.returns-clause-edited g c).After-index_mut-bucket in
    rw (← c.self.view_is)
    (view_pruned at.counted at.total at.bucket c.args.slot.1 at.exact _ c.remove_at-value.new.self c.remove_at-value.ensures.content g.T.Translator.translated c.self.inside.translator _ _ (λ l. remove l c.args.place) refl 1 c.change.ensures.pruned)

pub returns-clause-kept : goal.returns-clause-kept
returns-clause-kept g c =
    let at = slot g (goal.at.returns-clause-kept g c).After-index_mut-bucket in
    rw (← c.self.view_is) (KeepsBuckets-edited at.counted at.total at.bucket c.args.slot.1 at.exact _ c.remove_at-value.new.self c.remove_at-value.ensures.content)

pub returns-clause-standing : goal.returns-clause-standing
returns-clause-standing g c =
    let at = slot g (goal.at.returns-clause-standing g c).After-index_mut-bucket in
    rw (← c.self.view_is) (leaves_here at g.X.Contents.spilled c.remove_at-value.new.self c.self.inside.moves c.remove_at-value.ensures.standing)

paid : (g : Over) (c : After-change g) → Slot g.T.Key.Ord.cmp g.row.P g.X.Contents.content c.self.inside.buckets.items c.self.inside.counts.items c.self.inside.counts.keys c.args.slot.0 c.index_mut-bucket.result.now
    → (let list = (list_at g.T.Key.Ord.cmp (g.X.Contents.content c.index_mut-bucket.result.now) c.args.slot.1) in length (remove list c.args.place) + 1 ≡ length list) → let s = c.self.inside in
    StaysPaid (standings_with g.X.Contents.content g.X.Contents.spilled s.buckets.items s.moves) (standings_with g.X.Contents.content g.X.Contents.spilled (set s.buckets.items c.args.slot.0 c.remove_at-value.new.self) s.moves) s.counts.pruned c.change.new.self.pruned
paid g c at less =
    paid-edited at g.X.Contents.spilled c.remove_at-value.new.self c.self.inside.moves c.remove_at-value.ensures.standing c.self.inside.counts.pruned _ 1
    (entries-edited at _ c.args.slot.1 _ 1 c.remove_at-value.ensures.content (omega (arith, less))) c.change.ensures.pruned

pub invariant_of-self-inside : goal.invariant_of-self-inside
invariant_of-self-inside g c =
    let here = goal.at.invariant_of-self-inside g c in
    ((paid g here.After-change (slot g here.After-index_mut-bucket) (one_value_less g here.After-index_mut-bucket)).within c.self.inside.within, tt)

pub returns-clause-range_bound : goal.returns-clause-range_bound
returns-clause-range_bound g c =
    let here = goal.at.returns-clause-range_bound g c in
    let stays = paid g here.After-change (slot g here.After-index_mut-bucket) (one_value_less g here.After-index_mut-bucket) in
    rw (← c.self.view_is) stays.range_bound
