use Rattle.std.proofs.Common.{rules, ◌^◌, ◌<◌, [], inl, length, refl, sym, ap, ◌∙◌, arith}
use Rattle.key_index_flat.specs.Content.{is_filled}
use Rattle.key_index_flat.specs.View.{pruned_after}
use Rattle.key_index_parts.specs.Standing.{IsRemoved}
use Rattle.key_index_parts.proofs.buckets.BucketLemmas.{bucket_taken, bucket_stays, filled_before, flags_emptied}
use Rattle.key_index_parts.proofs.buckets.ChangeLemmas.{Slot, entries-edited, flags_here, kept_stays, paid-refused_here, within-removed}
use Rattle.key_index_parts.proofs.buckets.StorageLemmas.{KeepsBuckets-edited, can_change, counted_as, counted_change, held_told, keeps_all, view_pruned}
use Rattle.key_index_parts.proofs.standing.StandingLemmas.{changed, resettles}
use Rattle.key_index_parts.proofs.index.partitioned.storage.Storage.remove.Given.{Over}
use Rattle.key_index_parts.proofs.index.partitioned.storage.Storage.remove.Goals.{After-index_mut-bucket}
use Rattle.key_index_parts.proofs.index.partitioned.storage.Storage.remove.Goals as goal

slot : (g : Over) (c : After-index_mut-bucket g) → Slot g.T.Key.Ord.cmp g.row.P g.X.Contents.content c.self.inside.buckets.items c.self.inside.counts.items c.self.inside.counts.keys c.args.slot.0 c.index_mut-bucket.result.now
slot g c = record {
  counted = c.self.invariant.0;
  total = g.met.T.Key.Ord.total;
  exact = g.met.T.Translator.exact;
  lawful = g.met.X.Contents.lawful c.index_mut-bucket.result.now;
  bucket = bucket_taken g.X.Contents.content c.self.inside.buckets.items (ap (λ s. s.buckets) c.self.view_is) c.requires c.index_mut-bucket.ensures.value;
}

pub invariant_of-self-inside : goal.invariant_of-self-inside
invariant_of-self-inside g c =
    let at = slot g (goal.at.invariant_of-self-inside g c).After-index_mut-bucket in
    ((paid-refused_here at g.X.Contents.spilled c.remove.new.self c.self.inside.moves c.remove.new.moves g.X.Bucket.SPILLS c.self.inside.counts.pruned (inl c.in_default.ensures.stands)).within c.self.inside.within, tt)

pub invariant_of-self : goal.invariant_of-self
invariant_of-self g c =
    let at = slot g (goal.at.invariant_of-self g c).After-index_mut-bucket in (
      counted_as at.counted _ (bucket_stays g.T.Key.Ord.cmp at.bucket c.remove.new.self c.in_default.ensures.refused),
      flags_here at c.self.inside.filled c.remove.new.self c.self.invariant.1 c.in_default.ensures.refused,
    )

pub returns-in_default-clause-refused : goal.returns-in_default-clause-refused
returns-in_default-clause-refused g c =
    let at = slot g (goal.at.returns-in_default-clause-refused g c).After-index_mut-bucket in
    kept_stays at g.X.Contents.spilled c.remove.new.self c.self.inside.moves c.remove.new.moves _ _ c.in_default.ensures.refused c.in_default.ensures.stands ∙ c.self.view_is

pub returns-in_default-clause-kept : goal.returns-in_default-clause-kept
returns-in_default-clause-kept g c =
    let at = slot g (goal.at.returns-in_default-clause-kept g c).After-index_mut-bucket in
    rw (← c.self.view_is) (keeps_all at.counted _ (bucket_stays g.T.Key.Ord.cmp at.bucket c.remove.new.self c.in_default.ensures.refused))

pub change-requires : goal.change-requires
change-requires g c =
    let at = slot g (goal.at.change-requires g c).After-index_mut-bucket in
    let small : c.self.inside.counts.items < 2 ^ 64 = search rules in
    can_change at.counted at.total at.bucket c.args.slot.1 at.exact [] c.remove.new.self c.in-Ok.ensures.removed _ 0 c.in-Ok.ensures.taken refl (omega (arith, small))

pub invariant_of-self-2 : goal.invariant_of-self-2
invariant_of-self-2 g c =
    let at = slot g (goal.at.invariant_of-self-2 g c).After-index_mut-bucket in (
      counted_change at.counted at.total at.bucket c.args.slot.1 at.exact [] c.remove.new.self c.in-Ok.ensures.removed _ 0 c.in-Ok.ensures.taken refl _ _ c.change.ensures.items c.change.ensures.keys,
      c.set_if.ensures ∙ flags_emptied g.T.Key.Ord.cmp at.bucket c.self.inside.filled c.remove.new.self _ c.self.invariant.1
          (λ h. filled_before g.T.Key.Ord.cmp _ c.args.slot.1 [] (omega arith) (ap is_filled (sym c.in-Ok.ensures.removed) ∙ h)) c.is_empty-none_left.ensures,
    )

pub invariant_of-self-inside-2 : goal.invariant_of-self-inside-2
invariant_of-self-inside-2 g c =
    let at = slot g (goal.at.invariant_of-self-inside-2 g c).After-index_mut-bucket in
    let few = entries-edited at _ c.args.slot.1 [] _ c.in-Ok.ensures.removed (omega (arith, c.in-Ok.ensures.taken)) in
    (within-removed at g.X.Contents.spilled c.remove.new.self c.self.inside.moves c.remove.new.moves g.X.Bucket.SPILLS c.self.inside.counts.pruned _ _ few c.change.ensures.pruned c.in-Ok.ensures.standing c.self.inside.within, tt)

pub returns-clause-removed : goal.returns-clause-removed
returns-clause-removed g c =
    let at = slot g (goal.at.returns-clause-removed g c).After-index_mut-bucket in
    let had = c.in-Ok.ensures.taken ∙ ap (λ l. length l) (held_told g.T.Key.Ord.cmp at.bucket c.args.slot.1) in
    rw (← c.self.view_is)
    (view_pruned at.counted at.total at.bucket c.args.slot.1 at.exact [] c.remove.new.self c.in-Ok.ensures.removed g.T.Translator.translated c.self.inside.translator _ _ (λ _. []) refl
    _ (c.change.ensures.pruned ∙ ap (λ n. pruned_after c.self.inside.counts.pruned n) had))

pub returns-clause-settled : goal.returns-clause-settled
returns-clause-settled g c =
    let at = slot g (goal.at.returns-clause-settled g c).After-index_mut-bucket in
    rw (← c.self.view_is)
    (λ is. resettles g.X.Bucket.SPILLS is _ _ c.args.slot.0 c.self.inside.moves.least (changed at.bucket g.X.Contents.spilled c.remove.new.self c.self.inside.moves c.remove.new.moves (IsRemoved g.X.Bucket.SPILLS) c.in-Ok.ensures.standing))

pub returns-clause-kept : goal.returns-clause-kept
returns-clause-kept g c =
    let at = slot g (goal.at.returns-clause-kept g c).After-index_mut-bucket in
    rw (← c.self.view_is) (KeepsBuckets-edited at.counted at.total at.bucket c.args.slot.1 at.exact [] c.remove.new.self c.in-Ok.ensures.removed)
