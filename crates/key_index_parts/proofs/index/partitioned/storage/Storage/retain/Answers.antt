use Rattle.std.proofs.Common.{rules, ◌^◌, ◌<◌, None, inl, refl, sym, subst, ap, ◌∙◌, arith}
use Rattle.std.specs.Fn.{CalledAt}
use Rattle.key_index_flat.specs.Content.{is_filled}
use Rattle.key_index_flat.specs.Retention.{AsksWith}
use Rattle.key_index_flat.proofs.closures.PutLemmas.{few_with}
use Rattle.key_index_parts.specs.Gathered.{pair_cmp}
use Rattle.key_index_parts.specs.Standing.{IsRemoved}
use Rattle.key_index_parts.proofs.buckets.BucketLemmas.{bucket_taken, bucket_stays, filled_before, flags_emptied}
use Rattle.key_index_parts.proofs.buckets.ChangeLemmas.{Slot, entries-edited, flags_here, kept_stays, paid-refused_here, within-removed}
use Rattle.key_index_parts.proofs.buckets.CountLemmas.{left_and_gone}
use Rattle.key_index_parts.proofs.buckets.StorageLemmas.{KeepsBuckets-edited, can_change, counted_as, counted_change, held_told, keeps_all, retains_with, view_pruned}
use Rattle.key_index_parts.proofs.standing.StandingLemmas.{changed, resettles}
use Rattle.key_index_parts.proofs.index.partitioned.storage.Storage.retain.Given.{Over}
use Rattle.key_index_parts.proofs.index.partitioned.storage.Storage.retain.Goals.{After-index_mut-bucket}
use Rattle.key_index_parts.proofs.index.partitioned.storage.Storage.retain.Goals as goal

slot : (g : Over) (c : After-index_mut-bucket g) → Slot g.T.Key.Ord.cmp g.row.P g.X.Contents.content c.self.inside.buckets.items c.self.inside.counts.items c.self.inside.counts.keys c.args.slot.0 c.index_mut-bucket.result.now
slot g c = record {
  counted = c.self.invariant.0;
  total = g.met.T.Key.Ord.total;
  exact = g.met.T.Translator.exact;
  lawful = g.met.X.Contents.lawful c.index_mut-bucket.result.now;
  bucket = bucket_taken g.X.Contents.content c.self.inside.buckets.items (ap (λ s. s.buckets) c.self.view_is) c.requires.within c.index_mut-bucket.ensures.value;
}

pub invariant_of-self-inside : goal.invariant_of-self-inside
invariant_of-self-inside g c =
    let at = slot g (goal.at.invariant_of-self-inside g c).After-index_mut-bucket in
    ((paid-refused_here at g.X.Contents.spilled c.retain.new.self c.self.inside.moves c.retain.new.moves g.X.Bucket.SPILLS c.self.inside.counts.pruned (inl (c.in_default.ensures.stands refl))).within c.self.inside.within, tt)

pub invariant_of-self : goal.invariant_of-self
invariant_of-self g c =
    let at = slot g (goal.at.invariant_of-self g c).After-index_mut-bucket in (
      counted_as at.counted _ (bucket_stays g.T.Key.Ord.cmp at.bucket c.retain.new.self c.in_default.ensures.refused),
      flags_here at c.self.inside.filled c.retain.new.self c.self.invariant.1 c.in_default.ensures.refused,
    )

pub returns-in_default-clause-refused : goal.returns-in_default-clause-refused
returns-in_default-clause-refused g c =
    let at = slot g (goal.at.returns-in_default-clause-refused g c).After-index_mut-bucket in
    kept_stays at g.X.Contents.spilled c.retain.new.self c.self.inside.moves c.retain.new.moves _ _ c.in_default.ensures.refused (c.in_default.ensures.stands refl) ∙ c.self.view_is

pub returns-in_default-clause-kept : goal.returns-in_default-clause-kept
returns-in_default-clause-kept g c =
    let at = slot g (goal.at.returns-in_default-clause-kept g c).After-index_mut-bucket in
    rw (← c.self.view_is) (keeps_all at.counted _ (bucket_stays g.T.Key.Ord.cmp at.bucket c.retain.new.self c.in_default.ensures.refused))

pub change-requires : goal.change-requires
change-requires g c =
    let at = slot g (goal.at.change-requires g c).After-index_mut-bucket in
    let said = c.in-Ok.ensures.accepted in
    let few = few_with (CalledAt g.F.FnMut) c.args.should_retain _ said.0 None _ said.1 in
    let small : c.self.inside.counts.items < 2 ^ 64 = search rules in
    can_change at.counted at.total at.bucket c.args.slot.1 at.exact said.0 c.retain.new.self said.2 _ _ said.3 said.4 (omega (arith, small, said.3, said.4, few))

pub invariant_of-self-2 : goal.invariant_of-self-2
invariant_of-self-2 g c =
    let at = slot g (goal.at.invariant_of-self-2 g c).After-index_mut-bucket in
    let said = c.in-Ok.ensures.accepted in (
      counted_change at.counted at.total at.bucket c.args.slot.1 at.exact said.0 c.retain.new.self said.2 _ _ said.3 said.4 _ _ c.change.ensures.items c.change.ensures.keys,
      c.set_if.ensures ∙ flags_emptied g.T.Key.Ord.cmp at.bucket c.self.inside.filled c.retain.new.self _ c.self.invariant.1
          (λ h. filled_before g.T.Key.Ord.cmp _ c.args.slot.1 said.0 (omega (arith, few_with (CalledAt g.F.FnMut) c.args.should_retain _ said.0 None _ said.1)) (ap is_filled (sym said.2) ∙ h)) c.is_empty-none_left.ensures,
    )

pub invariant_of-self-inside-2 : goal.invariant_of-self-inside-2
invariant_of-self-inside-2 g c =
    let at = slot g (goal.at.invariant_of-self-inside-2 g c).After-index_mut-bucket in
    let said = c.in-Ok.ensures.accepted in
    let few = entries-edited at _ c.args.slot.1 said.0 _ said.2 (left_and_gone (CalledAt g.F.FnMut) c.args.should_retain _ None said.0 _ said.1) in
    (within-removed at g.X.Contents.spilled c.retain.new.self c.self.inside.moves c.retain.new.moves g.X.Bucket.SPILLS c.self.inside.counts.pruned _ _ few c.change.ensures.pruned c.in-Ok.ensures.standing c.self.inside.within, tt)

pub returns-clause-retained : goal.returns-clause-retained
returns-clause-retained g c =
    let at = slot g (goal.at.returns-clause-retained g c).After-index_mut-bucket in
    let said = c.in-Ok.ensures.accepted in
    let taken = c.in-Ok.told.taken in
    rw (← c.self.view_is) (retains_with (pair_cmp g.T.Key.Ord.cmp) (CalledAt g.F.FnMut) c.args.should_retain _ _ c.args.slot None said.0 taken
    (subst (λ m. AsksWith (CalledAt g.F.FnMut) c.args.should_retain m None said.0 taken) (held_told g.T.Key.Ord.cmp at.bucket c.args.slot.1) said.1)
    (view_pruned at.counted at.total at.bucket c.args.slot.1 at.exact _ c.retain.new.self said.2 g.T.Translator.translated c.self.inside.translator _ _ (λ m. said.0) refl taken c.change.ensures.pruned))

pub returns-clause-settled : goal.returns-clause-settled
returns-clause-settled g c =
    let at = slot g (goal.at.returns-clause-settled g c).After-index_mut-bucket in
    rw (← c.self.view_is)
    (λ is. resettles g.X.Bucket.SPILLS is _ _ c.args.slot.0 c.self.inside.moves.least (changed at.bucket g.X.Contents.spilled c.retain.new.self c.self.inside.moves c.retain.new.moves (IsRemoved g.X.Bucket.SPILLS) c.in-Ok.ensures.standing))

pub returns-clause-kept : goal.returns-clause-kept
returns-clause-kept g c =
    let at = slot g (goal.at.returns-clause-kept g c).After-index_mut-bucket in
    let said = c.in-Ok.ensures.accepted in
    rw (← c.self.view_is) (KeepsBuckets-edited at.counted at.total at.bucket c.args.slot.1 at.exact _ c.retain.new.self said.2)
