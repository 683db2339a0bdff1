use Rattle.std.proofs.Common.{not, is_some, ap, ◌∙◌, arith}
use Rattle.std.specs.Fn.{CalledAt}
use Rattle.key_index_flat.specs.Content.{item_count}
use Rattle.key_index_parts.specs.Pairs.{grouped}
use Rattle.key_index_parts.specs.laws.PairLaws.{IsLawful-grouped}
use Rattle.key_index_parts.proofs.standing.SortedBucketLemmas.{Grows-below_threshold, in_tree, Grows-threshold_reached, item_count-retained, new_held, one_at_most}
use Rattle.key_index_parts.proofs.index.partitioned.bucket.sorted_bucket.SortedBucket.put_and_retain.Goals.{then-is_none-via-then-is_none, then-is_none-via-else-is_none+then-len-threshold}
use Rattle.key_index_parts.proofs.index.partitioned.bucket.sorted_bucket.SortedBucket.put_and_retain.Goals as goal

pub returns-in-Spilled-clause-standing : goal.returns-in-Spilled-clause-standing
returns-in-Spilled-clause-standing g c = rw c.in-Spilled.is (in_tree (is_some c.args.new.now) c.args.threshold _ _ c.requires.threshold c.drop_emptied.ensures.standing)

pub returns-then-is_none-clause-standing : goal.returns-then-is_none-clause-standing
returns-then-is_none-clause-standing g c =
    let pairs = c.in-Inline.arrays.pairs.pairs in
    let few = item_count-retained g.met.T.Key.Ord.total (CalledAt g.F.FnMut) c.args.should_retain (grouped g.T.Key.Ord.cmp pairs) (grouped g.T.Key.Ord.cmp c.retain-then-is_none.new.self.pairs.pairs)
    c.args.key c.args.new.now c.in_ok-told.told (IsLawful-grouped g.met.T.Key.Ord.total pairs) c.in_ok-told.ensures.accepted in
    rw c.in-Inline.is (Grows-below_threshold (is_some c.args.new.now) c.args.threshold _ (λ some. elim c.then-is_none.branch [
      | then-is_none-via-then-is_none w ↦ absurd (new_held _ _ c.is_none.ensures w.if-is_none.true some)
      | then-is_none-via-else-is_none+then-len-threshold w ↦ omega (arith, few, one_at_most (is_some c.args.new.now), w.len.ensures, w.if-len-threshold.true)
    ]))

pub returns-then-left-threshold-clause-standing : goal.returns-then-left-threshold-clause-standing
returns-then-left-threshold-clause-standing g c =
    let told = c.len-left.ensures ∙ ap (λ t. item_count (t.lists.content)) c.deref.ensures in
    let same = ap item_count (c.into_arrays.ensures ∙ ap (λ t. t.lists.content) c.into_inner.ensures) in
    rw c.in-Inline.is (Grows-below_threshold (is_some c.args.new.now) c.args.threshold _ (λ _. omega (arith, told, same, c.if-left-threshold.true)))

pub invariant_of-self-in-Ok-retain : goal.invariant_of-self-in-Ok-retain
invariant_of-self-in-Ok-retain g c =
    let told = c.len-left.ensures ∙ ap (λ t. item_count (t.lists.content)) c.deref.ensures in
    record { filled = omega (arith, told, c.requires.threshold, c.if-left-threshold.false) }

pub returns-else-left-threshold-clause-standing : goal.returns-else-left-threshold-clause-standing
returns-else-left-threshold-clause-standing g c =
    let told = c.len-left.ensures ∙ ap (λ t. item_count (t.lists.content)) c.deref.ensures in
    rw c.in-Inline.is (Grows-threshold_reached (is_some c.args.new.now) c.args.threshold _ c.retain-2.new.self.lists.content
    (c.is_none.ensures ∙ ap not c.if-is_none.false) c.requires.threshold (omega (arith, c.if-left-threshold.false)) told)
