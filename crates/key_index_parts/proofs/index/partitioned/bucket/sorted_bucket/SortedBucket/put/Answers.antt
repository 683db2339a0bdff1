use Rattle.std.proofs.Common.{◌<◌, true, false, [], ◌∷◌, not, length-append, refl, ap, ◌∙◌, arith}
use Rattle.key_index_flat.specs.Content.{is_filled, item_count, list_at}
use Rattle.key_index_flat.specs.View.{put_value}
use Rattle.key_index_parts.specs.Pairs.{grouped}
use Rattle.key_index_parts.specs.laws.PairLaws.{IsLawful-grouped}
use Rattle.key_index_parts.proofs.standing.SortedBucketLemmas.{Grows-below_threshold, item_count-stays_positive, item_count-one_more, Grows-threshold_reached}
use Rattle.key_index_parts.proofs.index.partitioned.bucket.sorted_bucket.SortedBucket.put.Goals as goal

pub invariant_of-self : goal.invariant_of-self
invariant_of-self g c =
    let tree = c.deref_mut.result.now in
    let held = tree.lists.content in
    let l = list_at g.T.Key.Ord.cmp held c.args.key in
    let some : 0 < item_count held = rw c.deref_mut.ensures.value (rw c.in-Spilled.is at c.args.self.now.filled) in
    let long = length-append l (c.args.value ∷ []) in
    record {
      filled = item_count-stays_positive g.met.T.Key.Ord.total c.insert.result held c.insert.new.self.lists.content c.args.key (put_value false c.args.value)
          (not (is_filled l)) tree.counted.lawful some (omega (arith, long)) c.insert.ensures.accepted c.insert.ensures.refused;
    }

pub returns-then-len-threshold-clause-standing : goal.returns-then-len-threshold-clause-standing
returns-then-len-threshold-clause-standing g c =
    let pairs = c.in-Inline.arrays.pairs.pairs in
    let held = grouped g.T.Key.Ord.cmp pairs in
    let l = list_at g.T.Key.Ord.cmp held c.args.key in
    let more = item_count-one_more g.met.T.Key.Ord.total held (grouped g.T.Key.Ord.cmp c.insert-then-len-threshold.new.self.pairs.pairs) c.args.key _ (IsLawful-grouped g.met.T.Key.Ord.total pairs)
    (length-append l (c.args.value ∷ [])) c.in_ok-absent.ensures.accepted.0 in
    rw c.in-Inline.is (Grows-below_threshold true c.args.threshold _ (λ _. omega (arith, more, c.len.ensures, c.if-len-threshold.true)))

pub invariant_of-self-in-Ok-insert : goal.invariant_of-self-in-Ok-insert
invariant_of-self-in-Ok-insert g c =
    let tree = c.deref_mut-2.result.now in
    let held = tree.lists.content in
    let l = list_at g.T.Key.Ord.cmp held c.args.key in
    let more = item_count-one_more g.met.T.Key.Ord.total held c.insert-2.new.self.lists.content c.args.key _ tree.counted.lawful (length-append l (c.args.value ∷ []))
    c.in-Ok-insert.ensures.accepted.0 in
    record { filled = omega (arith, more) }

pub returns-in-Ok-insert-clause-standing : goal.returns-in-Ok-insert-clause-standing
returns-in-Ok-insert-clause-standing g c =
    let tree = c.deref_mut-2.result.now in
    let held = tree.lists.content in
    let l = list_at g.T.Key.Ord.cmp held c.args.key in
    let more = item_count-one_more g.met.T.Key.Ord.total held c.insert-2.new.self.lists.content c.args.key _ tree.counted.lawful (length-append l (c.args.value ∷ []))
    c.in-Ok-insert.ensures.accepted.0 in
    let same = ap (λ t. item_count (t.lists.content)) c.deref_mut-2.ensures.value ∙ ap item_count c.in-Ok.ensures.tree in
    let told = c.len-moved.ensures ∙ ap (λ t. item_count (t.lists.content)) c.deref.ensures in
    rw c.in-Inline.is (Grows-threshold_reached true c.args.threshold _ c.insert-2.new.self.lists.content refl c.requires
    (omega (arith, told, more, same, c.len.ensures, c.if-len-threshold.false, c.requires)) told)
