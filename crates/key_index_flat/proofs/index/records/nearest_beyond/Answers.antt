use Rattle.std.proofs.Common.{true, false, All, refl, sym, subst, map, ◌∙◌}
use Rattle.std.proofs.lemmas.List.Elements.{All-tail, All-contains_itself}
use Rattle.std.specs.List.{Contains}
use Rattle.std.specs.Ordering.{is_lt}
use Rattle.key_index_flat.specs.FullKeys.{IsNearestRead, beyond, byte_cmp}
use Rattle.key_index_flat.specs.Neighbours.{side_cmp}
use Rattle.key_index_flat.proofs.neighbours.LeastLemmas.{is_lt-same_keys, filter_push_passes, filter_push_fails}
use Rattle.key_index_flat.proofs.index.records.nearest_beyond.Goals as goal

pub loop-value-init : goal.loop-value-init
loop-value-init g c = record {
  reads = g.R.Records.reads_nothing c.args.records.now;
  left = subst (All (Contains c.args.values)) (sym c.into_iter-value-iterator.ensures.into_iter_gives) (All-contains_itself c.args.values);
  least = λ _ _. (refl, tt);
}

pub loop-value-preserved-then-is_before : goal.loop-value-preserved-then-is_before
loop-value-preserved-then-is_before g c =
    let law = g.R.Records in
    let now = c.loop-value.records in
    let is_above = g.S.Side.is_above in
    let cmp = side_cmp is_above byte_cmp in
    let key = c.args.key.now in
    let so_far = c.loop-value.invariant in
    let value = c.in-Some.value in
    record {
      reads = law.reads_both c.args.records.now now c.key_of.new.self so_far.reads c.in_ok-full_key.ensures.reads;
      left = All-tail (Contains c.args.values) value.now c.next.new.self (subst (All (Contains c.args.values)) c.in-Some.ensures.steps so_far.left);
      least = λ keys agrees.
          let before = law.agreed now c.key_of.new.self keys c.in_ok-full_key.ensures.reads agrees in
          let is_key = c.in_ok-full_key.ensures.key keys agrees in
          let test = is_lt-same_keys cmp key c.as_slice.result.now key (keys value.now) true c.if-is_before.ensures refl (c.as_slice.ensures ∙ is_key) in
          let more = filter_push_passes (λ v. is_lt (cmp key (keys v))) (λ v. v.now) c.loop-value.yielded value test in
          subst (λ l. IsNearestRead keys g.R.Key.AsSlice.items is_above l c.nearer-nearest.result) (sym more)
          (c.nearer-nearest.ensures keys (beyond keys is_above key (map (λ v. v.now) c.loop-value.yielded)) is_key (so_far.least keys before));
    }

pub loop-value-preserved : goal.loop-value-preserved
loop-value-preserved g c =
    let law = g.R.Records in
    let now = c.loop-value.records in
    let is_above = g.S.Side.is_above in
    let cmp = side_cmp is_above byte_cmp in
    let key = c.args.key.now in
    let so_far = c.loop-value.invariant in
    let value = c.in-Some.value in
    record {
      reads = law.reads_both c.args.records.now now c.key_of.new.self so_far.reads c.in_ok-full_key.ensures.reads;
      left = All-tail (Contains c.args.values) value.now c.next.new.self (subst (All (Contains c.args.values)) c.in-Some.ensures.steps so_far.left);
      least = λ keys agrees.
          let before = law.agreed now c.key_of.new.self keys c.in_ok-full_key.ensures.reads agrees in
          let is_key = c.in_ok-full_key.ensures.key keys agrees in
          let test = is_lt-same_keys cmp key c.as_slice.result.now key (keys value.now) false c.if-is_before.ensures refl (c.as_slice.ensures ∙ is_key) in
          let same = filter_push_fails (λ v. is_lt (cmp key (keys v))) (λ v. v.now) c.loop-value.yielded value test in
          subst (λ l. IsNearestRead keys g.R.Key.AsSlice.items is_above l c.loop-value.nearest) (sym same) (so_far.least keys before);
    }
