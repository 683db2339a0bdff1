use Rattle.std.proofs.Common.{◌≡◌, true, false, cond, Some, IsSome, All, ap, refl, sym, subst, map, ◌∙◌}
use Rattle.std.proofs.lemmas.List.Elements.{All-tail, All-contains_itself}
use Rattle.std.specs.List.{Contains}
use Rattle.std.specs.Ordering.{is_lt}
use Rattle.std.specs.Str.{bytes_eq}
use Rattle.key_index_flat.specs.FullKeys.{IsNearestRead, above, below, byte_cmp, first_with}
use Rattle.key_index_flat.proofs.neighbours.LeastLemmas.{is_lt-same_keys, filter_push_passes, filter_push_fails, not_above, not_below}
use Rattle.key_index_flat.proofs.index.records.nearest_beside.Goals as goal

pub loop-value-init : goal.loop-value-init
loop-value-init g c = record {
  reads = g.R.Records.reads_nothing c.args.records.now;
  left = subst (All (Contains c.args.values)) (sym c.into_iter-value-iterator.ensures.into_iter_gives) (All-contains_itself c.args.values);
  first = λ keys _. ap (first_with keys c.args.key.now) (sym c.into_iter-value-iterator.ensures.into_iter_gives);
  below = λ _ _. (refl, tt);
  above = λ _ _. (refl, tt);
}

pub returns-then-eq-clause-beside : goal.returns-then-eq-clause-beside
returns-then-eq-clause-beside g c = λ keys agrees.
    let key = c.args.key.now in
    let value = c.in-Some.value.now in
    let before = g.R.Records.agreed c.loop-value.records c.key_of.new.self keys c.in_ok-full_key.ensures.reads agrees in
    let is_key = c.as_slice.ensures ∙ c.in_ok-full_key.ensures.key keys agrees in
    let has : bytes_eq (keys value) key ≡ true = ap (λ k. bytes_eq k key) (sym is_key) ∙ sym c.eq.ensures ∙ c.if-eq.true in
    let found = c.loop-value.invariant.first keys before ∙ ap (first_with keys key) c.in-Some.ensures.steps ∙ ap (λ b. cond b (Some value) (first_with keys key c.next.new.self)) has in
    subst (λ o. IsSome o) (sym found) refl

pub loop-value-preserved-then-is_before : goal.loop-value-preserved-then-is_before
loop-value-preserved-then-is_before g c =
    let law = g.R.Records in
    let now = c.loop-value.records in
    let key = c.args.key.now in
    let value = c.in-Some.value in
    let so_far = c.loop-value.invariant in
    record {
      reads = law.reads_both c.args.records.now now c.key_of.new.self so_far.reads c.in_ok-full_key.ensures.reads;
      left = All-tail (Contains c.args.values) value.now c.next.new.self (subst (All (Contains c.args.values)) c.in-Some.ensures.steps so_far.left);
      first = λ keys agrees.
          let before = law.agreed now c.key_of.new.self keys c.in_ok-full_key.ensures.reads agrees in
          let is_key = c.as_slice.ensures ∙ c.in_ok-full_key.ensures.key keys agrees in
          let hasnt : bytes_eq (keys value.now) key ≡ false = ap (λ k. bytes_eq k key) (sym is_key) ∙ sym c.eq.ensures ∙ c.if-eq.false in
          so_far.first keys before ∙ ap (first_with keys key) c.in-Some.ensures.steps ∙ ap (λ b. cond b (Some value.now) (first_with keys key c.next.new.self)) hasnt;
      below = λ keys agrees.
          let before = law.agreed now c.key_of.new.self keys c.in_ok-full_key.ensures.reads agrees in
          let is_key = c.as_slice-in-loop-value.ensures ∙ c.in_ok-full_key.ensures.key keys agrees in
          let test = is_lt-same_keys byte_cmp key c.as_slice-in-loop-value.result.now key (keys value.now) true c.if-is_before.ensures refl is_key in
          let same = filter_push_fails (λ v. is_lt (byte_cmp (keys v) key)) (λ v. v.now) c.loop-value.yielded value (not_below key (keys value.now) test) in
          subst (λ l. IsNearestRead keys g.R.Key.AsSlice.items false l c.loop-value.below) (sym same) (so_far.below keys before);
      above = λ keys agrees.
          let before = law.agreed now c.key_of.new.self keys c.in_ok-full_key.ensures.reads agrees in
          let is_key = c.in_ok-full_key.ensures.key keys agrees in
          let test = is_lt-same_keys byte_cmp key c.as_slice-in-loop-value.result.now key (keys value.now) true c.if-is_before.ensures refl (c.as_slice-in-loop-value.ensures ∙ is_key) in
          let more = filter_push_passes (λ v. is_lt (byte_cmp key (keys v))) (λ v. v.now) c.loop-value.yielded value test in
          subst (λ l. IsNearestRead keys g.R.Key.AsSlice.items true l c.nearer-above.result) (sym more)
          (c.nearer-above.ensures keys (above keys key (map (λ v. v.now) c.loop-value.yielded)) is_key (so_far.above keys before));
    }

pub loop-value-preserved : goal.loop-value-preserved
loop-value-preserved g c =
    let law = g.R.Records in
    let now = c.loop-value.records in
    let key = c.args.key.now in
    let value = c.in-Some.value in
    let so_far = c.loop-value.invariant in
    record {
      reads = law.reads_both c.args.records.now now c.key_of.new.self so_far.reads c.in_ok-full_key.ensures.reads;
      left = All-tail (Contains c.args.values) value.now c.next.new.self (subst (All (Contains c.args.values)) c.in-Some.ensures.steps so_far.left);
      first = λ keys agrees.
          let before = law.agreed now c.key_of.new.self keys c.in_ok-full_key.ensures.reads agrees in
          let is_key = c.as_slice.ensures ∙ c.in_ok-full_key.ensures.key keys agrees in
          let hasnt : bytes_eq (keys value.now) key ≡ false = ap (λ k. bytes_eq k key) (sym is_key) ∙ sym c.eq.ensures ∙ c.if-eq.false in
          so_far.first keys before ∙ ap (first_with keys key) c.in-Some.ensures.steps ∙ ap (λ b. cond b (Some value.now) (first_with keys key c.next.new.self)) hasnt;
      below = λ keys agrees.
          let before = law.agreed now c.key_of.new.self keys c.in_ok-full_key.ensures.reads agrees in
          let is_key = c.in_ok-full_key.ensures.key keys agrees in
          let hasnt : bytes_eq (keys value.now) key ≡ false = ap (λ k. bytes_eq k key) (sym (c.as_slice.ensures ∙ is_key)) ∙ sym c.eq.ensures ∙ c.if-eq.false in
          let test = is_lt-same_keys byte_cmp key c.as_slice-in-loop-value.result.now key (keys value.now) false c.if-is_before.ensures refl (c.as_slice-in-loop-value.ensures ∙ is_key) in
          let more = filter_push_passes (λ v. is_lt (byte_cmp (keys v) key)) (λ v. v.now) c.loop-value.yielded value (not_above key (keys value.now) hasnt test) in
          subst (λ l. IsNearestRead keys g.R.Key.AsSlice.items false l c.nearer-below.result) (sym more)
          (c.nearer-below.ensures keys (below keys key (map (λ v. v.now) c.loop-value.yielded)) is_key (so_far.below keys before));
      above = λ keys agrees.
          let before = law.agreed now c.key_of.new.self keys c.in_ok-full_key.ensures.reads agrees in
          let is_key = c.as_slice-in-loop-value.ensures ∙ c.in_ok-full_key.ensures.key keys agrees in
          let test = is_lt-same_keys byte_cmp key c.as_slice-in-loop-value.result.now key (keys value.now) false c.if-is_before.ensures refl is_key in
          let same = filter_push_fails (λ v. is_lt (byte_cmp key (keys v))) (λ v. v.now) c.loop-value.yielded value test in
          subst (λ l. IsNearestRead keys g.R.Key.AsSlice.items true l c.loop-value.above) (sym same) (so_far.above keys before);
    }
