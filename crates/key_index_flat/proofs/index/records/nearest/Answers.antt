use Rattle.std.proofs.Common.{◌∷◌, [], All, refl, subst, sym, map}
use Rattle.std.proofs.lemmas.List.{map-append}
use Rattle.std.proofs.lemmas.List.Elements.{All-tail, All-contains_itself}
use Rattle.std.specs.List.{Contains}
use Rattle.key_index_flat.specs.FullKeys.{IsNearestRead}
use Rattle.key_index_flat.proofs.index.records.nearest.Goals as goal

pub loop-value-init : goal.loop-value-init
loop-value-init g c = record {
  reads = g.R.Records.reads_nothing c.args.records.now;
  left = subst (All (Contains c.args.values)) (sym c.into_iter-value-iterator.ensures.into_iter_gives) (All-contains_itself c.args.values);
  least = λ _ _. (refl, tt);
}

pub loop-value-preserved : goal.loop-value-preserved
loop-value-preserved g c =
    let law = g.R.Records in
    let now = c.loop-value.records in
    let so_far = c.loop-value.invariant in
    let value = c.in-Some.value in
    record {
      reads = law.reads_both c.args.records.now now c.key_of.new.self so_far.reads c.in_ok-key.ensures.reads;
      left = All-tail (Contains c.args.values) value.now c.next.new.self (subst (All (Contains c.args.values)) c.in-Some.ensures.steps so_far.left);
      least = λ keys agrees.
          let before = law.agreed now c.key_of.new.self keys c.in_ok-key.ensures.reads agrees in
          subst (λ l. IsNearestRead keys g.R.Key.AsSlice.items g.S.Side.is_above l c.nearer-nearest.result) (sym (map-append (λ v. v.now) c.loop-value.yielded (value ∷ [])))
          (c.nearer-nearest.ensures keys (map (λ v. v.now) c.loop-value.yielded) (c.in_ok-key.ensures.key keys agrees) (so_far.least keys before));
    }
