use Rattle.std.proofs.Common.{◌≡◌, true, false, cond, Some, All, ap, sym, subst, ◌∙◌}
use Rattle.std.proofs.lemmas.List.Elements.{All-tail, All-contains_itself}
use Rattle.std.specs.List.{Contains}
use Rattle.std.specs.Str.{bytes_eq}
use Rattle.key_index_flat.specs.FullKeys.{first_with}
use Rattle.key_index_flat.proofs.index.records.first_record_with.Goals as goal

pub loop-value-init : goal.loop-value-init
loop-value-init g c = record {
  reads = g.R.Records.reads_nothing c.args.records.now;
  left = subst (All (Contains c.args.values)) (sym c.into_iter-value-iterator.ensures.into_iter_gives) (All-contains_itself c.args.values);
  first = λ keys _. ap (first_with keys c.args.key.now) (sym c.into_iter-value-iterator.ensures.into_iter_gives);
}

pub returns-then-eq-clause-first : goal.returns-then-eq-clause-first
returns-then-eq-clause-first g c = λ keys agrees.
    let key = c.args.key.now in
    let value = c.in-Some.value.now in
    let before = g.R.Records.agreed c.loop-value.records c.key_of.new.self keys c.in_ok-full_key.ensures.reads agrees in
    let is_key = c.as_slice.ensures ∙ c.in_ok-full_key.ensures.key keys agrees in
    let has : bytes_eq (keys value) key ≡ true = ap (λ k. bytes_eq k key) (sym is_key) ∙ sym c.eq.ensures ∙ c.if-eq.true in
    sym (c.loop-value.invariant.first keys before ∙ ap (first_with keys key) c.in-Some.ensures.steps ∙ ap (λ b. cond b (Some value) (first_with keys key c.next.new.self)) has)

pub loop-value-preserved : goal.loop-value-preserved
loop-value-preserved g c =
    let law = g.R.Records in
    let now = c.loop-value.records in
    let key = c.args.key.now in
    let value = c.in-Some.value.now in
    let so_far = c.loop-value.invariant in
    record {
      reads = law.reads_both c.args.records.now now c.key_of.new.self so_far.reads c.in_ok-full_key.ensures.reads;
      left = All-tail (Contains c.args.values) value c.next.new.self (subst (All (Contains c.args.values)) c.in-Some.ensures.steps so_far.left);
      first = λ keys agrees.
          let before = law.agreed now c.key_of.new.self keys c.in_ok-full_key.ensures.reads agrees in
          let is_key = c.as_slice.ensures ∙ c.in_ok-full_key.ensures.key keys agrees in
          let hasnt : bytes_eq (keys value) key ≡ false = ap (λ k. bytes_eq k key) (sym is_key) ∙ sym c.eq.ensures ∙ c.if-eq.false in
          so_far.first keys before ∙ ap (first_with keys key) c.in-Some.ensures.steps ∙ ap (λ b. cond b (Some value) (first_with keys key c.next.new.self)) hasnt;
    }
