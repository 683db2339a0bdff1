use Rattle.std.proofs.Common.{◌≡◌, false, map, All, sym, subst, ◌∙◌}
use Rattle.std.proofs.lemmas.List.Elements.{All-cons, All-head, All-tail, All-contains_itself}
use Rattle.std.specs.List.{Contains}
use Rattle.key_index_uses.specs.Records.{is_record}
use Rattle.key_index_uses.proofs.segments.confirmed.Goals as goal

pub loop-position-init : goal.loop-position-init
loop-position-init g c =
    let has = is_record (map (λ key. key.now) c.args.log.now) c.args.key.now in
    let gives = c.into_iter-position-iterator.ensures.into_iter_gives in
    record {
      left = subst (All (Contains c.args.positions)) (sym gives) (All-contains_itself c.args.positions);
      rest = λ none. subst (All (λ p. has p ≡ false)) gives none;
    }

pub returns-then-is_record-clause-found : goal.returns-then-is_record-clause-found
returns-then-is_record-clause-found g c =
    let left = subst (All (Contains c.args.positions)) c.in-Some.ensures.steps c.loop-position.invariant.left in
    (All-head (Contains c.args.positions) c.in-Some.position c.next.new.self left, sym c.is_record.ensures ∙ c.if-is_record.true)

pub loop-position-preserved : goal.loop-position-preserved
loop-position-preserved g c =
    let has = is_record (map (λ key. key.now) c.args.log.now) c.args.key.now in
    let so_far = c.loop-position.invariant in
    record {
      left = All-tail (Contains c.args.positions) c.in-Some.position c.next.new.self (subst (All (Contains c.args.positions)) c.in-Some.ensures.steps so_far.left);
      rest = λ none.
          so_far.rest (subst (All (λ p. has p ≡ false)) (sym c.in-Some.ensures.steps)
          (All-cons (λ p. has p ≡ false) c.in-Some.position c.next.new.self (sym c.is_record.ensures ∙ c.if-is_record.false) none));
    }
