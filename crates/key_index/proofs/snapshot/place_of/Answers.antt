use Rattle.std.proofs.Common.{[], ◌∷◌, length, refl, sym, ap, slice_get, ◌∙◌, is_some, length-append, arith}
use Rattle.std.proofs.lemmas.Iterator.Consumers.{YieldsList-turn, YieldsList-so_far, YieldsList-from_first}
use Rattle.std.specs.Option.{option_map}
use Rattle.std.specs.Str.{bytes_eq}
use Rattle.key_index_flat.proofs.entries.EntryLemmas.{look-at_place, key-slice_get, passed_by}
use Rattle.key_index.specs.Snapshot.{entry_of, key_of, position_in}
use Rattle.key_index.proofs.snapshot.place_of.Goals as goal

pub returns-then-eq-clause-found : goal.returns-then-eq-clause-found
returns-then-eq-clause-found c =
    let key = c.args.key.now in
    let all = c.into_iter-record-iterator.result in
    let road = YieldsList-from_first (λ x. x.now) (λ values. values) all refl in
    let turn = YieldsList-turn road c.loop-record.yielded _ c.loop-record.yielded_by _ _ c.in-Some.record c.in-Some.is c.next.ensures.steps in
    let so_far = YieldsList-so_far road c.loop-record.yielded _ c.loop-record.yielded_by in
    let own = (λ i. bytes_eq (sym c.as_slice.ensures.value i) key) ∙ sym c.eq.ensures ∙ c.if-eq.true in
    let found = look-at_place entry_of key all (length c.loop-record.yielded) c.in-Some.record.now turn.0 turn.1 (ap (position_in key) (sym so_far) ∙ c.loop-record.invariant.none) own in
    sym (ap is_some (ap (position_in key) (sym c.into_iter-record-iterator.ensures.into_iter_gives) ∙ found))

pub returns-then-eq-clause-at : goal.returns-then-eq-clause-at
returns-then-eq-clause-at c =
    let key = c.args.key.now in
    let all = c.into_iter-record-iterator.result in
    let road = YieldsList-from_first (λ x. x.now) (λ values. values) all refl in
    let turn = YieldsList-turn road c.loop-record.yielded _ c.loop-record.yielded_by _ _ c.in-Some.record c.in-Some.is c.next.ensures.steps in
    let own = (λ i. bytes_eq (sym c.as_slice.ensures.value i) key) ∙ sym c.eq.ensures ∙ c.if-eq.true in
    (λ i. option_map key_of (slice_get (sym c.into_iter-record-iterator.ensures.into_iter_gives i) (c.loop-record.invariant.counted i)))
    ∙ key-slice_get entry_of key all (length c.loop-record.yielded) c.in-Some.record.now turn.0 turn.1 own

pub loop-record-preserved : goal.loop-record-preserved
loop-record-preserved c =
    let key = c.args.key.now in
    let long = length-append c.loop-record.yielded (c.in-Some.record ∷ []) in
    record {
      counted = omega (arith, long, c.loop-record.invariant.counted);
      none = passed_by entry_of (λ r. r.now) key c.loop-record.yielded c.in-Some.record c.loop-record.invariant.none ((λ i. bytes_eq (sym c.as_slice.ensures.value i) key) ∙ sym c.eq.ensures ∙ c.if-eq.false);
    }
