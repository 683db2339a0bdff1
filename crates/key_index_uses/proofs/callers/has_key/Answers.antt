use Rattle.std.proofs.Common.{◌≡◌, true, length, refl, sym, subst, ◌∙◌}
use Rattle.std.proofs.lemmas.Iterator.Consumers.{YieldsList-turn, YieldsList-from_first}
use Rattle.std.proofs.lemmas.List.Folds.{list_any_at}
use Rattle.std.specs.Str.{bytes_eq}
use Rattle.key_index_uses.proofs.callers.has_key.Goals as goal

pub returns-then-eq : goal.returns-then-eq
returns-then-eq g c =
    let keys = g.V.Keyed.full_key in
    let key = c.args.key.now in
    let value = c.in-Some.value.now in
    let all = c.into_iter-value-iterator.result in
    let turn = YieldsList-turn (YieldsList-from_first (λ x. x.now) (λ values. values) all refl) c.loop-value.yielded _ c.loop-value.yielded_by _ _ c.in-Some.value c.in-Some.is c.next.ensures.steps in
    let has : bytes_eq (keys value) key ≡ true = (λ i. bytes_eq (sym c.full_key.ensures i) key) ∙ sym c.eq.ensures ∙ c.if-eq.true in
    let found = list_any_at (λ v. bytes_eq (keys v) key) all (length c.loop-value.yielded) value turn.0 (subst (λ v. bytes_eq (keys v) key ≡ true) turn.1 has) in
    sym (rw c.into_iter-value-iterator.ensures.into_iter_gives at found)
