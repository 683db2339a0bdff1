use Rattle.std.proofs.Common.{◌≡◌, ◌+◌, ◌∙◌, length, cond, ap, sym, subst, arith}
use Rattle.key_index_flat.specs.Content.{IsLawful, list_at}
use Rattle.key_index_flat.specs.laws.Laws.{IsLawful-with_list}
use Rattle.key_index_plain.specs.Entries.{listed}
use Rattle.std.specs.Fn.{CalledAt}
use Rattle.key_index_flat.proofs.closures.PutLemmas.{asks_put, one_went, taken_put}
use Rattle.key_index_plain.proofs.entries.insert_and_retain.Goals.{then-stays, else-stays}
use Rattle.key_index_plain.proofs.entries.insert_and_retain.Goals as goal

pub retain_in_turn-taken-requires-clause-lawful : goal.retain_in_turn-taken-requires-clause-lawful
retain_in_turn-taken-requires-clause-lawful g c =
    subst (λ x. IsLawful g.K.Ord.cmp x) (sym c.in_ok-insert_at.ensures.accepted) (IsLawful-with_list g.met.K.Ord.total (listed c.args.entries.now.items) c.args.key _ c.requires.lawful)

pub overflow_sub-result : goal.overflow_sub-result
overflow_sub-result g c =
    let end : length c.values_of-end.result.now ≡ length (list_at g.K.Ord.cmp (listed c.args.entries.now.items) c.args.key) = ap (λ l. length l) c.values_of-end.ensures ∙ ap (λ es. length (list_at g.K.Ord.cmp (listed es) c.args.key)) c.as_slice.ensures.value in
    let kept = c.retain_in_turn-taken.ensures in
    let old = listed c.args.entries.now.items in
    let mid = listed c.insert_at.new.entries.items in
    let at = length c.values_of-end.result.now in
    let put = c.in_ok-insert_at.ensures.accepted in
    let stays = c.retain_in_turn-taken.result.1 in
    let taken = c.retain_in_turn-taken.result.0 in
    one_went g.met.K.Ord.total old mid c.args.key c.args.value at end put (CalledAt g.F.FnMut) c.args.should_retain kept.0 stays taken kept.1 kept.3 c.if-stays.false

pub returns-clause-accepted : goal.returns-clause-accepted
returns-clause-accepted g c =
    let end : length c.values_of-end.result.now ≡ length (list_at g.K.Ord.cmp (listed c.args.entries.now.items) c.args.key) = ap (λ l. length l) c.values_of-end.ensures ∙ ap (λ es. length (list_at g.K.Ord.cmp (listed es) c.args.key)) c.as_slice.ensures.value in
    let kept = c.retain_in_turn-taken.ensures in
    let old = listed c.args.entries.now.items in
    let mid = listed c.insert_at.new.entries.items in
    let at = length c.values_of-end.result.now in
    let put = c.in_ok-insert_at.ensures.accepted in
    let stays = c.retain_in_turn-taken.result.1 in
    let taken = c.retain_in_turn-taken.result.0 in
    let some = one_went g.met.K.Ord.total old mid c.args.key c.args.value at end put (CalledAt g.F.FnMut) c.args.should_retain kept.0 stays taken kept.1 kept.3 in
    let most : c.retain_in_turn-taken.result.0 ≡ c.if-stays.result + cond c.retain_in_turn-taken.result.1 0 1 = elim c.if-stays.branch [
      | then-stays w ↦ let s = ap (λ b. c.if-stays.result + cond b 0 1) w.if-stays.true in omega (arith, s, w.result-is)
      | else-stays w ↦ let s = ap (λ b. c.if-stays.result + cond b 0 1) w.if-stays.false in let one = some w.if-stays.false in omega (arith, s, one, w.result-is)
    ] in
    let left = listed c.retain_in_turn-taken.new.entries.items in
    let new = taken_put g.met.K.Ord.total old mid c.args.key c.args.value at end put c.requires.exact c.requires.lawful kept.0 left kept.2 in
    (kept.0, (asks_put g.met.K.Ord.total old mid c.args.key c.args.value at end put (CalledAt g.F.FnMut) c.args.should_retain kept.0 stays taken kept.1 kept.3 c.if-stays.result most), new)
