use Rattle.std.proofs.Common.{◌≡◌, ◌+◌, ap, ◌∙◌, sym, length, take, drop, arith}
use Rattle.std.proofs.lemmas.List.{drop-drop}
use Rattle.std.proofs.lemmas.Result.{on_ok_weaker}
use Rattle.key_index_store.proofs.HeaderLemmas.{seen_in}
use Rattle.key_index_store.proofs.headed.HeadedDevice.read_at.Goals as goal

pub returns-clause-told : goal.returns-clause-told
returns-clause-told g c = λ x seen.
    let place : 16 + c.args.position ≡ c.in_ok-place.place = grind arith in
    let inner = seen_in _ x seen in
    let rest = ap (λ n. drop n inner.0) (sym place) ∙ sym (drop-drop c.args.position 16 inner.0) ∙ ap (drop c.args.position) (sym inner.2) in
    on_ok_weaker c.read_at.result (λ is. is ∙ ap (take (length c.args.buffer.now)) rest) (c.read_at.ensures.told inner.0 inner.1)
