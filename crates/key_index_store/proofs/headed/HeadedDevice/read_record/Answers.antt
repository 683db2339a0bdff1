use Rattle.std.proofs.Common.{◌≡◌, ◌+◌, ap, subst, ◌∙◌, sym, length, take, drop, arith}
use Rattle.std.proofs.lemmas.List.{drop-drop}
use Rattle.std.proofs.lemmas.Result.{on_ok_weaker}
use Rattle.key_index_store.specs.Device.{Gives}
use Rattle.key_index_store.proofs.HeaderLemmas.{seen_in}
use Rattle.key_index_store.proofs.headed.HeadedDevice.read_record.Goals as goal

pub returns-clause-told : goal.returns-clause-told
returns-clause-told g c = λ x seen.
    let place : 16 + (c.args.log + c.args.place) ≡ c.in_ok-log.log + c.args.place = grind arith in
    let inner = seen_in _ x seen in
    let rest = ap (λ n. drop n inner.0) (sym place) ∙ sym (drop-drop (c.args.log + c.args.place) 16 inner.0) ∙ ap (drop (c.args.log + c.args.place)) (sym inner.2) in
    on_ok_weaker c.read_record.result (subst (λ own. Gives (g.D.Device.damaged c.read_record.new.self) c.args.place own c.read_record.new.buffer) (ap (take (length c.args.buffer.now)) rest))
    (c.read_record.ensures.told inner.0 inner.1)
