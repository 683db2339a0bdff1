use Rattle.std.proofs.Common.{inl, inr, refl, sym, ap, subst, ◌∙◌, drop, take}
use Rattle.std.proofs.lemmas.Result.{IfOk-weaker}
use Rattle.key_index_store.specs.Record.{Stops, entry_of, outcome_of, reading}
use Rattle.key_index_store.proofs.GivenLemmas.{given_entry, live_complete, live_stops, live_value}
use Rattle.key_index_store.proofs.store.find.read_value.Goals as goal

pub returns-in-Complete-clause-value : goal.returns-in-Complete-clause-value
returns-in-Complete-clause-value g c = λ log seen within given live.
    let front = take c.args.limit log in
    let p = c.args.position in
    let r = entry_of c.in-Complete.record in
    let there = given_entry (g.D.Device.damaged c.args.device.now) p (drop p front) c.args.front.now given r (sym c.in-Complete.ensures.exact) in
    IfOk-weaker c.copy_value.result _ _ (λ v value. value ∙ live_value front p r there) c.copy_value.ensures.value

pub returns-in-Complete-decode-clause-value : goal.returns-in-Complete-decode-clause-value
returns-in-Complete-decode-clause-value g c = λ log seen within given live.
    let front = take c.args.limit log in
    let p = c.args.position in
    let r = entry_of c.in-Complete-decode.record in
    let v = c.in_ok-bytes.bytes.items in
    let told = c.in-Complete-decode.ensures.exact ∙ ap (reading p) c.as_slice.ensures.value in
    let there = live_complete (g.D.Device.damaged c.read_record.new.device) front p v (c.in_ok-bytes.ensures.whole refl log seen within) r told in
    IfOk-weaker c.copy_value-in-Complete-decode.result _ _ (λ v value. value ∙ live_value front p r there) c.copy_value-in-Complete-decode.ensures.value

pub returns-clause-fault : goal.returns-clause-fault
returns-clause-fault g c = λ log seen within live.
    let front = take c.args.limit log in
    let p = c.args.position in
    let told = c.decode-2.ensures.exact ∙ ap (reading p) c.as_slice.ensures.value in
    let stops : Stops (outcome_of c.decode-2.result) = elim c.in-Torn.is [
      | inl torn ↦ subst (λ r. Stops (outcome_of r)) (sym torn) tt
      | inr damaged ↦ subst (λ r. Stops (outcome_of r)) (sym damaged) tt
    ] in
    inr (refl, live_stops (g.D.Device.damaged c.read_record.new.device) front p live c.in_ok-bytes.bytes.items (c.in_ok-bytes.ensures.whole refl log seen within) (outcome_of c.decode-2.result) told stops)
