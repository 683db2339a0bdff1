use Rattle.std.proofs.Common.{ℕ, Option, Some, inr, refl, sym, ap, subst, ◌∙◌, take}
use Rattle.std.specs.Option.{IfSome, IsSome, option_map}
use Rattle.key_index_store.specs.Indexed.{IsLive, entry_at, parts_of}
use Rattle.key_index_store.specs.Record.{entry_of, outcome_of, reading}
use Rattle.key_index_store.proofs.GivenLemmas.{live_complete, live_stops, not_complete}
use Rattle.key_index_store.proofs.store.log.Log.entry.Goals as goal

pub returns-in_default-decode-clause-fault : goal.returns-in_default-decode-clause-fault
returns-in_default-decode-clause-fault g c = λ log seen within live.
    let front = take c.args.self.now.end log in
    let p = c.in-Some.position in
    let here : IsLive front p = subst (λ (o : Option ℕ). IfSome o (IsLive front)) c.in-Some.is live in
    let damaged = g.D.Device.damaged c.read_record.new.device in
    let told = c.decode.ensures.exact ∙ ap (reading p) c.as_slice.ensures.value in
    let there = live_stops damaged front p here c.in_ok-bytes.bytes.items (c.in_ok-bytes.ensures.whole refl log seen within) (outcome_of c.decode.result) told (not_complete c.decode.result c.in_default-decode.not-Complete) in
    inr (refl, subst (λ (o : Option ℕ). IsSome o) (sym c.in-Some.is) refl, subst (λ (o : Option ℕ). IfSome o damaged) (sym c.in-Some.is) there)

pub returns-clause-entry : goal.returns-clause-entry
returns-clause-entry g c = λ log seen within live.
    let front = take c.args.self.now.end log in
    let p = c.in-Some.position in
    let told = c.in-Complete.ensures.exact ∙ ap (reading p) c.as_slice.ensures.value in
    let whole = live_complete (g.D.Device.damaged c.read_record.new.device) front p c.in_ok-bytes.bytes.items (c.in_ok-bytes.ensures.whole refl log seen within) (entry_of c.in-Complete.record) told in
    (λ i. Some (c.in_ok-key.ensures.items i, c.in_ok-value.ensures.value i)) ∙ ap (λ o. Some (parts_of o)) (sym whole) ∙ sym (ap (λ (o : Option ℕ). option_map (entry_at front) o) c.in-Some.is)
