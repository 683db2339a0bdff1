use Rattle.std.proofs.Common.{Some, inl, inr, refl, sym, subst, ◌∙◌}
use Rattle.std.proofs.lemmas.Result.{IfOk-weaker}
use Rattle.key_index_store.specs.MemoryDevice.{MayLeave, held}
use Rattle.key_index_store.specs.Record.{Entry}
use Rattle.key_index_store.specs.Stored.{IsBeforeOrAfter}
use Rattle.key_index_store.proofs.CrashLemmas.{known_before, same_bytes}
use Rattle.key_index_store.proofs.crashes.put_alone.Goals as goal

pub returns : goal.returns
returns g c =
    let r : Entry = record { key = c.args.key.now; value = Some c.args.value.now } in
    let durable = c.in_ok-sync.ensures.durable _ refl in
    let same = same_bytes _ _ c.in_ok-sync.ensures.same in
    let crash = c.put.ensures.crash _ refl in
    let old = same_bytes _ _ crash.1 in
    IfOk-weaker c.after_crash.result (λ opened. MayLeave c.put.new.self (Some (held opened))) _ (λ opened left.
    known_before crash.0 (held c.args.store) (held opened) r (sym old ∙ same)
    (elim (crash.2 (Some (held opened)) left) [
      | inl before ↦ inl (same_bytes _ _ (durable (Some (held opened)) before) ∙ same)
      | inr more ↦ inr (subst (IsBeforeOrAfter crash.0 r) (sym (same_bytes _ _ more.1)) more.2)
    ])) c.after_crash.ensures.allowed
