use Rattle.std.proofs.Common.{Some, refl, sym, ap, ◌∙◌}
use Rattle.std.proofs.lemmas.Result.{IfOk-weaker}
use Rattle.std.specs.FinMap.{insert}
use Rattle.key_index_store.specs.MemoryDevice.{MayLeave, held}
use Rattle.key_index_store.specs.Stored.{held_by}
use Rattle.key_index_store.proofs.CrashLemmas.{same_bytes}
use Rattle.key_index_store.proofs.crashes.put_and_sync.Goals as goal

pub returns : goal.returns
returns g c =
    let durable = c.in_ok-sync.ensures.durable _ refl in
    let set = c.in_ok-put.ensures.set _ refl in
    let same = same_bytes _ _ c.in_ok-sync.ensures.same in
    let old = same_bytes _ _ set.1 in
    IfOk-weaker c.after_crash.result (λ opened. MayLeave c.sync.new.self (Some (held opened))) _ (λ opened left.
    ap held_by (same_bytes _ _ (durable (Some (held opened)) left) ∙ same) ∙ set.2 ∙ ap (λ l. insert (held_by l) c.args.key.now c.args.value.now) (sym old)) c.after_crash.ensures.allowed
