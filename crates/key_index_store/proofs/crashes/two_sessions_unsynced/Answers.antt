use Rattle.std.proofs.Common.{inl, drop, sym, ap, subst, ◌∙◌}
use Rattle.key_index_store.specs.Device.{IsFirst, IsLeft}
use Rattle.key_index_store.specs.FileDevice.{FileLeaves}
use Rattle.key_index_store.specs.Header.{Behind, behind}
use Rattle.key_index_store.specs.Stored.{IsBeforeOrAfter, put_of}
use Rattle.key_index_store.proofs.CrashLemmas.{fresh_left, fresh_seen}
use Rattle.key_index_store.proofs.crashes.two_sessions_unsynced.Goals as goal

pub returns : goal.returns
returns g c = λ written written_seen bytes seen fresh none left.
    let held = c.in_ok-second.ensures.held bytes seen in
    let put = held.2 (subst (IsLeft (FileLeaves c.put_alone_headed.new.store)) (fresh_seen _ _ none held.0 held.1) left) written written_seen in
    let opened = c.in_ok-first.ensures.log put.0 put.1 in
    let old = opened.2 ∙ ap (drop 16) (sym (fresh_seen _ _ fresh opened.0 opened.1)) in
    let first : IsFirst (drop 16 put.0) (Behind (FileLeaves c.in_ok-first.first)) = λ o may.
    let could = c.in_ok-first.ensures.crash o may in
    inl (could.2 ∙ ap behind (fresh_left _ _ fresh could.0 could.1)) in
    subst (λ l. IsBeforeOrAfter l (put_of (c.args.key.now, c.args.value.now)) (drop 16 bytes)) old (put.2 first)
