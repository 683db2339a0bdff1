use Rattle.std.proofs.Common.{drop, ap, subst, ◌∙◌}
use Rattle.std.specs.FinMap.{get}
use Rattle.std.specs.Option.{option_map}
use Rattle.key_index_store.specs.Device.{IsLeft}
use Rattle.key_index_store.specs.FileDevice.{FileLeaves}
use Rattle.key_index_store.specs.Header.{held_behind}
use Rattle.key_index_store.specs.Stored.{held_by}
use Rattle.key_index_store.proofs.CrashLemmas.{fresh_seen, get_put}
use Rattle.key_index_store.proofs.HeaderLemmas.{seen_in}
use Rattle.key_index_store.proofs.crashes.two_sessions.Goals as goal

pub returns : goal.returns
returns g c = λ synced synced_seen bytes seen none left.
    let key = c.args.key.now in
    let log = ap (option_map (drop 16)) seen in
    let inner = seen_in _ (drop 16 bytes) (c.in_ok-found.ensures.read.stays (drop 16 bytes) log) in
    let held = c.in_ok-second.ensures.held inner.0 inner.1 in
    let first = fresh_seen _ _ none held.0 held.1 in
    let put = held.2 (subst (IsLeft (FileLeaves c.put_and_sync_headed.new.store)) first left) synced synced_seen in
    c.in_ok-found.ensures.value (drop 16 bytes) log ∙ ap (λ l. get (held_by l) key) inner.2 ∙ ap (λ m. get m key) put.2
    ∙ get_put (held_behind put.0) key c.args.value.now
