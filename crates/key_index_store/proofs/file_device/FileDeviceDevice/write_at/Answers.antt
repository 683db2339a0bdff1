use Rattle.std.proofs.Common.{◌≡◌, ◌+◌, ◌-◌, ◌≤◌, ◌∷◌, length, take, drop, length-take, length-drop, ◌∙◌, arith}
use Rattle.key_index_store.specs.declared.history.Call.TheVariants.{Took}
use Rattle.key_index_store.specs.declared.history.History.{History}
use Rattle.key_index_store.proofs.HistoryLemmas.{Grown-more}
use Rattle.key_index_store.proofs.file_device.FileDeviceDevice.write_at.Goals as goal

pub loop-done-preserved : goal.loop-done-preserved
loop-done-preserved c =
    let done = c.loop-done.done in
    let n = c.in_ok-n.n in
    let now : History = c.loop-done.self.history in
    let place : c.in_ok-at.at ≡ c.args.position + done = grind arith in
    let size : done + n - done ≡ n = omega arith in
    let few : done + n ≤ length c.args.bytes.now = grind (arith, length-take, length-drop) in
    Grown-more c.args.position c.args.bytes.now done _ now _ n few
    (c.and-self.ensures ∙ (λ i. record { first = now.first; calls = (Took (place i), take (size i) (drop done c.args.bytes.now)) ∷ now.calls })) c.loop-done.invariant
