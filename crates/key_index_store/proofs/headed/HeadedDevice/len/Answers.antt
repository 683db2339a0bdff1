use Rattle.std.proofs.Common.{ap, length, length-drop, arith}
use Rattle.key_index_store.proofs.HeaderLemmas.{seen_in}
use Rattle.key_index_store.proofs.headed.HeadedDevice.len.Goals as goal

pub returns-clause-told : goal.returns-clause-told
returns-clause-told g c = λ x seen.
    let inner = seen_in _ x seen in
    let told = c.in_ok-len.ensures.told inner.0 inner.1 in
    omega (arith, told, ap (λ l. length l) inner.2, length-drop 16 inner.0, c.saturating_sub.ensures)
