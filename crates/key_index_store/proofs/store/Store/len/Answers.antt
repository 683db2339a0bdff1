use Rattle.std.proofs.Common.{sym, ap, ◌∙◌}
use Rattle.std.specs.FinMap.{len}
use Rattle.key_index_store.proofs.KeepLemmas.{kept_held}
use Rattle.key_index_store.proofs.store.Store.len.Goals as goal

pub returns : goal.returns
returns g c = λ log seen.
    let h = c.self.invariant.0 log (ap g.D.Device.seen c.self.view_is ∙ seen) in
    c.items.ensures ∙ h.indexed.counted ∙ ap (λ m. len m) (sym (kept_held g.I.Key.Ord.cmp log (g.I.Runs.view c.self.inside.index) c.self.inside.log.end c.self.inside.tail h))
