use Rattle.std.proofs.Common.{sym, ◌∙◌}
use Rattle.key_index_store.proofs.HeaderLemmas.{left_synced, synced_behind}
use Rattle.std.proofs.lemmas.Result.{on_ok_weaker}
use Rattle.key_index_store.proofs.headed.HeadedDevice.sync.Goals as goal

pub returns-clause-durable : goal.returns-clause-durable
returns-clause-durable g c = on_ok_weaker c.sync.result (synced_behind (λ bytes seen. c.self.invariant.1 c.if-not-self.false bytes (sym c.sync.ensures.same ∙ seen)) _) c.sync.ensures.durable

pub returns-clause-crash : goal.returns-clause-crash
returns-clause-crash g c = rw (← c.self.view_is) (left_synced (c.self.invariant.1 c.if-not-self.false) _ _ c.sync.ensures.crash)
