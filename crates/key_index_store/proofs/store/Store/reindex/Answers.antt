use Rattle.std.proofs.Common.{sym, ◌∙◌}
use Rattle.key_index_store.proofs.KeepLemmas.{kept_end}
use Rattle.key_index_store.proofs.store.Store.reindex.Goals as goal

pub returns-then-end-known-clause-fault : goal.returns-then-end-known-clause-fault
returns-then-end-known-clause-fault g c = λ log seen.
    let was = c.self.invariant.0 log (c.replay-replayed.ensures.read.stays log seen) in
    let is = c.in_ok-end.ensures.kept log seen in
    absurd (c.if-end-known.true (sym (kept_end g.I.Key.Ord.cmp log (g.I.Runs.view c.replay-replayed.new.index) c.in_ok-end.end c.in_ok-end.tail is)
    ∙ kept_end g.I.Key.Ord.cmp log (g.I.Runs.view c.self.inside.index) c.self.inside.log.end c.self.inside.tail was))
