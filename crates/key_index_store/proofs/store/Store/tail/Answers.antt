use Rattle.std.proofs.Common.{sym, ap, ◌∙◌, arith}
use Rattle.key_index_store.proofs.KeepLemmas.{damaged_tail, no_tail, torn_tail}
use Rattle.key_index_store.proofs.store.Store.tail.Goals as goal

pub returns-in-Damaged-clause-told : goal.returns-in-Damaged-clause-told
returns-in-Damaged-clause-told g c = λ log seen.
    let h = c.self.invariant.0 log (ap g.D.Device.seen c.self.view_is ∙ seen) in
    sym (damaged_tail g.I.Key.Ord.cmp log (g.I.Runs.view c.self.inside.index) c.self.inside.log.end c.self.inside.tail h c.in-Damaged.is)

pub returns-then-branch-self-clause-told : goal.returns-then-branch-self-clause-told
returns-then-branch-self-clause-told g c = λ log seen.
    let h = c.self.invariant.0 log (c.in_ok-length_of.ensures.read.stays log seen) in
    let told = c.in_ok-length_of.ensures.told log seen in
    sym (no_tail g.I.Key.Ord.cmp log (g.I.Runs.view c.self.inside.index) c.self.inside.log.end c.self.inside.tail h (omega (arith, told, c.if-branch-self.true)))

pub returns-clause-told : goal.returns-clause-told
returns-clause-told g c = λ log seen.
    let h = c.self.invariant.0 log (c.in_ok-length_of.ensures.read.stays log seen) in
    let told = c.in_ok-length_of.ensures.told log seen in
    sym (torn_tail g.I.Key.Ord.cmp log (g.I.Runs.view c.self.inside.index) c.self.inside.log.end c.self.inside.tail h c.in-Torn.is (λ all. omega (arith, told, all, c.if-branch-self.false)))
