use Rattle.std.proofs.Common.{true, refl}
use Rattle.key_index_store.proofs.BesideLemmas.{end_told, sees_ordered, told_entry, told_fault}
use Rattle.key_index_store.proofs.store.Store.first.Goals as goal

pub returns-clause-first : goal.returns-clause-first
returns-clause-first g c = λ log seen.
    let kept = sees_ordered c.entry.ensures.read c.self.invariant.0 g.met.I.Key.Ord.total (g.met.I.Runs.lawful c.self.inside.index) (g.met.I.Ordered.keeps_order c.self.inside.index) log seen in
    told_entry (end_told true kept c.first_position.ensures) c.entry.result refl (c.entry.ensures.entry log seen)

pub returns-clause-fault : goal.returns-clause-fault
returns-clause-fault g c = λ log seen.
    let kept = sees_ordered c.entry.ensures.read c.self.invariant.0 g.met.I.Key.Ord.total (g.met.I.Runs.lawful c.self.inside.index) (g.met.I.Ordered.keeps_order c.self.inside.index) log seen in
    told_fault (end_told true kept c.first_position.ensures) c.entry.result refl (g.D.Device.damaged c.entry.new.self.device) (c.entry.ensures.fault log seen)
