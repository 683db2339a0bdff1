use Rattle.std.proofs.Common.{true, rules, take, inr, subst, ◌∙◌}
use Rattle.std.proofs.lemmas.Result.{IfErr-weaker}
use Rattle.key_index_store.proofs.BesideLemmas.{beside_told, sees_place, told_entry, told_fault}
use Rattle.key_index_store.proofs.DamageLemmas.{missed_key}
use Rattle.key_index_store.proofs.StoreLemmas.{is_run}
use Rattle.key_index_store.proofs.KeepLemmas.{read_keeps}
use Rattle.key_index_store.specs.laws.ReadLaws.{read-then}
use Rattle.key_index_store.specs.Device.{IsRead}
use Rattle.key_index_store.proofs.store.Store.next.Goals as goal

pub returns-in_err-place-clause-fault : goal.returns-in_err-place-clause-fault
returns-in_err-place-clause-fault g c = λ log seen.
    let s = c.self.inside in
    let view = g.I.Runs.view s.index in
    let kept = c.self.invariant.0 log (c.in_err-place.ensures.read.stays log seen) in
    let run = is_run g.I.Key.Ord.cmp (take s.log.end log) view c.args.key.now kept.indexed in
    let may = missed_key g.I.Key.Ord.cmp (g.D.Device.damaged c.find_place.new.self.device) log view s.log.end s.tail kept c.args.key.now c.in_err-place.field-0.0 (c.in_err-place.ensures.fault log seen kept.within run) in
    search (rules, may)

pub returns-clause-next : goal.returns-clause-next
returns-clause-next g c = λ log seen.
    let look = c.in_ok-place.ensures in
    let stands = sees_place look.read c.self.invariant.0 g.met.I.Key.Ord.total (g.met.I.Runs.lawful c.self.inside.index) (g.met.I.Ordered.keeps_order c.self.inside.index) look.bytes look.at log (c.entry.ensures.read.stays log seen) in
    let tells = beside_told true stands c.position_above.ensures in
    told_entry tells c.entry.result look.end (c.entry.ensures.entry log seen)

pub returns-clause-fault : goal.returns-clause-fault
returns-clause-fault g c = λ log seen.
    let look = c.in_ok-place.ensures in
    let stands = sees_place look.read c.self.invariant.0 g.met.I.Key.Ord.total (g.met.I.Runs.lawful c.self.inside.index) (g.met.I.Ordered.keeps_order c.self.inside.index) look.bytes look.at log (c.entry.ensures.read.stays log seen) in
    let tells = beside_told true stands c.position_above.ensures in
    IfErr-weaker c.entry.result _ _ (λ f may. inr may) (told_fault tells c.entry.result look.end (g.D.Device.damaged c.entry.new.self.device) (c.entry.ensures.fault log seen))

pub invariant_of-self-2 : goal.invariant_of-self-2
invariant_of-self-2 g c = read_keeps g.I.Key.Ord.cmp (g.I.Runs.view c.self.inside.index) c.self.inside.tail c.self.inside.is_synced c.self.inside.log.device c.entry.new.self.device c.self.inside.log.end c.entry.new.self.end
    (read-then _ _ _ c.in_ok-place.ensures.read c.entry.ensures.read) (c.entry.ensures.end ∙ c.in_ok-place.ensures.end) c.self.invariant

pub returns-clause-read : goal.returns-clause-read
returns-clause-read g c = subst (λ d. IsRead g.D.Device.seen g.D.Device.damaged g.D.Device.may_leave d c.entry.new.self.device) c.self.view_is (read-then _ _ _ c.in_ok-place.ensures.read c.entry.ensures.read)
