use Rattle.std.proofs.Common.{◌≡◌, true, false, rules, cond, Some, None, Ok, Err, take, inl, inr, sym, ap, subst, ◌∙◌}
use Rattle.std.proofs.lemmas.Result.{IfErr-weaker}
use Rattle.std.specs.Result.{IfErr}
use Rattle.key_index_store.specs.Damage.{MayMissAt}
use Rattle.key_index_store.specs.Stored.{entry_after, entry_before, held_by}
use Rattle.key_index_store.proofs.BesideLemmas.{beside_told, sees_place, stands_held, told_entry, told_fault}
use Rattle.key_index_store.proofs.DamageLemmas.{missed_key}
use Rattle.key_index_store.proofs.StoreLemmas.{is_run}
use Rattle.key_index_store.proofs.KeepLemmas.{read_keeps}
use Rattle.key_index_store.specs.laws.ReadLaws.{read-then}
use Rattle.key_index_store.proofs.store.Store.absent.Goals as goal

pub returns-in_err-place-clause-fault : goal.returns-in_err-place-clause-fault
returns-in_err-place-clause-fault g c = λ log seen.
    let s = c.self.inside in
    let view = g.I.Runs.view s.index in
    let kept = c.self.invariant.0 log (c.in_err-place.ensures.read.stays log seen) in
    let run = is_run g.I.Key.Ord.cmp (take s.log.end log) view c.args.key.now kept.indexed in
    let may = missed_key g.I.Key.Ord.cmp (g.D.Device.damaged c.find_place.new.self.device) log view s.log.end s.tail kept c.args.key.now c.in_err-place.field-0.0 (c.in_err-place.ensures.fault log seen kept.within run) in
    search (rules, may)

pub returns-then-place-clause-absent : goal.returns-then-place-clause-absent
returns-then-place-clause-absent g c = λ log seen.
    let key = c.args.key.now in
    let look = c.in_ok-place.ensures in
    let stands = sees_place look.read c.self.invariant.0 g.met.I.Key.Ord.total (g.met.I.Runs.lawful c.self.inside.index) (g.met.I.Ordered.keeps_order c.self.inside.index) look.bytes look.at log seen in
    ap (λ b. cond b None (Some (entry_before (held_by log) key, entry_after (held_by log) key))) (sym c.if-place.true ∙ stands_held stands)

pub returns-in_err-before-clause-fault : goal.returns-in_err-before-clause-fault
returns-in_err-before-clause-fault g c = λ log seen.
    let is : IfErr c.from_residual-in_err-before.result (λ f. f ≡ c.in_err-before.field-0.0) = search rules in
    let look = c.in_ok-place.ensures in
    let stands = sees_place look.read c.self.invariant.0 g.met.I.Key.Ord.total (g.met.I.Runs.lawful c.self.inside.index) (g.met.I.Ordered.keeps_order c.self.inside.index) look.bytes look.at log (c.in_err-before.ensures.read.stays log seen) in
    let may = told_fault (beside_told false stands c.position_below-below.ensures) (Err c.in_err-before.field-0.0) look.end (g.D.Device.damaged c.entry.new.self.device) (c.in_err-before.ensures.fault log seen) in
    IfErr-weaker c.from_residual-in_err-before.result _ _ (λ f same. inr (inl (subst (MayMissAt (g.D.Device.damaged c.entry.new.self.device) log (entry_before (held_by log) c.args.key.now)) (sym same) may))) is

pub returns-in_err-after-clause-fault : goal.returns-in_err-after-clause-fault
returns-in_err-after-clause-fault g c = λ log seen.
    let is : IfErr c.from_residual-in_err-after.result (λ f. f ≡ c.in_err-after.field-0.0) = search rules in
    let look = c.in_ok-place.ensures in
    let stands = sees_place look.read c.self.invariant.0 g.met.I.Key.Ord.total (g.met.I.Runs.lawful c.self.inside.index) (g.met.I.Ordered.keeps_order c.self.inside.index) look.bytes look.at log (c.in_ok-before.ensures.read.stays log (c.in_err-after.ensures.read.stays log seen)) in
    let may = told_fault (beside_told true stands c.position_above-above.ensures) (Err c.in_err-after.field-0.0) (c.in_ok-before.ensures.end ∙ look.end) (g.D.Device.damaged c.entry-2.new.self.device) (c.in_err-after.ensures.fault log seen) in
    IfErr-weaker c.from_residual-in_err-after.result _ _ (λ f same. inr (inr (subst (MayMissAt (g.D.Device.damaged c.entry-2.new.self.device) log (entry_after (held_by log) c.args.key.now)) (sym same) may))) is

pub returns-clause-absent : goal.returns-clause-absent
returns-clause-absent g c = λ log seen.
    let key = c.args.key.now in
    let between = c.in_ok-after.ensures.read.stays log seen in
    let look = c.in_ok-place.ensures in
    let stands = sees_place look.read c.self.invariant.0 g.met.I.Key.Ord.total (g.met.I.Runs.lawful c.self.inside.index) (g.met.I.Ordered.keeps_order c.self.inside.index) look.bytes look.at log (c.in_ok-before.ensures.read.stays log between) in
    let before = told_entry (beside_told false stands c.position_below-below.ensures) (Ok c.in_ok-before.before) look.end (c.in_ok-before.ensures.entry log between) in
    let after = told_entry (beside_told true stands c.position_above-above.ensures) (Ok c.in_ok-after.after) (c.in_ok-before.ensures.end ∙ look.end) (c.in_ok-after.ensures.entry log seen) in
    (λ i. Some (before i, after i))
    ∙ ap (λ b. cond b None (Some (entry_before (held_by log) key, entry_after (held_by log) key))) (sym c.if-place.false ∙ stands_held stands)

pub invariant_of-self-in_err-before : goal.invariant_of-self-in_err-before
invariant_of-self-in_err-before g c = read_keeps g.I.Key.Ord.cmp (g.I.Runs.view c.self.inside.index) c.self.inside.tail c.self.inside.is_synced c.self.inside.log.device c.entry.new.self.device c.self.inside.log.end c.entry.new.self.end
    (read-then _ _ _ c.in_ok-place.ensures.read c.in_err-before.ensures.read) (c.in_err-before.ensures.end ∙ c.in_ok-place.ensures.end) c.self.invariant

pub invariant_of-self-in_err-after : goal.invariant_of-self-in_err-after
invariant_of-self-in_err-after g c = read_keeps g.I.Key.Ord.cmp (g.I.Runs.view c.self.inside.index) c.self.inside.tail c.self.inside.is_synced c.self.inside.log.device c.entry-2.new.self.device c.self.inside.log.end c.entry-2.new.self.end
    (read-then _ _ _ c.in_ok-place.ensures.read (read-then _ _ _ c.in_ok-before.ensures.read c.in_err-after.ensures.read)) (c.in_err-after.ensures.end ∙ c.in_ok-before.ensures.end ∙ c.in_ok-place.ensures.end) c.self.invariant

pub invariant_of-self-2 : goal.invariant_of-self-2
invariant_of-self-2 g c = read_keeps g.I.Key.Ord.cmp (g.I.Runs.view c.self.inside.index) c.self.inside.tail c.self.inside.is_synced c.self.inside.log.device c.entry-2.new.self.device c.self.inside.log.end c.entry-2.new.self.end
    (read-then _ _ _ c.in_ok-place.ensures.read (read-then _ _ _ c.in_ok-before.ensures.read c.in_ok-after.ensures.read)) (c.in_ok-after.ensures.end ∙ c.in_ok-before.ensures.end ∙ c.in_ok-place.ensures.end) c.self.invariant
