use Rattle.std.proofs.Common.{◌≡◌, rules, take, is_some, sym, ap, subst, ◌∙◌}
use Rattle.std.proofs.lemmas.Result.{IfErr-weaker}
use Rattle.std.specs.FinMap.{get}
use Rattle.std.specs.Result.{IfErr}
use Rattle.key_index_store.specs.Damage.{MayMiss}
use Rattle.key_index_store.proofs.DamageLemmas.{missed_key}
use Rattle.key_index_store.proofs.KeepLemmas.{kept_held}
use Rattle.key_index_store.proofs.StoreLemmas.{is_run, place-get}
use Rattle.key_index_store.proofs.store.Store.contains_key.Goals as goal

pub returns-clause-held : goal.returns-clause-held
returns-clause-held g c = λ log seen.
    let key = c.args.key.now in
    let h = c.self.invariant.0 log (c.in_ok-place.ensures.read.stays log seen) in
    let front = take c.self.inside.log.end log in
    let s = g.I.Runs.view c.self.inside.index in
    let place = c.in_ok-place.place in
    let at = c.in_ok-place.ensures.at log seen h.within (is_run g.I.Key.Ord.cmp front s key h.indexed) in
    place-get g.I.Key.Ord.cmp front s key place.place place.is_held h.indexed at
    ∙ ap (λ m. is_some (get m key)) (sym (kept_held g.I.Key.Ord.cmp log s c.self.inside.log.end c.self.inside.tail h))

pub returns-in_err-place-clause-fault : goal.returns-in_err-place-clause-fault
returns-in_err-place-clause-fault g c = λ log seen.
    let h = c.self.invariant.0 log (c.in_err-place.ensures.read.stays log seen) in
    let front = take c.self.inside.log.end log in
    let may = missed_key g.I.Key.Ord.cmp (g.D.Device.damaged c.find_place.new.self.device) log (g.I.Runs.view c.self.inside.index) c.self.inside.log.end c.self.inside.tail h c.args.key.now c.in_err-place.field-0.0
    (c.in_err-place.ensures.fault log seen h.within (is_run g.I.Key.Ord.cmp front (g.I.Runs.view c.self.inside.index) c.args.key.now h.indexed)) in
    let is : IfErr c.from_residual.result (λ f. f ≡ c.in_err-place.field-0.0) = search rules in
    IfErr-weaker c.from_residual.result _ _ (λ f same. subst (MayMiss (g.D.Device.damaged c.find_place.new.self.device) log c.args.key.now) (sym same) may) is
