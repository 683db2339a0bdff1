use Rattle.std.proofs.Common.{rules, ◌≡◌, Some, is_some, length, take, drop, sym, ap, subst, slice_get, inr, ◌∙◌}
use Rattle.std.proofs.lemmas.Result.{IfErr-weaker}
use Rattle.std.specs.FinMap.{get}
use Rattle.std.specs.Option.{IfSome}
use Rattle.std.specs.Result.{IfErr}
use Rattle.key_index_flat.specs.View.{run_of}
use Rattle.key_index_flat.proofs.content.ChainLemmas.{None-is_some}
use Rattle.key_index_store.specs.Damage.{MayMiss}
use Rattle.key_index_store.specs.Device.{Gives, IsRead}
use Rattle.key_index_store.specs.Indexed.{IsFront, IsLive}
use Rattle.key_index_store.specs.Stored.{held_by}
use Rattle.key_index_store.proofs.DamageLemmas.{found_shown, missed_key, missed_own}
use Rattle.key_index_store.proofs.KeepLemmas.{kept_held, read_keeps}
use Rattle.key_index_store.proofs.StoreLemmas.{All-slice_get, is_run, place-get, value-get}
use Rattle.key_index_store.specs.laws.ReadLaws.{read-then}
use Rattle.key_index_store.proofs.store.Store.get.Goals as goal

pub returns-in_err-known-clause-fault : goal.returns-in_err-known-clause-fault
returns-in_err-known-clause-fault g c = λ log seen.
    let h = c.self.invariant.0 log (c.in_ok-found.ensures.read.stays log seen) in
    let front = take c.self.inside.log.end log in
    let hidden = c.in_ok-found.ensures.hidden log seen h.within (is_run g.I.Key.Ord.cmp front (g.I.Runs.view c.self.inside.index) c.args.key.now h.indexed) c.in_err-known.ensures.fault.1 in
    let may = missed_key g.I.Key.Ord.cmp (g.D.Device.damaged c.find.new.self.device) log (g.I.Runs.view c.self.inside.index) c.self.inside.log.end c.self.inside.tail h c.args.key.now c.in_err-known.field-0.0
    (inr (c.in_err-known.ensures.fault.0, (c.in_ok-found.found.place, hidden))) in
    let is : IfErr c.from_residual-in_err-known.result (λ f. f ≡ c.in_err-known.field-0.0) = search rules in
    IfErr-weaker c.from_residual-in_err-known.result _ _ (λ f same. subst (MayMiss (g.D.Device.damaged c.find.new.self.device) log c.args.key.now) (sym same) may) is

pub returns-in_default-clause-value : goal.returns-in_default-clause-value
returns-in_default-clause-value g c = λ log seen.
    let key = c.args.key.now in
    let h = c.self.invariant.0 log (c.in_ok-found.ensures.read.stays log seen) in
    let front = take c.self.inside.log.end log in
    let s = g.I.Runs.view c.self.inside.index in
    let f = c.in_ok-found.found in
    let at = c.in_ok-found.ensures.at log seen h.within (is_run g.I.Key.Ord.cmp front s key h.indexed) c.in_ok-known.ensures.seen in
    let absent = sym (place-get g.I.Key.Ord.cmp front s key f.place (is_some f.read) h.indexed at) ∙ ap is_some c.in_default.is in
    sym (ap (λ m. get m key) (kept_held g.I.Key.Ord.cmp log s c.self.inside.log.end c.self.inside.tail h) ∙ None-is_some (get (held_by front) key) absent)

pub returns-in_err-value-clause-fault : goal.returns-in_err-value-clause-fault
returns-in_err-value-clause-fault g c = λ log seen.
    let key = c.args.key.now in
    let mid = c.in_err-value.ensures.read.stays log seen in
    let h = c.self.invariant.0 log (c.in_ok-found.ensures.read.stays log mid) in
    let front = take c.self.inside.log.end log in
    let s = g.I.Runs.view c.self.inside.index in
    let ps = run_of g.I.Key.Ord.cmp s key in
    let place = c.in_ok-found.found.place in
    let p = c.in-Some.front.position in
    let run = is_run g.I.Key.Ord.cmp front s key h.indexed in
    let stands = subst (λ o. IfSome o (λ r. slice_get ps place ≡ Some r.position)) c.in-Some.is c.in_ok-found.ensures.found in
    let begins = subst (λ o. IfSome o (IsFront front (g.D.Device.damaged c.find.new.self.device))) c.in-Some.is (c.in_ok-found.ensures.front log mid h.within) in
    let here = All-slice_get (IsLive front) ps place p run.0 stands in
    let f = c.in_ok-found.found in
    let held = ap is_some c.in-Some.is in
    let at = c.in_ok-found.ensures.at log mid h.within run (found_shown (is_some f.read) f.is_hidden c.in_ok-found.ensures.none held) in
    let may = missed_own g.I.Key.Ord.cmp (g.D.Device.damaged c.read_value.new.device) log (g.I.Runs.view c.self.inside.index) c.self.inside.log.end c.self.inside.tail h key c.in_err-value.field-0.0 place p (is_some f.read) at stands
    (c.in_err-value.ensures.fault log seen h.within here) in
    let is : IfErr c.from_residual-in_err-value.result (λ f. f ≡ c.in_err-value.field-0.0) = search rules in
    IfErr-weaker c.from_residual-in_err-value.result _ _ (λ f same. subst (MayMiss (g.D.Device.damaged c.read_value.new.device) log c.args.key.now) (sym same) may) is

pub returns-clause-value : goal.returns-clause-value
returns-clause-value g c = λ log seen.
    let key = c.args.key.now in
    let mid = c.in_ok-value.ensures.read.stays log seen in
    let h = c.self.invariant.0 log (c.in_ok-found.ensures.read.stays log mid) in
    let front = take c.self.inside.log.end log in
    let s = g.I.Runs.view c.self.inside.index in
    let ps = run_of g.I.Key.Ord.cmp s key in
    let f = c.in_ok-found.found in
    let p = c.in-Some.front.position in
    let run = is_run g.I.Key.Ord.cmp front s key h.indexed in
    let stands = subst (λ o. IfSome o (λ r. slice_get ps f.place ≡ Some r.position)) c.in-Some.is c.in_ok-found.ensures.found in
    let begins = subst (λ o. IfSome o (IsFront front (g.D.Device.damaged c.find.new.self.device))) c.in-Some.is (c.in_ok-found.ensures.front log mid h.within) in
    let here = All-slice_get (IsLive front) ps f.place p run.0 stands in
    let told = c.in_ok-value.ensures.value log seen h.within (subst (λ l. Gives (g.D.Device.damaged c.find.new.self.device) p (take (length l) (drop p front)) l) (sym c.as_slice-bytes.ensures.value) begins) here in
    let at = c.in_ok-found.ensures.at log mid h.within run (found_shown (is_some f.read) f.is_hidden c.in_ok-found.ensures.none (ap is_some c.in-Some.is)) in
    ap (λ v. Some v) told ∙ value-get g.I.Key.Ord.cmp front s key f.place (is_some f.read) h.indexed at (ap is_some c.in-Some.is) p stands
    ∙ ap (λ m. get m key) (sym (kept_held g.I.Key.Ord.cmp log s c.self.inside.log.end c.self.inside.tail h))

pub invariant_of-self-in_err-value : goal.invariant_of-self-in_err-value
invariant_of-self-in_err-value g c = read_keeps g.I.Key.Ord.cmp (g.I.Runs.view c.self.inside.index) c.self.inside.tail c.self.inside.is_synced c.self.inside.log.device c.read_value.new.device c.self.inside.log.end c.find.new.self.end
    (read-then _ _ _ c.in_ok-found.ensures.read c.in_err-value.ensures.read) c.in_ok-found.ensures.end c.self.invariant

pub returns-in_err-value-clause-read : goal.returns-in_err-value-clause-read
returns-in_err-value-clause-read g c = subst (λ d. IsRead g.D.Device.seen g.D.Device.damaged g.D.Device.may_leave d c.read_value.new.device) c.self.view_is (read-then _ _ _ c.in_ok-found.ensures.read c.in_err-value.ensures.read)

pub invariant_of-self-2 : goal.invariant_of-self-2
invariant_of-self-2 g c = read_keeps g.I.Key.Ord.cmp (g.I.Runs.view c.self.inside.index) c.self.inside.tail c.self.inside.is_synced c.self.inside.log.device c.read_value.new.device c.self.inside.log.end c.find.new.self.end
    (read-then _ _ _ c.in_ok-found.ensures.read c.in_ok-value.ensures.read) c.in_ok-found.ensures.end c.self.invariant

pub returns-clause-read : goal.returns-clause-read
returns-clause-read g c = subst (λ d. IsRead g.D.Device.seen g.D.Device.damaged g.D.Device.may_leave d c.read_value.new.device) c.self.view_is (read-then _ _ _ c.in_ok-found.ensures.read c.in_ok-value.ensures.read)
