use Rattle.std.proofs.Common.{◌≡◌, ◌≤◌, length, take, is_some, false, true, refl, subst}
use Rattle.std.proofs.lemmas.Result.{IfOk-weaker}
use Rattle.std.specs.Result.{IfOk}
use Rattle.key_index_flat.specs.View.{run_of}
use Rattle.key_index_store.specs.Indexed.{IsHiddenIn, IsLive, IsPlace, IsRun, entry_at, key_at, key_read}
use Rattle.key_index_store.proofs.SearchLemmas.{in_order, read_keys, same_hidden, same_place}
use Rattle.key_index_store.proofs.StoreLemmas.{All-slice_get}
use Rattle.key_index_store.proofs.store.log.Log.find.Goals as goal

pub returns-clause-at : goal.returns-clause-at
returns-clause-at g c = λ log seen.
    let key = c.args.key.now in
    let run = run_of g.I.Key.Ord.cmp (g.I.Runs.view c.args.index.now) key in
    let end = c.find_place.new.records.end in
    let front = take end log in
    subst (λ e. e ≤ length log → IsRun (take e log) run → IfOk c.find_place.result (λ f. f.is_hidden ≡ false → IsPlace (entry_at (take e log)) key run f.place (is_some f.read))) c.find_place.ensures.reads.1
    (λ within is_run.
    let keys = read_keys front run is_run.0 in
    let at = c.find_place.ensures.at (key_read front) (log, seen, within, refl) (in_order (entry_at front) (key_read front) run keys is_run.1) in
    IfOk-weaker c.find_place.result _ _ (λ f is shown. same_place (key_read front) (key_at front) key run keys f.place (is_some f.read) (is shown)) at)

pub returns-clause-hidden : goal.returns-clause-hidden
returns-clause-hidden g c = λ log seen.
    let key = c.args.key.now in
    let run = run_of g.I.Key.Ord.cmp (g.I.Runs.view c.args.index.now) key in
    let end = c.find_place.new.records.end in
    let front = take end log in
    let damaged = g.D.Device.damaged c.find_place.new.records.device in
    subst (λ e. e ≤ length log → IsRun (take e log) run → IfOk c.find_place.result (λ f. f.is_hidden ≡ true → IsHiddenIn damaged (entry_at (take e log)) key run f.place)) c.find_place.ensures.reads.1
    (λ within is_run.
    let keys = read_keys front run is_run.0 in
    let hidden = c.find_place.ensures.hidden (key_read front) (log, seen, within, refl) (in_order (entry_at front) (key_read front) run keys is_run.1) in
    IfOk-weaker c.find_place.result _ _ (λ f is hides. same_hidden (key_read front) (key_at front) key run keys f.place _ damaged
    (λ i p at unread. unread log seen within (All-slice_get (IsLive front) run i p is_run.0 at)) (is hides)) hidden)
