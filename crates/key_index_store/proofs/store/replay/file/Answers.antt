use Rattle.std.proofs.Common.{rules, ◌<◌, ◌-◌, ◌^◌, [], length, take, inl, sym, ◌∙◌, length-take, arith}
use Rattle.std.proofs.lemmas.List.{append-nil}
use Rattle.std.proofs.lemmas.Result.{IfErr-weaker, on_ok_weaker}
use Rattle.key_index_flat.specs.View.{run_of}
use Rattle.key_index_store.specs.Indexed.{entry_at}
use Rattle.key_index_store.specs.Stored.{MayOpen}
use Rattle.key_index_store.proofs.DamageLemmas.{opened}
use Rattle.key_index_store.proofs.IndexLemmas.{Indexes-filed}
use Rattle.key_index_store.proofs.StoreLemmas.{is_run, refusal-Memory}
use Rattle.key_index_store.proofs.store.replay.file.Goals as goal

pub returns-clause-filed : goal.returns-clause-filed
returns-clause-filed g c = λ log seen value has fits within indexed.
    let front = take c.args.position log in
    let s = g.I.Runs.view c.args.index.now in
    let t = g.I.Runs.view c.settle.new.index in
    let key = c.args.key.now in
    let place = c.in_ok-place.place in
    let at = c.in_ok-place.ensures.at log seen within (is_run g.I.Key.Ord.cmp front s key indexed) in
    on_ok_weaker c.settle.result (λ is.
    Indexes-filed g.met.I.Key.Ord.total g.met.I.Runs.exact front [] front (record { key = key; value = value }) fits c.in_ok-place.ensures.bytes s t (g.met.I.Runs.lawful c.args.index.now) indexed (sym (append-nil front))
    c.args.has_value has place.place place.is_held at c.args.position (omega (arith, length-take c.args.position log, within)) is)
    c.settle.ensures.settled

pub returns-clause-fault : goal.returns-clause-fault
returns-clause-fault g c = λ log seen within short indexed.
    let front : length (take c.args.position log) < 2 ^ 64 - 1 = omega (arith, length-take c.args.position log, short) in
    let full = refusal-Memory g.I.Key.Ord.cmp (take c.args.position log) (g.I.Runs.view c.args.index.now) indexed front in
    IfErr-weaker c.settle.result _ (MayOpen (g.D.Device.damaged c.find_place.new.self.device)) (λ f is. inl (inl (is ∙ full))) c.settle.ensures.fault

pub returns-in_err-place-clause-fault : goal.returns-in_err-place-clause-fault
returns-in_err-place-clause-fault g c = λ log seen within short indexed.
    let front = take c.args.position log in
    let s = g.I.Runs.view c.args.index.now in
    let key = c.args.key.now in
    let may = opened (g.D.Device.damaged c.find_place.new.self.device) (entry_at front) key (run_of g.I.Key.Ord.cmp s key) c.in_err-place.field-0.0
    (c.in_err-place.ensures.fault log seen within (is_run g.I.Key.Ord.cmp front s key indexed)) in
    search (rules, may)
