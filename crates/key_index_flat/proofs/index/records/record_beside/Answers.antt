use Rattle.std.proofs.Common.{◌<◌, List, rules, subst, arith}
use Rattle.std.proofs.lemmas.List.Elements.{All-from_get_or}
use Rattle.std.proofs.lemmas.Result.{IfOk-weaker}
use Rattle.std.specs.Option.{option_copied}
use Rattle.key_index_flat.specs.FullKeys.{FailsOn, IsBytes, IsFullBeside, IsNearest, beyond}
use Rattle.key_index_flat.proofs.neighbours.FullKeyLemmas.{beside_of_filed}
use Rattle.key_index_flat.proofs.neighbours.HeldLemmas.{FailsOn-list_at}
use Rattle.key_index_flat.proofs.index.records.record_beside.Goals as goal

pub returns-in_err-own-clause-fault : goal.returns-in_err-own-clause-fault
returns-in_err-own-clause-fault g c =
    let view = g.I.Runs.view c.args.index.now in
    let fails = g.R.Records.fails c.nearest_beyond.new.records in
    let error = c.in_err-own.field-0.0 in
    let may = FailsOn-list_at fails view.content g.I.Key.Ord.cmp (view.slot c.args.key.now) error (subst (λ (l : List g.row.I-Value.Denot). FailsOn fails l error) c.get.ensures c.in_err-own.ensures.fault) in
    search (rules, may)

pub returns-clause-candidate : goal.returns-clause-candidate
returns-clause-candidate g c = λ keys agrees.
    let is_above = g.S.Side.is_above in
    let before = g.R.Records.agreed c.nearest_beyond.new.records c.own_or_beside.new.records keys c.own_or_beside.ensures.reads agrees in
    c.own_or_beside.ensures.candidate keys agrees
    (subst (λ (l : List g.row.I-Value.Denot). IsNearest keys is_above (beyond keys is_above c.args.key.now l) (option_copied c.in_ok-own.own)) c.get.ensures (c.in_ok-own.ensures.nearest keys before))

pub returns-clause-filed : goal.returns-clause-filed
returns-clause-filed g c =
    let index = c.args.index.now in
    let key = c.args.key.now in
    let is_above = g.S.Side.is_above in
    let bytes : IsBytes key = All-from_get_or (λ n. n < 256) key 0 (λ i within. omega (arith, c.type_inv.key i)) in
    let content = (g.I.Runs.view index).content in
    λ keys agrees f. IfOk-weaker c.own_or_beside.result _ (λ o. IsFullBeside keys is_above content key (option_copied o))
    (λ o is. beside_of_filed g.met.I.Key.Ord.total keys (g.I.Runs.view index).slot (g.met.I.Ordered.keeps_order index) is_above key bytes content (option_copied o) (g.met.I.Runs.lawful index) f is) (returns-clause-candidate g c keys agrees)

pub returns-clause-reads : goal.returns-clause-reads
returns-clause-reads g c =
    g.R.Records.reads_both c.args.records.now c.nearest_beyond.new.records c.own_or_beside.new.records c.in_ok-own.ensures.reads c.own_or_beside.ensures.reads
