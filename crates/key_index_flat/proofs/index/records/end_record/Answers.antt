use Rattle.std.proofs.Common.{List, unwrap_or, subst, ◌∙◌}
use Rattle.std.proofs.lemmas.Result.{IfOk-weaker, IfErr-weaker}
use Rattle.std.specs.Option.{option_copied}
use Rattle.key_index_flat.specs.FullKeys.{FailsOn, IsFullEnd, IsNearest}
use Rattle.key_index_flat.specs.Values.{values_of}
use Rattle.key_index_flat.proofs.neighbours.FullKeyLemmas.{end_of_filed}
use Rattle.key_index_flat.proofs.neighbours.HeldLemmas.{FailsOn-end_list}
use Rattle.key_index_flat.proofs.index.records.end_record.Goals as goal

pub returns-clause-filed : goal.returns-clause-filed
returns-clause-filed g c =
    let index = c.args.index.now in
    let content = (g.I.Runs.view index).content in
    let is_above = g.S.Side.is_above in
    let is = c.unwrap_or-values.ensures ∙ (λ i. unwrap_or (c.end.ensures i) (c.of_slice.ensures i)) in
    λ keys agrees f. IfOk-weaker c.nearest.result _ (λ o. IsFullEnd keys is_above content (option_copied o))
    (λ o least. end_of_filed g.met.I.Key.Ord.total keys (g.I.Runs.view index).slot (g.met.I.Ordered.keeps_order index) is_above content (option_copied o) (g.met.I.Runs.lawful index) f
    (subst (λ (l : List g.row.I-Value.Denot). IsNearest keys is_above l (option_copied o)) is least)) (c.nearest.ensures.nearest keys agrees)

pub returns-clause-fault : goal.returns-clause-fault
returns-clause-fault g c =
    let content = (g.I.Runs.view c.args.index.now).content in
    let fails = g.R.Records.fails c.nearest.new.records in
    let is = c.unwrap_or-values.ensures ∙ (λ i. unwrap_or (c.end.ensures i) (c.of_slice.ensures i)) in
    IfErr-weaker c.nearest.result _ (FailsOn fails (values_of content))
    (λ e f. FailsOn-end_list fails content g.S.Side.is_above e (subst (λ (l : List g.row.I-Value.Denot). FailsOn fails l e) is f)) c.nearest.ensures.fault
