use Rattle.std.proofs.Common.{List, Option, Some, Bool, Bor, ap, sym, subst, ◌∙◌}
use Rattle.std.proofs.lemmas.Result.{IfErr-weaker}
use Rattle.std.specs.Option.{option_copied}
use Rattle.std.specs.Ordering.{on}
use Rattle.key_index_flat.specs.FullKeys.{FailsOn, IsNearest, beyond, byte_cmp, unflagged}
use Rattle.key_index_flat.specs.Neighbours.{beside_list, side_cmp}
use Rattle.key_index_flat.specs.Values.{values_of}
use Rattle.key_index_flat.specs.View.{run_of}
use Rattle.key_index_flat.proofs.neighbours.FullKeyLemmas.{least_own}
use Rattle.key_index_flat.proofs.neighbours.HeldLemmas.{FailsOn-beside_list}
use Rattle.key_index_flat.proofs.index.records.own_or_beside.Goals as goal

pub returns-in-Some-clause-candidate : goal.returns-in-Some-clause-candidate
returns-in-Some-clause-candidate g c = λ keys agrees own.
    let is_above = g.S.Side.is_above in
    let view = g.I.Runs.view c.args.index.now in
    let key = c.args.key.now in
    let run = beyond keys is_above key (run_of g.I.Key.Ord.cmp view key) in
    least_own (on keys (side_cmp is_above byte_cmp)) run (unflagged (beside_list is_above g.I.Key.Ord.cmp view.content (view.slot key))) c.in-Some.value.now
    (subst (λ (o : Option (Bor g.row.I-Value.Denot)). IsNearest keys is_above run (option_copied o)) c.in-Some.is own)

pub returns-in-Some-default-false-clause-fault : goal.returns-in-Some-default-false-clause-fault
returns-in-Some-default-false-clause-fault g c =
    let view = g.I.Runs.view c.args.index.now in
    let fails = g.R.Records.fails c.nearest.new.records in
    let found = c.in-Some-default-false in
    let is = ap (λ b. Some (found.values, b)) (sym found.field-0-1-test) ∙ sym found.is ∙ c.beside.ensures in
    IfErr-weaker c.nearest.result _ (FailsOn fails (values_of view.content))
    (λ e f. FailsOn-beside_list fails view.content g.S.Side.is_above g.I.Key.Ord.cmp (view.slot c.args.key.now) e
    (subst (λ (l : Option (List g.row.I-Value.Denot × Bool)). FailsOn fails (unflagged l) e) is f)) c.nearest.ensures.fault
