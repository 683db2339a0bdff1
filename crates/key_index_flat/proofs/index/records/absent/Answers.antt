use Rattle.std.proofs.Common.{◌<◌, true, false, None, Some, IsSome, List, Option, Bor, rules, sym, subst, arith, ◌∙◌}
use Rattle.std.proofs.lemmas.List.Elements.{All-from_get_or}
use Rattle.std.specs.Option.{option_copied}
use Rattle.key_index_flat.specs.FullKeys.{FailsOn, IsBytes, IsGapAmong, gap_copied}
use Rattle.key_index_flat.proofs.neighbours.FullKeyLemmas.{beside_of_filed, first_with-anywhere}
use Rattle.key_index_flat.proofs.neighbours.HeldLemmas.{FailsOn-list_at}
use Rattle.key_index_flat.proofs.index.records.absent.Goals as goal

pub returns-in_err-below-clause-fault : goal.returns-in_err-below-clause-fault
returns-in_err-below-clause-fault g c =
    let view = g.I.Runs.view c.args.index.now in
    let fails = g.R.Records.fails c.nearest_beside.new.records in
    let error = c.in_err-below.field-0.0 in
    let may = FailsOn-list_at fails view.content g.I.Key.Ord.cmp (view.slot c.args.key.now) error (subst (λ (l : List g.row.I-Value.Denot). FailsOn fails l error) c.get.ensures c.in_err-below.ensures.fault) in
    search (rules, may)

pub returns-in_default-clause-filed : goal.returns-in_default-clause-filed
returns-in_default-clause-filed g c = λ keys agrees f.
    let index = c.args.index.now in
    let view = g.I.Runs.view index in
    let key = c.args.key.now in
    let own = subst (λ (gap : Option (Option (Bor g.row.I-Value.Denot) × Option (Bor g.row.I-Value.Denot))). IsGapAmong keys key c.get.result (gap_copied gap)) c.in_default.is (c.in_ok-below.ensures.beside keys agrees) in
    let here = subst (λ (l : List g.row.I-Value.Denot). IsGapAmong keys key l None) c.get.ensures own in
    subst (λ (o : Option g.row.I-Value.Denot). IsSome o) (sym (first_with-anywhere g.met.I.Key.Ord.total keys view.slot key view.content (g.met.I.Runs.lawful index).0 f)) here

pub returns-in_err-above-clause-reads : goal.returns-in_err-above-clause-reads
returns-in_err-above-clause-reads g c =
    let law = g.R.Records in
    let begun = c.args.records.now in
    let second = c.own_or_beside.new.records in
    law.reads_both begun second c.own_or_beside-2.new.records (law.reads_both begun c.nearest_beside.new.records second c.nearest_beside.ensures.reads c.own_or_beside.ensures.reads) c.own_or_beside-2.ensures.reads

pub returns-clause-candidate : goal.returns-clause-candidate
returns-clause-candidate g c = λ keys agrees.
    let law = g.R.Records in
    let key = c.args.key.now in
    let second = c.own_or_beside.new.records in
    let at_second = law.agreed second c.own_or_beside-2.new.records keys c.own_or_beside-2.ensures.reads agrees in
    let at_first = law.agreed c.nearest_beside.new.records second keys c.own_or_beside.ensures.reads at_second in
    let own = subst (λ (gap : Option (Option (Bor g.row.I-Value.Denot) × Option (Bor g.row.I-Value.Denot))). IsGapAmong keys key c.get.result (gap_copied gap)) c.in-Some.is (c.in_ok-below.ensures.beside keys at_first) in
    let here = subst (λ (l : List g.row.I-Value.Denot). IsGapAmong keys key l (Some (option_copied c.in-Some.below, option_copied c.in-Some.above))) c.get.ensures own in (
      here.0,
      c.in_ok-below-2.ensures.candidate keys at_second here.1,
      c.in_ok-above.ensures.candidate keys agrees here.2,
    )

pub returns-clause-filed : goal.returns-clause-filed
returns-clause-filed g c = λ keys agrees f.
    let index = c.args.index.now in
    let view = g.I.Runs.view index in
    let key = c.args.key.now in
    let bytes : IsBytes key = All-from_get_or (λ n. n < 256) key 0 (λ i within. omega (arith, c.type_inv.key i)) in
    let total = g.met.I.Key.Ord.total in
    let order = g.met.I.Ordered.keeps_order index in
    let lawful = g.met.I.Runs.lawful index in
    let is = returns-clause-candidate g c keys agrees in (
      first_with-anywhere total keys view.slot key view.content lawful.0 f ∙ is.0,
      beside_of_filed total keys view.slot order false key bytes view.content (option_copied c.in_ok-below-2.below) lawful f is.1,
      beside_of_filed total keys view.slot order true key bytes view.content (option_copied c.in_ok-above.above) lawful f is.2,
    )

pub returns-clause-reads : goal.returns-clause-reads
returns-clause-reads g c =
    let law = g.R.Records in
    let begun = c.args.records.now in
    let second = c.own_or_beside.new.records in
    law.reads_both begun second c.own_or_beside-2.new.records (law.reads_both begun c.nearest_beside.new.records second c.nearest_beside.ensures.reads c.own_or_beside.ensures.reads) c.own_or_beside-2.ensures.reads
