use Rattle.std.proofs.Common.{◌≡◌, ap, sym, ◌∙◌}
use Rattle.std.proofs.lemmas.Result.{IfOk-weaker}
use Rattle.std.specs.Option.{option_copied}
use Rattle.key_index_flat.specs.FullKeys.{first_with}
use Rattle.key_index_flat.specs.Values.{values_of}
use Rattle.key_index_flat.proofs.neighbours.FullKeyLemmas.{first_with-anywhere}
use Rattle.key_index_flat.proofs.index.records.find_record.Goals as goal

pub returns-clause-filed : goal.returns-clause-filed
returns-clause-filed g c =
    let index = c.args.index.now in
    let key = c.args.key.now in
    let content = (g.I.Runs.view index).content in
    λ keys agrees f. IfOk-weaker c.first_record_with.result _ (λ o. option_copied o ≡ first_with keys key (values_of content))
    (λ o is. is ∙ ap (first_with keys key) c.get.ensures ∙ sym (first_with-anywhere g.met.I.Key.Ord.total keys (g.I.Runs.view index).slot key content (g.met.I.Runs.lawful index).0 f)) (c.first_record_with.ensures.first keys agrees)
