use Rattle.std.proofs.Common.{ap, ◌∙◌}
use Rattle.std.specs.Prelude.{slice_set}
use Rattle.key_index_flat.specs.View.{run_at, with_edit}
use Rattle.key_index_c.specs.Calls.{place_of}
use Rattle.key_index_c.specs.Changes.{after_replaced}
use Rattle.key_index_c.proofs.any.replace_value.Goals as goal

pub returns-in-Some-clause-replaced : goal.returns-in-Some-clause-replaced
returns-in-Some-clause-replaced g c =
    let cmp = g.I.Key.Ord.cmp in let s = g.I.Runs.view c.args.index.now in let place = c.in-Some.place in
    c.set_at.ensures.changed
    ∙ ap (λ k. with_edit cmp s k (λ l. slice_set l place c.args.new)) c.slot_of-slot.ensures
    ∙ ap (λ at. after_replaced cmp s c.args.key.now at c.args.new)
    (c.in-Some.ensures.place ∙ ap (place_of c.args.value) (c.list_at.ensures ∙ ap (run_at cmp s) c.slot_of-slot.ensures))
