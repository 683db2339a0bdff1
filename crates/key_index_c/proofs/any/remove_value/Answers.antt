use Rattle.std.proofs.Common.{ap, ◌∙◌}
use Rattle.std.specs.Prelude.{remove}
use Rattle.key_index_flat.specs.View.{run_at, with_edit, with_pruned}
use Rattle.key_index_c.specs.Calls.{place_of}
use Rattle.key_index_c.specs.Changes.{after_removed}
use Rattle.key_index_c.proofs.any.remove_value.Goals as goal

pub returns-in-Some-clause-removed : goal.returns-in-Some-clause-removed
returns-in-Some-clause-removed g c =
    let cmp = g.I.Key.Ord.cmp in let s = g.I.Runs.view c.args.index.now in let place = c.in-Some.place in
    c.remove_at.ensures.changed
    ∙ ap (λ k. with_pruned (with_edit cmp s k (λ l. remove l place)) 1) c.slot_of-slot.ensures
    ∙ ap (λ at. after_removed cmp s c.args.key.now at)
    (c.in-Some.ensures.place ∙ ap (place_of c.args.value) (c.list_at.ensures ∙ ap (run_at cmp s) c.slot_of-slot.ensures))
