use Rattle.std.proofs.Common.{◌≡◌, ◌-◌, List, ℕ, length, refl, rules, ap, ◌∙◌}
use Rattle.std.specs.List.{items_where_true}
use Rattle.key_index_flat.specs.View.{run_of, with_pruned, with_run}
use Rattle.key_index_c.specs.Changes.{kept_by}
use Rattle.key_index_c.specs.contracts.any.fn.keep.retain as closure
use Rattle.key_index_c.proofs.MaskLemmas.{answers_by_mask}
use Rattle.key_index_c.proofs.any.keep.Goals as goal

pub returns-in-Ok-clause-kept : goal.returns-in-Ok-clause-kept
returns-in-Ok-clause-kept g c = λ _.
    let told = c.in-Ok.ensures.accepted in let asked = told.1 in let mask = c.args.mask.now in
    let cmp = g.I.Key.Ord.cmp in let s = g.I.Runs.view c.args.index.now in let values = run_of cmp s c.args.key.now in
    let kept : told.0 ≡ kept_by mask values =
    asked.4 ∙ ap (λ answers. items_where_true answers values)
    (answers_by_mask _ (λ f. (closure.captures f).rest.now) (λ f x b f' byte left k is. search rules)
    mask asked.0 values _ asked.1 refl asked.2 c.requires asked.3) in
    told.2 ∙ ap (λ (l : List ℕ). with_pruned (with_run cmp s (s.slot c.args.key.now) l) (length values - length l)) kept
