use Rattle.std.proofs.Common.{rules, of_calls, [], refl, ◌∙◌}
use Rattle.key_index_flat.specs.View.{run_at}
use Rattle.key_index_uses.proofs.VisitLemmas.{FoldsTo-inside, FoldsTo-fold, answered, fold-answered}
use Rattle.key_index_uses.proofs.callers.last_values.Goals as goal

pub returns : goal.returns
returns g c =
    let h = c.visit_with.ensures in
    let last = c.visit_with.new.visit in
    let view = g.I.Runs.view c.args.index.now in
    let same = FoldsTo-inside _ (λ q. q.0.ghost_name) (λ p x q e. search (rules, of_calls)) _ last _ h in
    let ends = FoldsTo-fold _ (λ q. q.0.now) answered (λ p x q e. search (rules, of_calls)) _ last _ h ∙ fold-answered (run_at g.I.Key.Ord.cmp view) view.slot (λ k. k.now) [] c.args.answers.now 0 c.args.keys.now refl c.requires in
    search (rules, same, ends)
