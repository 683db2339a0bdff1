use Rattle.std.proofs.Common.{true, false, not, sym, ap, ◌∙◌}
use Rattle.key_index_flat.specs.Content.{is_filled}
use Rattle.key_index_flat.proofs.neighbours.WalkLemmas.{from_own}
use Rattle.key_index_flat.proofs.index.walk.lists_from.Goals.{then-is_empty, else-is_empty}
use Rattle.key_index_flat.proofs.index.walk.lists_from.Goals as goal

pub returns : goal.returns
returns g c =
    let view = g.I.Runs.view c.args.index.now in
    let from = from_own g.met.I.Key.Ord.total view.content (view.slot c.args.key.now) (g.met.I.Runs.lawful c.args.index.now) in
    elim c.if-is_empty.branch [
      | then-is_empty w ↦ rw (w.found-is, c.slot_of.ensures) (sym (from true (sym w.if-is_empty.true ∙ c.is_empty.ensures ∙ ap (λ l. not (is_filled l)) c.get-own.ensures)))
      | else-is_empty w ↦ rw (w.found-is, c.slot_of.ensures, c.get-own.ensures) (sym (from false (sym w.if-is_empty.false ∙ c.is_empty.ensures ∙ ap (λ l. not (is_filled l)) c.get-own.ensures)))
    ]
