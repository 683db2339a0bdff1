use Rattle.std.proofs.Common.{List, [], Option, ℕ, sym, ap, ◌∙◌}
use Rattle.std.specs.Option.{unwrap_or}
use Rattle.key_index_flat.specs.Neighbours.{last_entry}
use Rattle.key_index_store.proofs.NearestLemmas.{last_value}
use Rattle.key_index_store.proofs.store.neighbours.last_position.Goals as goal

pub returns-in-Some : goal.returns-in-Some
returns-in-Some g c =
    let index = c.args.index.now in
    c.last_of.ensures
    ∙ ap (λ (l : Option (List ℕ)). last_entry (unwrap_or l [])) (sym c.in-Some.is ∙ c.last_translated_key.ensures)
    ∙ sym (last_value (g.I.Runs.view index).content (g.met.I.Runs.lawful index).1)

pub returns-in-None : goal.returns-in-None
returns-in-None g c =
    let index = c.args.index.now in
    ap (λ (l : Option (List ℕ)). last_entry (unwrap_or l [])) (sym c.in-None.is ∙ c.last_translated_key.ensures)
    ∙ sym (last_value (g.I.Runs.view index).content (g.met.I.Runs.lawful index).1)
