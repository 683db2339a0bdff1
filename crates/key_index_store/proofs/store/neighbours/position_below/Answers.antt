use Rattle.std.proofs.Common.{◌≡◌, ◌-◌, ℕ, Bool, List, Option, Some, sym, ap, subst, ◌∙◌, slice_get, arith}
use Rattle.key_index_flat.specs.FullKeys.{unflagged}
use Rattle.key_index_flat.specs.Neighbours.{entries_below, last_entry}
use Rattle.key_index_flat.specs.Values.{values_of}
use Rattle.key_index_flat.specs.View.{run_at, run_of}
use Rattle.key_index_store.proofs.NearestLemmas.{last_lower, last_taken}
use Rattle.key_index_store.proofs.store.neighbours.position_below.Goals as goal

pub returns-then-place-ne0 : goal.returns-then-place-ne0
returns-then-place-ne0 g c =
    let s = g.I.Runs.view c.args.index.now in
    let cmp = g.I.Key.Ord.cmp in
    let k = s.slot c.args.key.now in
    last_taken (values_of (entries_below cmp s.content k)) (run_of cmp s c.args.key.now) c.args.place c.value_at.result.now (omega (arith, c.if-place-ne0.true))
    (subst (λ slot. slice_get (run_at cmp s slot) (c.args.place - 1) ≡ Some c.value_at.result.now) c.slot_of.ensures c.value_at.ensures)

pub returns-then-is_cycled : goal.returns-then-is_cycled
returns-then-is_cycled g c =
    let s = g.I.Runs.view c.args.index.now in
    let lower = last_lower g.met.I.Key.Ord.total s (s.slot c.args.key.now) c.args.place (g.met.I.Runs.lawful c.args.index.now) c.if-place-ne0.false in
    ap (λ b. last_entry (unflagged (Some (c.in-Some.values, b)))) (sym c.if-is_cycled.true)
    ∙ ap (λ (r : Option (List ℕ × Bool)). last_entry (unflagged r)) (sym c.in-Some.is ∙ c.prev_translated_key.ensures) ∙ lower

pub returns-else-is_cycled : goal.returns-else-is_cycled
returns-else-is_cycled g c =
    let s = g.I.Runs.view c.args.index.now in
    let lower = last_lower g.met.I.Key.Ord.total s (s.slot c.args.key.now) c.args.place (g.met.I.Runs.lawful c.args.index.now) c.if-place-ne0.false in
    c.last_of.ensures
    ∙ ap (λ b. last_entry (unflagged (Some (c.in-Some.values, b)))) (sym c.if-is_cycled.false)
    ∙ ap (λ (r : Option (List ℕ × Bool)). last_entry (unflagged r)) (sym c.in-Some.is ∙ c.prev_translated_key.ensures) ∙ lower

pub returns-in-None : goal.returns-in-None
returns-in-None g c =
    let s = g.I.Runs.view c.args.index.now in
    let lower = last_lower g.met.I.Key.Ord.total s (s.slot c.args.key.now) c.args.place (g.met.I.Runs.lawful c.args.index.now) c.if-place-ne0.false in
    ap (λ (r : Option (List ℕ × Bool)). last_entry (unflagged r)) (sym c.in-None.is ∙ c.prev_translated_key.ensures) ∙ lower
