use Rattle.std.proofs.Common.{◌≡◌, ◌≤◌, slice_index, slice_set, subst, sym, ap, ◌∙◌, arith}
use Rattle.std.proofs.lemmas.List.{length-set}
use Rattle.key_index.specs.Table.{places, Stored, position_count}
use Rattle.key_index.proofs.tables.TableMaps.{find_contains, find_is, places_full, full_within, full-removed, used-put_used, removed_files}
use Rattle.key_index.proofs.table.Table.remove.Goals.{In-Some, After-remove}
use Rattle.key_index.proofs.table.Table.remove.Goals as goal

pub returns-in_default-clause-removed : goal.returns-in_default-clause-removed
returns-in_default-clause-removed c =
    let searched = rw (c.deref.ensures.value) at c.cell_of.ensures in
    rw (← c.self.view_is)
    (find_contains (slice_index c.self.inside.positions.items) c.args.position (places c.self.inside.controls c.args.hash) _ (sym c.in_default.is ∙ searched))

-- the cell that was found is full, and holds the position
cell_found : (c : In-Some) → (slice_index c.self.inside.positions.items c.in-Some.cell ≡ c.args.position) × (2 ≤ slice_index c.self.inside.controls c.in-Some.cell)
cell_found c =
    let searched = rw (c.deref.ensures.value) at c.cell_of.ensures in
    let found = find_is (slice_index c.self.inside.positions.items) c.args.position (places c.self.inside.controls c.args.hash) c.in-Some.cell (sym searched ∙ c.in-Some.is) in
    (found.0, places_full c.self.inside.controls c.args.hash c.in-Some.cell found.1)

pub remove-requires : goal.remove-requires
remove-requires c = full_within c.self.inside.controls c.in-Some.cell (cell_found (goal.at.remove-requires c).In-Some).1

pub overflow_sub-self : goal.overflow_sub-self
overflow_sub-self c = omega (arith, c.self.invariant.counted, full-removed c.self.inside.controls c.in-Some.cell (cell_found (goal.at.overflow_sub-self c).In-Some).1)

-- the controls after it
controls_are : (c : After-remove) → c.remove.new.self ≡ slice_set c.self.inside.controls c.in-Some.cell 1
controls_are c = c.remove.ensures

pub invariant_of-self-2 : goal.invariant_of-self-2
invariant_of-self-2 c =
    let places = goal.at.invariant_of-self-2 c in
    let full = (cell_found places.In-Some).1 in
    let within = full_within c.self.inside.controls c.in-Some.cell full in
    let inv = c.self.invariant in
    let same = length-set c.self.inside.controls c.in-Some.cell 1 in
    rw (controls_are places.After-remove) record {
      sized = inv.sized ∙ sym same;
      counted = omega (arith, inv.counted, full-removed c.self.inside.controls c.in-Some.cell full);
      marked = inv.marked ∙ sym (used-put_used c.self.inside.controls c.in-Some.cell 1 within (omega arith) (omega arith));
      room = omega (arith, inv.room, same);
    }

pub returns-clause-removed : goal.returns-clause-removed
returns-clause-removed c =
    let searched = rw (c.deref.ensures.value) at c.cell_of.ensures in
    rw (← c.self.view_is)
    (find_contains (slice_index c.self.inside.positions.items) c.args.position (places c.self.inside.controls c.args.hash) _ (sym c.in-Some.is ∙ searched))

pub returns-clause-stored : goal.returns-clause-stored
returns-clause-stored c = λ m s.
    let places = goal.at.returns-clause-stored c in
    let found = cell_found places.In-Some in
    rw (controls_are places.After-remove)
    (removed_files c.self.inside.controls c.self.inside.positions.items c.in-Some.cell found.1 m c.args.position found.0 (subst (λ t. Stored t m) (sym c.self.view_is) s))

pub returns-clause-count : goal.returns-clause-count
returns-clause-count c =
    let places = goal.at.returns-clause-count c in
    rw (controls_are places.After-remove)
    (full-removed c.self.inside.controls c.in-Some.cell (cell_found places.In-Some).1 ∙ ap position_count c.self.view_is)
