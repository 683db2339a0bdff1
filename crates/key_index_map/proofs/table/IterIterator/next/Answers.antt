use Rattle.std.proofs.Common.{◌≡◌, ◌∷◌, ◌+◌, ◌<◌, ◌≤◌, drop, length, refl, sym, ap, ◌∙◌, arith}
use Rattle.std.proofs.lemmas.Option.{slice_get_read}
use Rattle.core.specs.Mem.Slots.{slots_items}
use Rattle.key_index_map.specs.Table.{held}
use Rattle.key_index_map.proofs.Moving.{held_past, none_left_from, first_from}
use Rattle.key_index_map.proofs.table.IterIterator.next.Given.{Over}
use Rattle.key_index_map.proofs.table.IterIterator.next.Goals as goal
use Rattle.key_index_map.proofs.table.IterIterator.next.Goals.{After-get}

pub returns-then-len-cell-clause-steps : goal.returns-then-len-cell-clause-steps
returns-then-len-cell-clause-steps g c =
    let tags = c.self.inside.tags.now in
    let row = c.self.inside.row.now in
    let cell = c.next_held-cell.result in
    let past : length (slots_items row) ≤ cell = omega (arith, c.if-len-cell.true, c.len-2.ensures, row.ok.0) in (
      sym c.self.view_is
          ∙ none_left_from tags (slots_items row) c.self.inside.next cell c.self.invariant.long c.next_held-cell.ensures.after c.next_held-cell.ensures.none
          (λ start. let most = c.next_held-cell.ensures.within (omega (arith, start, c.len.ensures, row.ok.0)) in omega (arith, most, c.len.ensures, row.ok.0)) past,
      held_past tags (slots_items row) cell past,
    )

first : (g : Over) (c : After-get g) → c.args.self.now ≡ c.get.result.now ∷ held (drop (c.next_held-cell.result + 1) c.self.inside.tags.now) (drop (c.next_held-cell.result + 1) (slots_items c.self.inside.row.now))
first g c =
    let tags = c.self.inside.tags.now in
    let row = c.self.inside.row.now in
    let cell = c.next_held-cell.result in
    let below : cell < length (slots_items row) = omega (arith, c.if-len-cell.false, c.len-2.ensures, row.ok.0) in
    sym c.self.view_is
    ∙ first_from tags (slots_items row) c.self.inside.next cell c.self.invariant.long c.next_held-cell.ensures.after c.next_held-cell.ensures.none c.get.result.now
    (slice_get_read (slots_items row) (length (slots_items row)) cell c.get.result.now refl below c.get.ensures) (c.next_held-cell.ensures.held (omega (arith, below, c.len.ensures, row.ok.0)))

pub returns-clause-steps : goal.returns-clause-steps
returns-clause-steps g c = first g (goal.at.returns-clause-steps g c).After-get

pub returns-clause-goes : goal.returns-clause-goes
returns-clause-goes g c =
    let less = ap length (first g (goal.at.returns-clause-goes g c).After-get) in
    record { on = λ _. (tt, tt, omega (arith, less)); keeps = tt; rests = λ _. tt }
