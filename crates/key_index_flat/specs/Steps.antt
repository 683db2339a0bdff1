-- A step of an edit, on the list and the place of a cursor.
--     Edited                 the list that a cursor is on, its place, and how many values were taken out
--     is_allowed, inserts    whether a place allows a step, and whether the step then puts a value in
--     after_step             what a step leaves: all as it was, where the place does not allow it
use Rattle.std.specs.Prelude.{ℕ, ◌+◌, Bool, true, false, List}
use Rattle.key_index_flat.specs.declared.index.command.Step.{Step}
use Rattle.key_index_flat.specs.declared.index.command.Step.TheVariants as step
use Rattle.key_index_flat.specs.Cursor.{Place, on_value, takes_insert, after_next, list_after_insert, place_after_insert, list_after_update, list_after_delete, place_after_delete, taken_by_delete}

pub record Edited (V : Type 0) : Type 0 where
  pub items : List V
  pub place : Place
  pub taken : ℕ

module _ {V : Type 0} where
  abbrev pub is_allowed : Step V → Place → Bool
  is_allowed step.Next p = true
  is_allowed (step.Insert v) p = takes_insert p
  is_allowed (step.Update v) p = on_value p
  is_allowed step.Delete p = on_value p

  abbrev pub inserts : Step V → Place → Bool
  inserts step.Next p = false
  inserts (step.Insert v) p = takes_insert p
  inserts (step.Update v) p = false
  inserts step.Delete p = false

  abbrev pub after_step : Step V → Edited V → Edited V
  after_step step.Next s = record s { place = after_next s.items s.place }
  after_step (step.Insert v) s =
      record { items = list_after_insert s.items s.place v; place = place_after_insert s.place; taken = s.taken }
  after_step (step.Update v) s = record s { items = list_after_update s.items s.place v }
  after_step step.Delete s = record {
    items = list_after_delete s.items s.place;
    place = place_after_delete s.place;
    taken = s.taken + taken_by_delete s.place;
  }
