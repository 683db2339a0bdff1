-- A step of an edit at a cursor.
--     edited_at      what a cursor is on, where so many values were taken out before
--     others_of      how many values the other index keys have
--     EditsBy        the index is left by one edit after another, and the cursor on what `change` makes of what it was on
--     RunsSteps      steps in turn, with their flags
use Rattle.std.specs.Prelude.{◌≡◌, ℕ, ◌+◌, Bool, List, []}
use Rattle.std.specs.declared.cmp.Ord as ord
use Rattle.std.specs.declared.cmp.PartialEq as eq
use Rattle.std.specs.declared.cmp.PartialOrd as partial
use Rattle.key_index_flat.specs.declared.index.command.Step.{Step}
use Rattle.key_index_flat.specs.declared.index.index_cursor.IndexCursor.{IndexCursor}
use Rattle.key_index_flat.specs.declared.index.traits.runs.Runs as runs
use Rattle.key_index_flat.specs.View.{items_in, with_run}
use Rattle.key_index_flat.specs.IndexCursor.{cursor_list, cursor_place, EditsIndex}
use Rattle.key_index_flat.specs.Steps.{Edited}
use Rattle.key_index_flat.specs.Run.{EditGives}

module _ {I V K : Type 0} {r : runs.Ghosts I V K} {o : ord.Ghosts K} {e : eq.Ghosts K} {p : partial.Ghosts K} where
  abbrev pub edited_at : IndexCursor I V K r o e p → ℕ → Edited V
  edited_at c n = record { items = cursor_list c; place = cursor_place c; taken = n }

  abbrev pub others_of : IndexCursor I V K r o e p → ℕ
  others_of c = items_in (with_run o.cmp (r.view c.index.now) c.slot [])

  -- before: how many values were taken out before
  pub record EditsBy (change : Edited V → Edited V) (old new : IndexCursor I V K r o e p) : Type 0 where
    pub taken : ℕ
    pub edits : EditsIndex old new taken
    pub gives : (before : ℕ) → edited_at new (before + taken) ≡ change (edited_at old before)

  pub record RunsSteps (steps : List (Step V)) (flags : List Bool) (old new : IndexCursor I V K r o e p) : Type 0 where
    pub taken : ℕ
    pub edits : EditsIndex old new taken
    pub gives : EditGives (others_of old) steps flags (edited_at old 0) (edited_at new taken)
