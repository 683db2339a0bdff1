-- What an `IndexCursor` shows, and what its calls leave of the index that it refers to.
--     cursor_index, cursor_slot      the reference to its index, and its index key
--     cursor_list, cursor_place     the list there, and its place in that list
--     StaysAt                       the cursor refers to the same index, with the same value, and the same index key
--     EditsIndex                    it refers to the same index, which now holds the cursor's list; `taken` held values were taken out;
--                                   the rest is left by one edit after another
use Rattle.std.specs.Prelude.{◌≡◌, ℕ, List, [], ◌∷◌}
use Rattle.std.specs.Borrow.{GName, MutBor}
use Rattle.std.specs.declared.cmp.Ord as ord
use Rattle.std.specs.declared.cmp.PartialEq as eq
use Rattle.std.specs.declared.cmp.PartialOrd as partial
use Rattle.key_index_flat.specs.declared.index.index_cursor.IndexCursor.{IndexCursor}
use Rattle.key_index_flat.specs.declared.index.traits.runs.Runs as runs
use Rattle.key_index_flat.specs.View.{run_at, with_run, with_pruned}
use Rattle.key_index_flat.specs.Cursor.{Place, NeedNext, place_of}

-- some steps of a relation, one after another
abbrev pub Chain : {I : Type 0} → (I → I → Type 0) → I → List I → I → Type 0
Chain R old [] new = old ≡ new
Chain R old (m ∷ ms) new = R old m × Chain R m ms new

module _ {I V K : Type 0} {r : runs.Ghosts I V K} {o : ord.Ghosts K} {e : eq.Ghosts K} {p : partial.Ghosts K} where
  abbrev pub cursor_index : IndexCursor I V K r o e p → MutBor I
  cursor_index c = c.index

  abbrev pub cursor_slot : IndexCursor I V K r o e p → K
  cursor_slot c = c.slot

  abbrev pub cursor_list : IndexCursor I V K r o e p → List V
  cursor_list c = run_at o.cmp (r.view c.index.now) c.slot

  abbrev pub cursor_place : IndexCursor I V K r o e p → Place
  cursor_place c = place_of c.state c.place

  -- the name of the reference that the cursor holds
  abbrev pub cursor_name : IndexCursor I V K r o e p → GName
  cursor_name c = c.index.ghost_name

  -- before the first value of an index key
  abbrev pub StartsAt : IndexCursor I V K r o e p → K → Type 0
  StartsAt c k = (c.slot ≡ k) × (cursor_place c ≡ NeedNext 0)

  abbrev pub StaysAt : IndexCursor I V K r o e p → IndexCursor I V K r o e p → Type 0
  StaysAt old new =
      (new.index.ghost_name ≡ old.index.ghost_name) × (new.index.now ≡ old.index.now) × (new.slot ≡ old.slot)

  pub record EditsIndex (old new : IndexCursor I V K r o e p) (taken : ℕ) : Type 0 where
    pub same_reference : new.index.ghost_name ≡ old.index.ghost_name
    pub slot_kept : new.slot ≡ old.slot
    pub changed : r.view new.index.now
        ≡ with_pruned (with_run o.cmp (r.view old.index.now) old.slot (cursor_list new)) taken
    pub states : List I
    pub edited : Chain r.edited old.index.now states new.index.now
