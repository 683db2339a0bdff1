use Rattle.std.proofs.Common.{◌-◌, ◌≡◌, ◌≤◌, take, drop}
use Rattle.std.specs.Fn.{CalledAt}
use denote.Param.Always.{always_mut}
use Rattle.key_index_flat.specs.Cursor.{next_place}
use Rattle.key_index_flat.specs.IndexCursor.{cursor_list, cursor_place}
use Rattle.key_index_flat.specs.declared.index.traits.cursor.CursorState.TheVariants.{Done}
use Rattle.key_index_flat.proofs.closures.Asked.{KeptTo}
use Rattle.key_index_flat.proofs.runs.CursorLemmas.{EditedTo}
use Rattle.key_index_flat.proofs.index.index_cursor.IndexCursorCursor.retain.Given as goal

abbrev pub invariant-loop-place : goal.invariant-loop-place
invariant-loop-place g l = record {
  same_reference : l.self.index.ghost_name ≡ l.fn.self.index.ghost_name;
  slot_kept : l.self.slot ≡ l.fn.self.slot;
  done : l.self.state ≡ Done;
  front : l.self.place ≡ 0;
  within : l.place ≤ l.self.len;
  fewer : l.self.len ≤ l.fn.self.len;
  edited : EditedTo g.I.Runs g.I.Key.Ord.cmp l.fn.self.slot l.fn.self.index.now l.self.index.now (l.fn.self.len - l.self.len);
  kept : KeptTo (CalledAt g.F.FnMut) l.fn.should_retain (cursor_list l.fn.self) (next_place (cursor_list l.fn.self) (cursor_place l.fn.self)) l.should_retain (take l.place (cursor_list l.self)) (drop l.place (cursor_list l.self));
  again : always_mut g.F.FnMut l.should_retain;
}

abbrev pub decreases-loop-place : goal.decreases-loop-place
decreases-loop-place g l = l.self.len - l.place
