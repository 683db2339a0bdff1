use Rattle.std.proofs.Common.{◌-◌, ◌≤◌}
use Rattle.std.specs.Fn.{CalledAt}
use denote.Param.Always.{always_mut}
use Rattle.key_index_flat.specs.Cursor.{next_place}
use Rattle.key_index_flat.specs.IndexCursor.{cursor_list, cursor_place, StaysAt}
use Rattle.key_index_flat.proofs.closures.Asked.{AskedTo}
use Rattle.key_index_flat.proofs.index.index_cursor.IndexCursorCursor.find.Given as goal

abbrev pub invariant-loop-place : goal.invariant-loop-place
invariant-loop-place g l = record {
  stays : StaysAt l.initial.self l.self;
  from : next_place (cursor_list l.initial.self) (cursor_place l.initial.self) ≤ l.place;
  within : l.place ≤ l.len;
  asked : AskedTo (CalledAt g.F.FnMut) l.initial.predicate (cursor_list l.initial.self) (next_place (cursor_list l.initial.self) (cursor_place l.initial.self)) l.place l.predicate;
  again : always_mut g.F.FnMut l.predicate;
}

abbrev pub decreases-loop-place : goal.decreases-loop-place
decreases-loop-place g l = l.len - l.place
