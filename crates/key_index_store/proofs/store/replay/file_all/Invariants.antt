use Rattle.std.proofs.Common.{◌≡◌, ◌≤◌, ◌+◌, ◌-◌, length, take, drop}
use Rattle.key_index_store.specs.Device.{IsRead, Sees}
use Rattle.key_index_store.specs.Indexed.{Indexes}
use Rattle.key_index_store.proofs.store.replay.file_all.Given as goal

abbrev pub decreases-loop-record : goal.decreases-loop-record
decreases-loop-record g l = length l.rest

-- the records so far are in the index
abbrev pub invariant-loop-record : goal.invariant-loop-record
invariant-loop-record g l = record {
  within : length l.rest ≤ length l.bytes;
  at : l.place ≡ l.position + (length l.bytes - length l.rest);
  rest : l.rest ≡ drop (length l.bytes - length l.rest) l.bytes;
  read : IsRead g.D.Device.seen g.D.Device.damaged g.D.Device.may_leave l.fn.from.device l.from.device;
  indexed : Sees (g.D.Device.seen l.from.device) (λ log. l.bytes ≡ take (length l.bytes) (drop l.position log)
      → Indexes g.I.Key.Ord.cmp (take l.position log) (g.I.Runs.view l.fn.index)
      → Indexes g.I.Key.Ord.cmp (take l.place log) (g.I.Runs.view l.index));
}
