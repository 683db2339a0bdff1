use Rattle.std.proofs.Common.{◌≡◌, ◌≤◌, ◌-◌, length, take}
use Rattle.key_index_store.specs.Device.{IsRead, Sees}
use Rattle.key_index_store.specs.Indexed.{Indexes}
use Rattle.key_index_store.proofs.store.replay.replay.Given as goal

abbrev pub decreases-loop-end : goal.decreases-loop-end
decreases-loop-end g l = l.len - l.end

-- the records so far are in the index
abbrev pub invariant-loop-end : goal.invariant-loop-end
invariant-loop-end g l = record {
  below : l.end ≤ l.len;
  read : IsRead g.D.Device.seen g.D.Device.damaged g.D.Device.may_leave l.fn.from.device l.from.device;
  counted : Sees (g.D.Device.seen l.from.device) (λ log. l.len ≡ length log);
  indexed : Sees (g.D.Device.seen l.from.device) (λ log. Indexes g.I.Key.Ord.cmp (take l.end log) (g.I.Runs.view l.index));
}
