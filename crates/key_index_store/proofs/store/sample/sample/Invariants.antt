use Rattle.std.proofs.Common.{◌-◌, ◌<◌}
use Rattle.key_index_store.specs.Device.{IsRead}
use Rattle.key_index_store.proofs.store.sample.sample.Given as goal

abbrev pub decreases-loop-place : goal.decreases-loop-place
decreases-loop-place g l = l.len - l.place

abbrev pub invariant-loop-place : goal.invariant-loop-place
invariant-loop-place g l = record {
  read : IsRead g.D.Device.seen g.D.Device.damaged g.D.Device.may_leave l.fn.device l.device;
  stride : 0 < l.stride;
}
