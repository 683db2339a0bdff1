use Rattle.std.proofs.Common.{◌≡◌, ◌-◌, length, drop}
use Rattle.key_index_store.specs.Device.{IsRead, Sees}
use Rattle.key_index_store.specs.Stored.{is_zeros}
use Rattle.key_index_store.proofs.store.replay.are_zeros.Given as goal

abbrev pub decreases-loop-position : goal.decreases-loop-position
decreases-loop-position g l = l.len - l.position

-- zeros so far
abbrev pub invariant-loop-position : goal.invariant-loop-position
invariant-loop-position g l = record {
  read : IsRead g.D.Device.seen g.D.Device.damaged g.D.Device.may_leave l.fn.device l.device;
  zeros : Sees (g.D.Device.seen l.device) (λ log. l.len ≡ length log → is_zeros (drop l.fn.position log) ≡ is_zeros (drop l.position log));
}
