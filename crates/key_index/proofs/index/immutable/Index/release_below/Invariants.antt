use Rattle.std.proofs.Common.{◌-◌, ◌≤◌}
use Rattle.key_index.specs.Immutable.{IsReleased}
use Rattle.key_index.proofs.index.immutable.Index.release_below.Given as goal

abbrev pub invariant-loop-self : goal.invariant-loop-self
invariant-loop-self g l = record {
  released : IsReleased l.fn.self l.self;
  below : l.self.start ≤ l.start;
}

abbrev pub decreases-loop-self : goal.decreases-loop-self
decreases-loop-self g l = l.start - l.self.start
