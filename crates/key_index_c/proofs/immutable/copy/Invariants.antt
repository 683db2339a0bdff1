use Rattle.std.proofs.Common.{◌≡◌, ◌-◌, ◌≤◌, length, take, drop}
use Rattle.key_index_c.specs.Buffer.{filled}
use Rattle.key_index_c.proofs.immutable.copy.Given as goal

abbrev pub invariant-loop-count : goal.invariant-loop-count
invariant-loop-count g l =
    (l.count ≤ length l.fn.positions) × (l.positions ≡ drop l.count l.fn.positions)
    × (l.buffer ≡ filled (take l.count l.fn.positions) l.initial.buffer)

abbrev pub decreases-loop-count : goal.decreases-loop-count
decreases-loop-count g l = l.fn.most - l.count
