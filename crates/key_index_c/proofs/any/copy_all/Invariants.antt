use Rattle.std.proofs.Common.{◌≡◌, ◌-◌, ◌≤◌, ◌++◌, length, take, drop}
use Rattle.key_index_c.proofs.any.copy_all.Given as goal

-- what was written is the front of the values, and the rest of the buffer is as it was
abbrev pub invariant-loop-place : goal.invariant-loop-place
invariant-loop-place l =
    (l.place ≤ length l.buffer) × (take l.place l.buffer ++ l.values ≡ l.fn.values)
    × (drop l.place l.buffer ≡ drop l.place l.initial.buffer)

abbrev pub decreases-loop-place : goal.decreases-loop-place
decreases-loop-place l = length l.buffer - l.place
