use Rattle.std.proofs.Common.{◌≡◌, ℕ, ◌<◌, ◌≤◌, length, slice_index}
use Rattle.key_index_c.specs.Calls.{start_of}
use Rattle.key_index_c.proofs.any.are_keys.Given as goal

abbrev pub invariant-loop-end : goal.invariant-loop-end
invariant-loop-end l =
    (l.start ≡ start_of l.ends l.end-index)
    × ((i : ℕ) → i < l.end-index → start_of l.ends i ≤ slice_index l.ends i)
    × ((i : ℕ) → i < l.end-index → slice_index l.ends i ≤ length l.keys)
