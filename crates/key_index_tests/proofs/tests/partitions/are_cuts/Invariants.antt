use Rattle.std.proofs.Common.{◌<◌, ◌+◌, ◌-◌, ℕ, length}
use Rattle.std.specs.Prelude.{slice_index}
use Rattle.key_index_tests.proofs.tests.partitions.are_cuts.Given as goal

abbrev pub invariant-cuts : goal.invariant-cuts
invariant-cuts l = (0 < l.at) × ((i : ℕ) → i + 1 < l.at → slice_index l.cuts i < slice_index l.cuts (i + 1))

abbrev pub decreases-cuts : goal.decreases-cuts
decreases-cuts l = length l.cuts - l.at
