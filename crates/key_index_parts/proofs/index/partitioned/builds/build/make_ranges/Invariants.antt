use Rattle.std.proofs.Common.{◌≡◌, ◌≤◌, ◌+◌, ◌-◌, [], length, ℕ, Some}
use Rattle.std.specs.Prelude.{slice_index}
use Rattle.std.specs.List.{slice_get}
use Rattle.key_index_parts.specs.Ranges.{IsFilled}
use Rattle.key_index_parts.proofs.index.partitioned.builds.build.make_ranges.Given as goal

abbrev pub invariant-cuts : goal.invariant-cuts
invariant-cuts g l = record {
  within : l.at ≤ length l.cuts;
  long : length l.ranges.items + 1 ≡ l.at;
  each : (i : ℕ) (range : g.row.I-Range.Denot) → slice_get l.ranges.items i ≡ Some range
      → IsFilled {R = g.row.I-Range.Denot} {K = g.row.I-Key.Denot} {V = g.row.I-Value.Denot} g.I.Key.Ord.cmp g.I.Unordered.INSERT_FIRST g.I.Range.Runs.view (g.I.Runs.view l.index).slot g.I.Partitioned.partition [] (slice_index l.cuts i) (slice_index l.cuts (i + 1)) range;
}

abbrev pub decreases-cuts : goal.decreases-cuts
decreases-cuts g l = length l.cuts - l.at
