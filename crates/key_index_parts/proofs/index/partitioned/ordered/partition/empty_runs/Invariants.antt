use Rattle.std.proofs.Common.{◌≡◌, ◌≤◌, ◌-◌, ◌++◌, List, length, map, drop}
use Rattle.std.specs.List.{zip}
use Rattle.key_index_parts.specs.Pairs.{grouped, room_of, room_for}
use Rattle.key_index_parts.proofs.index.partitioned.ordered.partition.empty_runs.Given as goal

abbrev pub invariant-loop-start : goal.invariant-loop-start
invariant-loop-start g l = record {
  within : l.start ≤ length l.keys;
  made : (vs : List g.row.V.Denot) → length l.keys ≡ length vs
      → map room_for (grouped g.K.Ord.cmp (zip l.keys vs)) ≡ map room_of l.runs.items ++ map room_for (grouped g.K.Ord.cmp (drop l.start (zip l.keys vs)));
}

abbrev pub decreases-loop-start : goal.decreases-loop-start
decreases-loop-start g l = length l.keys - l.start
