use Rattle.std.proofs.Common.{◌≡◌, ◌-◌, ◌≤◌, ◌++◌, length, reverse}
use Rattle.std.specs.Vec.{vec_capacity}
use Rattle.key_index_parts.proofs.index.partitioned.ordered.partition.split_off.Given as goal

-- what was taken from the end stands in the other vector, the last one first
abbrev pub invariant-values : goal.invariant-values
invariant-values g l = record {
  all : l.values.items ++ reverse l.tail.items ≡ l.initial.values.items;
  least : l.fn.at ≤ length l.values.items;
  room : length l.initial.values.items - l.fn.at ≤ vec_capacity l.tail;
  kept : vec_capacity l.values ≡ vec_capacity l.initial.values;
}

abbrev pub decreases-values : goal.decreases-values
decreases-values g l = length l.values.items
