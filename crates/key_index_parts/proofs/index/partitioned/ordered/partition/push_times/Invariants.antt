use Rattle.std.proofs.Common.{◌≡◌, ◌≤◌, ◌+◌, ◌++◌, replicate, vec_len}
use Rattle.std.specs.Vec.{vec_capacity}
use Rattle.key_index_parts.proofs.index.partitioned.ordered.partition.push_times.Given as goal

abbrev pub invariant-loop-done : goal.invariant-loop-done
invariant-loop-done g l = record {
  items : l.keys.items ≡ l.initial.keys.items ++ replicate l.done l.initial.key;
  len : vec_len l.keys ≡ vec_len l.initial.keys + l.done;
  room : vec_capacity l.initial.keys ≤ vec_capacity l.keys;
}
