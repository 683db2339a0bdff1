use Rattle.std.proofs.Common.{◌≡◌, ◌≤◌, ◌-◌, ◌++◌, length, vec_len}
use Rattle.std.specs.Vec.{vec_capacity}
use Rattle.std.specs.Vec.Iter.{into_iter_items}
use Rattle.key_index_parts.proofs.index.partitioned.ordered.partition.fill.Given as goal

abbrev pub decreases-loop-values : goal.decreases-loop-values
decreases-loop-values g l = l.room - vec_len l.run

abbrev pub invariant-loop-values : goal.invariant-loop-values
invariant-loop-values g l = record {
  moved : l.run.items ++ into_iter_items l.values ≡ into_iter_items l.initial.values;
  upto : length l.run.items ≤ l.room;
  room : l.room ≤ vec_capacity l.run;
}
