use Rattle.std.proofs.Common.{◌≡◌, ◌++◌, List, length}
use Rattle.std.specs.Vec.Iter.{into_iter_items, into_iter_len}
use Rattle.key_index_parts.specs.Ops.{AreBelow}
use Rattle.key_index_parts.specs.Ranges.{AreFilled, number_of}
use Rattle.key_index_parts.specs.declared.index.partitioned.builds.op.Op.{Op}
use Rattle.key_index_parts.proofs.index.partitioned.builds.build.fill_all.Given as goal

abbrev pub invariant-ops : goal.invariant-ops
invariant-ops g l = record {
  known : into_iter_len l.rest ≡ length (into_iter_items l.rest);
  done : List (Op g.row.I-Value.Denot);
  split : done ++ into_iter_items l.rest ≡ l.fn.ops.items;
  filled : AreFilled g.I.Key.Ord.cmp g.I.Unordered.INSERT_FIRST g.I.Range.Runs.view (g.I.Runs.view l.index).slot g.I.Partitioned.partition done l.cuts l.ranges;
  below : AreBelow (number_of g.I.Partitioned.partition (g.I.Runs.view l.index).slot) g.I.Partitioned.partitions done;
}

abbrev pub decreases-ops : goal.decreases-ops
decreases-ops g l = into_iter_len l.rest
