use Rattle.key_index.specs.Snapshot.{Holds, entries_of}
use Rattle.key_index_parts.specs.Ops.{after_ops}
use Rattle.key_index.proofs.snapshot.ops_of.Given as goal

abbrev pub invariant-loop-key : goal.invariant-loop-key
invariant-loop-key g l =
    Holds g.I.Key.Ord.cmp (entries_of l.yielded) (after_ops g.I.Key.Ord.cmp g.I.Unordered.INSERT_FIRST l.ops.items (g.I.Runs.view l.index))
