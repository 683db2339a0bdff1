use Rattle.std.proofs.Common.{◌≤◌}
use Rattle.key_index_flat.specs.Places.{AreHidden}
use Rattle.key_index_flat.specs.View.{run_of}
use Rattle.key_index_flat.proofs.index.places.first_read.Given as goal

-- those that were passed are hidden
abbrev pub invariant-loop-place : goal.invariant-loop-place
invariant-loop-place g l = record {
  above : l.from ≤ l.place;
  reads : g.C.Compare.reads l.fn.records l.records;
  passed : AreHidden (g.C.Compare.hides l.records) (run_of g.I.Key.Ord.cmp (g.I.Runs.view l.fn.index) l.key) l.from l.place;
}
