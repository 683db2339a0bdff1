use Rattle.std.proofs.Common.{◌-◌, ◌≤◌, length}
use Rattle.key_index_flat.specs.FullKeys.{AsRead}
use Rattle.key_index_flat.specs.Places.{IsInOrder}
use Rattle.key_index_flat.specs.View.{run_of}
use Rattle.key_index_flat.proofs.neighbours.PlaceLemmas.{Searched}
use Rattle.key_index_flat.proofs.index.places.find_place.Given as goal

-- where the list is in order, the key's place is not in front of low, nor behind high, but for hidden values
abbrev pub invariant-loop-low : goal.invariant-loop-low
invariant-loop-low g l = record {
  above : l.low ≤ l.high;
  within : l.high ≤ length (run_of g.I.Key.Ord.cmp (g.I.Runs.view l.fn.index) l.key);
  reads : g.C.Compare.reads l.fn.records l.records;
  place : AsRead (g.C.Compare.agrees l.records) (λ keys. IsInOrder keys (run_of g.I.Key.Ord.cmp (g.I.Runs.view l.fn.index) l.key)
      → Searched (g.C.Compare.hides l.records) keys l.key (run_of g.I.Key.Ord.cmp (g.I.Runs.view l.fn.index) l.key) l.low l.high l.is_hidden);
}

abbrev pub decreases-loop-low : goal.decreases-loop-low
decreases-loop-low g l = l.high - l.low
