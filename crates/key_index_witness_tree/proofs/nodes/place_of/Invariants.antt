use Rattle.std.proofs.Common.{◌≡◌, ◌*◌, ◌<◌, ◌≤◌, ◌-◌}
use Rattle.key_index_witness_tree.specs.Slots.{place_from, place_of}
use Rattle.key_index_witness_tree.proofs.nodes.place_of.Given as goal

abbrev pub invariant-loop-place : goal.invariant-loop-place
invariant-loop-place l = record {
  low : 1 ≤ l.place;
  high : l.place < 2 * l.n;
  same : place_from l.n l.n l.place ≡ place_of l.n l.slot;
}

abbrev pub decreases-loop-place : goal.decreases-loop-place
decreases-loop-place l = 2 * l.n - l.place
