use Rattle.std.proofs.Common.{◌≡◌, ◌≤◌}
use Rattle.key_index_witness.specs.Tree.{climb, halved}
use Rattle.key_index_witness_tree.specs.Heap.{node_at}
use Rattle.key_index_witness_tree.proofs.nodes.path_from.Given as goal

abbrev pub invariant-loop-i : goal.invariant-loop-i
invariant-loop-i l = record {
  low : 1 ≤ l.i;
  high : l.i ≤ l.place;
  placed : halved l.place l.path.items ≡ l.i;
  climbed : climb l.place (node_at l.nodes l.place) l.path.items ≡ node_at l.nodes l.i;
}

abbrev pub decreases-loop-i : goal.decreases-loop-i
decreases-loop-i l = l.i
