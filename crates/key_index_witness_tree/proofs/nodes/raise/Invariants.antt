use Rattle.std.proofs.Common.{◌≡◌, ℕ, ◌*◌, ◌/◌, ◌≤◌, length}
use Rattle.key_index_witness_tree.specs.Heap.{IsHeapBut, node_at}
use Rattle.key_index_witness_tree.proofs.nodes.raise.Given as goal

abbrev pub invariant-loop-i : goal.invariant-loop-i
invariant-loop-i l = record {
  low : 1 ≤ l.i;
  high : l.i ≤ l.fn.place;
  size : length l.nodes ≡ length l.fn.nodes;
  heap : IsHeapBut (l.i / 2) l.nodes;
  leaves : (i : ℕ) → length l.fn.nodes ≤ 2 * i → node_at l.nodes i ≡ node_at l.fn.nodes i;
}

abbrev pub decreases-loop-i : goal.decreases-loop-i
decreases-loop-i l = l.i
