use Rattle.std.proofs.Common.{◌≡◌, ℕ, ◌*◌, ◌≤◌, length}
use Rattle.key_index_witness_tree.specs.Heap.{IsHeapBesides, node_at}
use Rattle.key_index_witness_tree.proofs.nodes.raise_marked.Given as goal

abbrev pub invariant-loop-i : goal.invariant-loop-i
invariant-loop-i l = record {
  top : l.i ≤ length l.fn.marks.items;
  size : length l.nodes.items ≡ length l.fn.nodes.items;
  marks : length l.marks.items ≡ length l.fn.marks.items;
  heap : IsHeapBesides l.i l.marks.items l.nodes.items;
  leaves : (i : ℕ) → length l.fn.nodes.items ≤ 2 * i → node_at l.nodes.items i ≡ node_at l.fn.nodes.items i;
}

abbrev pub decreases-loop-i : goal.decreases-loop-i
decreases-loop-i l = l.i
