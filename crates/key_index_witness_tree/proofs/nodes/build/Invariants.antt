use Rattle.std.proofs.Common.{◌≡◌, ◌*◌, take, length}
use Rattle.key_index_witness_tree.specs.Heap.{IsHeapBesides, leaves_of}
use Rattle.key_index_witness_tree.proofs.nodes.build.Given as goal

abbrev pub invariant-loop-slot : goal.invariant-loop-slot
invariant-loop-slot l = record {
  size : length l.nodes.items ≡ 2 * length l.marks.items;
  marks : length l.marks.items ≡ length l.leaves;
  heap : IsHeapBesides (length l.marks.items) l.marks.items l.nodes.items;
  leaves : take l.slot (leaves_of l.nodes.items) ≡ take l.slot l.leaves;
}
