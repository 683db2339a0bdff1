use Rattle.std.proofs.Common.{◌≡◌, ◌*◌, take, length}
use Rattle.key_index_witness_tree.specs.Heap.{IsHeapBesides, leaves_of, set_all}
use Rattle.key_index_witness_tree.proofs.nodes.update.Given as goal

abbrev pub invariant-loop-slot : goal.invariant-loop-slot
invariant-loop-slot l = record {
  size : length l.nodes.items ≡ 2 * length l.marks.items;
  same : length l.nodes.items ≡ length l.fn.nodes.items;
  heap : IsHeapBesides (length l.marks.items) l.marks.items l.nodes.items;
  leaves : leaves_of l.nodes.items ≡ set_all (leaves_of l.fn.nodes.items) (take l.slot-index l.changes);
}
