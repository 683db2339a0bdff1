use Rattle.std.proofs.Common.{◌+◌, [], ◌∷◌, ◌++◌, take, get_or, sym, ap, ◌∙◌, arith}
use Rattle.std.proofs.lemmas.List.{take_all, take_more, take_more_set}
use Rattle.key_index_witness_tree.specs.Heap.{leaves_of}
use Rattle.key_index_witness_tree.proofs.LeavesLemmas.{length-leaves}
use Rattle.key_index_witness_tree.proofs.nodes.build.Goals as goal

pub loop-slot-preserved : goal.loop-slot-preserved
loop-slot-preserved c =
    let leaves = c.args.leaves.now in
    let i = c.loop-slot.slot in
    let before = leaves_of c.loop-slot.nodes.items in
    let inv = c.loop-slot.invariant in
    let e = c.put.ensures in
    let test = c.loop-slot-test.true in
    let size = inv.size in
    let marked = inv.marks in
    let nodes = e.nodes in
    let marks = e.marks in
    let digest = get_or leaves i [] in
    record {
      size = omega (arith, size, nodes, marks);
      marks = omega (arith, marked, marks);
      heap = e.heap;
      leaves = ap (take (i + 1)) e.leaves
          ∙ (take_more_set before i digest (omega (arith, test, size, marked, length-leaves c.loop-slot.nodes.items))
          ∙ (ap (λ l. l ++ digest ∷ []) inv.leaves ∙ sym (take_more leaves i [] (omega (arith, test)))));
    }

pub returns-clause-leaves : goal.returns-clause-leaves
returns-clause-leaves c =
    let leaves = c.args.leaves.now in
    let i = c.loop-slot.slot in
    let made = leaves_of c.loop-slot.nodes.items in
    let inv = c.loop-slot.invariant in
    let size = inv.size in
    let marked = inv.marks in
    let test = c.loop-slot-test.false in
    c.raise_marked.ensures.leaves
    ∙ (sym (take_all i made (omega (arith, test, size, marked, length-leaves c.loop-slot.nodes.items)))
    ∙ (inv.leaves ∙ take_all i leaves (omega (arith, test))))
