use Rattle.std.proofs.Common.{ℕ, List, ◌<◌, [], take, length, get_or, sym, ap, ◌∙◌, arith}
use Rattle.std.specs.Prelude.{slice_set}
use Rattle.std.proofs.lemmas.List.{take_more}
use Rattle.std.proofs.lemmas.List.Elements.{All-get_or}
use Rattle.key_index_witness_tree.specs.Heap.{leaves_of, set_all}
use Rattle.key_index_witness_tree.proofs.LeavesLemmas.{length-leaves, set_all-push}
use Rattle.key_index_witness_tree.proofs.nodes.update.Goals as goal

pub put-requires-clause-slot : goal.put-requires-clause-slot
put-requires-clause-slot c =
    let changes = c.args.changes.now in
    let i = c.loop-slot.slot-index in
    let leaves = leaves_of c.args.nodes.now.items in
    let test = c.loop-slot-test.true in
    let low : (get_or changes i (0, [])).0 < length leaves =
    All-get_or (λ (x : ℕ × List ℕ). x.0 < length leaves) changes i (0, []) (omega (arith, test)) c.requires.slots in
    let inv = c.loop-slot.invariant in
    let size = inv.size in
    let same = inv.same in
    omega (arith, low, size, same, length-leaves c.args.nodes.now.items)

pub loop-slot-preserved : goal.loop-slot-preserved
loop-slot-preserved c =
    let changes = c.args.changes.now in
    let i = c.loop-slot.slot-index in
    let x = get_or changes i (0, []) in
    let leaves = leaves_of c.args.nodes.now.items in
    let inv = c.loop-slot.invariant in
    let e = c.put.ensures in
    let test = c.loop-slot-test.true in
    let size = inv.size in
    let same = inv.same in
    let nodes = e.nodes in
    let marks = e.marks in
    record {
      size = omega (arith, size, nodes, marks);
      same = omega (arith, same, nodes);
      heap = e.heap;
      leaves = e.leaves ∙ (ap (λ l. slice_set l x.0 x.1) inv.leaves
          ∙ sym (ap (set_all leaves) (take_more changes i (0, []) (omega (arith, test))) ∙ set_all-push leaves (take i changes) x));
    }
