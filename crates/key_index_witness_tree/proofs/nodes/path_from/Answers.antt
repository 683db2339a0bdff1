use Rattle.std.proofs.Common.{◌≡◌, ◌<◌, ◌/◌, ◌++◌, ◌∷◌, [], length, ap, ◌∙◌, arith}
use Rattle.key_index_witness.specs.Tree.{climb, halved}
use Rattle.key_index_witness_tree.specs.Heap.{node_at, beside}
use Rattle.key_index_witness_tree.proofs.HeapLemmas.{halved-push, step-up}
use Rattle.key_index_witness_tree.proofs.nodes.path_from.Goals as goal

pub loop-i-preserved : goal.loop-i-preserved
loop-i-preserved c =
    let nodes = c.args.nodes.now in
    let i = c.loop-i.i in
    let before = c.loop-i.path.items in
    let inv = c.loop-i.invariant in
    let test = c.loop-i-test.true in
    let items : c.push.new.self.items ≡ before ++ node_at nodes (beside i) ∷ [] =
    c.in_ok-push.ensures.items ∙ ap (λ b. before ++ node_at nodes b ∷ []) c.beside.ensures in
    let high : i < length nodes = omega (arith, inv.high, c.requires.high) in
    record {
      low = omega (arith, test);
      high = omega (arith, inv.high);
      placed = ap (λ p. halved c.args.place p) items ∙ (halved-push c.args.place before (node_at nodes (beside i)) ∙ ap (λ n. n / 2) inv.placed);
      climbed = ap (λ p. climb c.args.place (node_at nodes c.args.place) p) items
          ∙ step-up nodes c.args.place i before c.requires.heap c.requires.even test high inv.placed inv.climbed;
    }
