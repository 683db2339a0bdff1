use Rattle.std.proofs.Common.{◌≡◌, ◌/◌, ◌<◌, [], length, get_or, sym, ap, ◌∙◌, arith}
use Rattle.key_index_witness.specs.Tree.{climb}
use Rattle.key_index_witness_tree.specs.Slots.{place_of}
use Rattle.key_index_witness_tree.specs.Heap.{leaves_of, node_at}
use Rattle.key_index_witness_tree.proofs.LeavesLemmas.{get-leaves, length-leaves, root-digest}
use Rattle.key_index_witness_tree.proofs.nodes.path.Goals as goal

pub place_of-place-requires-clause-low : goal.place_of-place-requires-clause-low
place_of-place-requires-clause-low c = let size = length-leaves c.args.nodes.now.items in let low = c.requires.slot in let len = c.len.ensures in omega (arith, low, size, len)

pub returns-clause-place : goal.returns-clause-place
returns-clause-place c =
    let len : c.len.result ≡ length c.args.nodes.now.items = omega arith in
    c.place_of-place.ensures.place
    ∙ (ap (λ l. place_of (l / 2) c.args.slot) len ∙ ap (λ n. place_of n c.args.slot) (sym (length-leaves c.args.nodes.now.items)))

pub returns-clause-root : goal.returns-clause-root
returns-clause-root c =
    let nodes = c.args.nodes.now.items in
    let size = length-leaves nodes in
    let low = c.requires.slot in
    let len : c.len.result ≡ length nodes = omega arith in
    let slot-is : c.args.slot < length nodes / 2 = omega (arith, low, size) in
    let leaf : get_or (leaves_of nodes) c.args.slot [] ≡ node_at nodes c.place_of-place.result =
    get-leaves nodes c.args.slot slot-is ∙ ap (node_at nodes) (sym (c.place_of-place.ensures.place ∙ ap (λ l. place_of (l / 2) c.args.slot) len)) in
    let nodes-are : c.as_slice.result.now ≡ nodes = c.as_slice.ensures.value in
    let reached = (λ k. climb c.place_of-place.result (node_at (sym nodes-are k) c.place_of-place.result) c.in_ok-siblings.siblings.items) ∙ (c.in_ok-siblings.ensures.root ∙ ap (λ l. node_at l 1) nodes-are) in
    ap (λ d. climb c.place_of-place.result d c.in_ok-siblings.siblings.items) leaf
    ∙ (reached ∙ root-digest nodes c.requires.tree)
