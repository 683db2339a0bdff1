use Rattle.std.proofs.Common.{◌≡◌, ◌/◌, length, ap, ◌∙◌, arith}
use Rattle.key_index_witness_tree.specs.Slots.{place_of}
use Rattle.key_index_witness_tree.proofs.LeavesLemmas.{leaves-set, length-leaves}
use Rattle.key_index_witness_tree.proofs.nodes.set.Goals as goal

pub place_of-place-requires-clause-low : goal.place_of-place-requires-clause-low
place_of-place-requires-clause-low c = let size = length-leaves c.args.nodes.now.items in let low = c.requires.slot in let len = c.len.ensures in omega (arith, low, size, len)

pub returns-clause-leaves : goal.returns-clause-leaves
returns-clause-leaves c =
    let old = c.args.nodes.now.items in
    let size = length-leaves old in
    let low = c.requires.slot in
    let len : c.len.result ≡ length old = omega arith in
    leaves-set old c.set_node.new.nodes.items c.args.slot c.place_of-place.result c.args.digest c.requires.tree.even c.set_node.ensures.len (omega (arith, low, size))
    (c.place_of-place.ensures.place ∙ ap (λ l. place_of (l / 2) c.args.slot) len) c.set_node.ensures.set c.set_node.ensures.others
