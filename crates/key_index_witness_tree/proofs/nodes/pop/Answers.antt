use Rattle.std.proofs.Common.{arith}
use Rattle.key_index_witness_tree.proofs.LeavesLemmas.{leaves-pop}
use Rattle.key_index_witness_tree.proofs.nodes.pop.Goals as goal

pub returns-clause-leaves : goal.returns-clause-leaves
returns-clause-leaves c =
    let size = c.pop_node.ensures.len in
    let even = c.requires.tree.even in
    leaves-pop c.args.nodes.now.items c.pop_node.new.nodes.items (omega (arith, size, even)) size c.pop_node.ensures.moved c.pop_node.ensures.others
