use Rattle.key_index_witness_tree.proofs.LeavesLemmas.{leaves-pushed}
use Rattle.key_index_witness_tree.proofs.nodes.push.Goals as goal

pub returns-clause-ok : goal.returns-clause-ok
returns-clause-ok c =
    let e = c.push_node.ensures in
    leaves-pushed c.push_node.result c.args.nodes.now.items c.push_node.new.nodes.items c.args.digest c.requires.even e.len e.new e.moved e.others
