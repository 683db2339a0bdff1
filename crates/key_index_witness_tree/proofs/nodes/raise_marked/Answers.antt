use Rattle.std.proofs.Common.{arith}
use Rattle.key_index_witness_tree.proofs.LeavesLemmas.{leaves-same}
use Rattle.key_index_witness_tree.proofs.nodes.raise_marked.Goals as goal

pub returns-clause-leaves : goal.returns-clause-leaves
returns-clause-leaves c =
    let size = c.requires.size in
    leaves-same c.args.nodes.now.items c.loop-i.nodes.items (omega (arith, size)) c.loop-i.invariant.size c.loop-i.invariant.leaves
