use Rattle.std.proofs.Common.{◌≡◌, ◌/◌, length, sym, ap, ◌∙◌, arith}
use Rattle.key_index_witness_tree.proofs.LeavesLemmas.{length-leaves}
use Rattle.key_index_witness_tree.proofs.Leaves.len.Goals as goal

pub returns-clause-len : goal.returns-clause-len
returns-clause-len c =
    let items = c.self.inside.nodes.items in
    let half : c.len.result / 2 ≡ length items / 2 = omega arith in
    half ∙ (sym (length-leaves items) ∙ ap length c.self.view_is)
