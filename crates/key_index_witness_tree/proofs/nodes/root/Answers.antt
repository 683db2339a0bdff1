use Rattle.std.proofs.Common.{[], ◌∙◌, arith}
use Rattle.std.proofs.lemmas.List.{get_or_default}
use Rattle.key_index_witness_tree.proofs.LeavesLemmas.{root-digest, root-tree}
use Rattle.key_index_witness_tree.proofs.nodes.root.Goals as goal

pub returns-clause-digest : goal.returns-clause-digest
returns-clause-digest c =
    let some = c.requires.some in
    c.index.ensures ∙ (get_or_default c.args.nodes.now.items 1 _ [] (omega (arith, some)) ∙ root-digest c.args.nodes.now.items c.requires)

pub returns-clause-tree : goal.returns-clause-tree
returns-clause-tree c = λ tree roots.
    let some = c.requires.some in
    c.index.ensures ∙ (get_or_default c.args.nodes.now.items 1 _ [] (omega (arith, some)) ∙ root-tree c.args.nodes.now.items c.requires tree roots)
