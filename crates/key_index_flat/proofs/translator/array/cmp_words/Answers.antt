use Rattle.std.proofs.Common.{◌∙◌, ◌<◌, nat_cmp, arith}
use Rattle.std.proofs.lemmas.List.Elements.{All-from_get_or}
use Rattle.key_index_flat.specs.laws.CapOrder.{cap_cmp, padded-cmp}
use Rattle.key_index_flat.proofs.translator.array.cmp_words.Goals as goal

pub returns : goal.returns
returns c =
    let left = All-from_get_or (λ n. n < 256) c.args.left.now 0 (λ i within. omega (arith, c.type_inv.left i)) in
    let right = All-from_get_or (λ n. n < 256) c.args.right.now 0 (λ i within. omega (arith, c.type_inv.right i)) in
    c.cmp.ensures ∙ (λ i. nat_cmp (c.word-left.ensures i) (c.word-right.ensures i)) ∙ cap_cmp 8 c.args.left.now c.args.right.now left right
    ∙ padded-cmp 8 c.args.left.now c.args.right.now c.requires.alike c.requires.short
