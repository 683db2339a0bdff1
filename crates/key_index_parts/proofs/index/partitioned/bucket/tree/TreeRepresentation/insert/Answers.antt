use Rattle.std.proofs.Common.{[], ◌∷◌, length-append, arith}
use Rattle.key_index_flat.specs.Content.{list_at}
use Rattle.key_index_flat.proofs.closures.KeptLemmas.{IsCounted-with_list}
use Rattle.key_index_parts.proofs.index.partitioned.bucket.tree.TreeRepresentation.insert.Goals as goal

pub invariant_of-self-2 : goal.invariant_of-self-2
invariant_of-self-2 g c =
    let more = length-append (list_at g.T.Key.Ord.cmp c.args.self.now.lists.content c.args.key) (c.args.value ∷ []) in
    record { counted = IsCounted-with_list g.met.T.Key.Ord.total _ _ _ _ _ _ c.args.self.now.counted c.in_ok-absent.ensures.accepted (omega (arith, more)) }
