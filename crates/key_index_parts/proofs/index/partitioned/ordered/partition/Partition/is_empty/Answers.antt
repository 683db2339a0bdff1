use Rattle.std.proofs.Common.{◌≡◌, ℕ, length, ap, ◌∙◌, arith}
use Rattle.std.specs.Bool.{◌==◌}
use Rattle.std.specs.Vec.{vec_len}
use Rattle.key_index_parts.proofs.pairs.ZipLemmas.{length-zip}
use Rattle.key_index_parts.proofs.index.partitioned.ordered.partition.Partition.is_empty.Goals as goal

pub returns : goal.returns
returns g c =
    let len : vec_len c.self.inside.keys ≡ length c.args.self.now.pairs = omega (arith, length-zip _ _ c.self.invariant.sized, ap (λ s. length s.pairs) c.self.view_is) in
    c.is_empty.ensures ∙ ap (λ (n : ℕ). n == 0) len
