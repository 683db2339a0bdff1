use Rattle.std.proofs.Common.{◌∷◌, ◌++◌, [], ap, ◌∙◌, arith}
use Rattle.key_index_parts.proofs.buckets.SpreadLemmas.{replicate-more}
use Rattle.key_index_parts.proofs.index.partitioned.ordered.partition.push_times.Goals as goal

pub loop-done-preserved : goal.loop-done-preserved
loop-done-preserved g c =
    record {
      items = c.in-Ok.ensures.items ∙ ap (λ l. l ++ c.args.key ∷ []) c.loop-done.invariant.items ∙ replicate-more _ _ _;
      len = omega (arith, c.in-Ok.ensures.len, c.loop-done.invariant.len);
      room = omega (arith, c.in-Ok.ensures.capacity, c.loop-done.invariant.room);
    }
