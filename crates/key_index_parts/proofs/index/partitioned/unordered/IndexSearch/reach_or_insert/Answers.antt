use Rattle.std.proofs.Common.{length, ap, ◌∙◌}
use Rattle.key_index_parts.specs.Buckets.{held_at}
use Rattle.key_index_parts.proofs.index.partitioned.unordered.IndexSearch.reach_or_insert.Goals as goal

pub returns-clause-reached : goal.returns-clause-reached
returns-clause-reached g c =
    let at = c.slot_of-slot.ensures in
    (at, c.in_ok-len.ensures.len ∙ ap (λ s. length (held_at g.T.Key.Ord.cmp c.args.self.now.storage.buckets s)) at)
