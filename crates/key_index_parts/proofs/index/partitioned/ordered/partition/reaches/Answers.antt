use Rattle.std.proofs.Common.{ap, ◌∙◌}
use Rattle.std.specs.Ordering.{is_le}
use Rattle.key_index_parts.proofs.pairs.SearchLemmas.{upper_partitions, Decides-test, Decides-past}
use Rattle.key_index_parts.proofs.index.partitioned.ordered.partition.reaches.Goals as goal

pub returns-then-place-keys : goal.returns-then-place-keys
returns-then-place-keys g c =
    Decides-test (λ x. is_le (g.K.Ord.cmp x c.args.key.now)) c.args.keys.now c.args.place c.index-keys-place.result c.is_le.result
    (upper_partitions g.met.K.Ord.total c.args.keys.now c.args.key.now c.requires) c.if-place-keys.true (c.is_le.ensures ∙ ap is_le c.cmp.ensures ∙ ap (λ x. is_le (g.K.Ord.cmp x c.args.key.now)) c.index-keys-place.is)

pub returns-else-place-keys : goal.returns-else-place-keys
returns-else-place-keys g c = Decides-past (λ x. is_le (g.K.Ord.cmp x c.args.key.now)) c.args.keys.now c.args.place c.if-place-keys.false
