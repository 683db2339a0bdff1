use Rattle.std.proofs.Common.{rules}
use Rattle.std.proofs.lemmas.List.Sorted.{IsPartitionPoint-from_clause}
use Rattle.std.specs.Ordering.{is_lt}
use Rattle.key_index_parts.proofs.pairs.SearchLemmas.{length-filter-point, lower_partitions}
use Rattle.key_index_parts.proofs.index.partitioned.ordered.partition.lower_bound.Goals as goal

pub returns-clause-count : goal.returns-clause-count
returns-clause-count g c =
    let sorted = lower_partitions g.met.K.Ord.total c.args.keys.now c.args.key.now c.requires in
    length-filter-point (λ k. is_lt (g.K.Ord.cmp k c.args.key.now)) _ _ c.front_len.ensures.bound
    (IsPartitionPoint-from_clause (λ k. is_lt (g.K.Ord.cmp k c.args.key.now)) _ _ c.front_len.ensures.partitioned sorted (λ a r f' k. search rules))
