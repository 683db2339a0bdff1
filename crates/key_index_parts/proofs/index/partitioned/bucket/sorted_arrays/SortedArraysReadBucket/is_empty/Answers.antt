use Rattle.std.proofs.Common.{◌∙◌}
use Rattle.key_index_parts.proofs.pairs.GroupLemmas.{none_grouped}
use Rattle.key_index_parts.proofs.index.partitioned.bucket.sorted_arrays.SortedArraysReadBucket.is_empty.Goals as goal

pub returns : goal.returns
returns g c =
    c.is_empty.ensures ∙ none_grouped g.met.T.Key.Ord.total c.args.self.now.pairs.pairs
