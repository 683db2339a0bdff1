use Rattle.std.proofs.Common.{sym, ◌∙◌}
use Rattle.key_index_parts.proofs.pairs.GroupLemmas.{item_count-grouped}
use Rattle.key_index_parts.proofs.index.partitioned.bucket.sorted_arrays.SortedArrays.len.Goals as goal

pub returns : goal.returns
returns g c = c.len.ensures ∙ sym (item_count-grouped g.met.T.Key.Ord.total c.args.self.now.pairs.pairs)
