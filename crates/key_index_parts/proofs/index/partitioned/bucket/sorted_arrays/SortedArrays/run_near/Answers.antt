use Rattle.std.proofs.Common.{sym, ◌∙◌}
use Rattle.key_index_parts.proofs.pairs.GroupLemmas.{list_at-grouped}
use Rattle.key_index_parts.proofs.index.partitioned.bucket.sorted_arrays.SortedArrays.run_near.Goals as goal

pub returns : goal.returns
returns g c = c.values_near.ensures ∙ sym (list_at-grouped g.met.T.Key.Ord.total c.args.self.now.pairs.pairs c.args.key)
