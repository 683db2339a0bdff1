use Rattle.std.proofs.Common.{◌∙◌}
use Rattle.key_index_parts.proofs.buckets.ShiftedLemmas.{keys_from}
use Rattle.key_index_parts.proofs.index.partitioned.range.RangeIndexPartitionRange.keys.Goals as goal

pub returns : goal.returns
returns g c = c.keys.ensures ∙ keys_from c.args.self.now.offset c.args.self.now.storage.buckets
