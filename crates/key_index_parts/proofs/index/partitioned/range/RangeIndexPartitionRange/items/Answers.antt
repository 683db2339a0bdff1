use Rattle.std.proofs.Common.{◌∙◌}
use Rattle.key_index_parts.proofs.buckets.ShiftedLemmas.{items_from}
use Rattle.key_index_parts.proofs.index.partitioned.range.RangeIndexPartitionRange.items.Goals as goal

pub returns : goal.returns
returns g c = c.items.ensures ∙ items_from c.args.self.now.offset c.args.self.now.storage.buckets
