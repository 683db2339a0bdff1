use Rattle.std.proofs.Common.{◌+◌, length, sym, ap, ◌∙◌}
use Rattle.key_index_parts.specs.Joined.{is_between}
use Rattle.key_index_parts.proofs.index.partitioned.range.RangeIndexPartitionRange.holds.Goals as goal

pub returns : goal.returns
returns g c =
    let range = c.args.self.now in
    let same = c.covers.ensures ∙ ap (λ n. is_between range.offset (range.offset + length range.storage.buckets) n) c.partition_index_and_sub_key-partition.ensures.index in
    (λ t. sym same ∙ t, λ t. same ∙ t)
