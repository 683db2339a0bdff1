use Rattle.std.proofs.Common.{IsPermutation, subst, sym, ◌∙◌}
use Rattle.key_index_parts.proofs.closures.VisitLemmas.{values-gathered}
use Rattle.key_index_parts.proofs.index.partitioned.range.RangeIndexPartitionRange.for_each_value.Goals as goal

pub returns : goal.returns
returns g c =
    let range = c.args.self.now in
    let said = c.for_each_value.ensures in
    (c.for_each_value.new.visit, (said.0, subst (λ l. IsPermutation l said.0) (values-gathered 0 range.storage.buckets ∙ sym (values-gathered range.offset range.storage.buckets)) said.1, said.2))
