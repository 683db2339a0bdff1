use Rattle.std.proofs.Common.{◌≡◌, ◌+◌, ◌-◌, ◌<◌, length, slice_index, nat_le, rules, of_calls, subst, arith}
use Rattle.std.proofs.lemmas.List.Sorted.{IsPartitionedBy-leb, IsPartitionPoint-from_clause}
use Rattle.key_index_parts.proofs.builds.RangeLemmas.{cut_point, cuts_rising}
use Rattle.key_index_parts.proofs.index.partitioned.builds.build.place_among.Goals as goal

pub overflow_sub-result : goal.overflow_sub-result
overflow_sub-result c =
    let cuts = c.args.cuts.now in
    let top = slice_index cuts (length cuts - 1) in
    let said = c.partition_point-above.ensures in
    let parted = IsPartitionedBy-leb (λ x. x) cuts c.args.partition (cuts_rising cuts top c.requires.cuts) in
    let point = IsPartitionPoint-from_clause (λ y. nat_le y c.args.partition) cuts c.partition_point-above.result said.partitioned parted (λ a r f k. search (rules, of_calls)) in
    (cut_point cuts top c.args.partition c.partition_point-above.result c.requires.cuts c.requires.below said.bound point).0

pub returns : goal.returns
returns c =
    let cuts = c.args.cuts.now in
    let top = slice_index cuts (length cuts - 1) in
    let at = c.partition_point-above.result in
    let said = c.partition_point-above.ensures in
    let parted = IsPartitionedBy-leb (λ x. x) cuts c.args.partition (cuts_rising cuts top c.requires.cuts) in
    let point = IsPartitionPoint-from_clause (λ y. nat_le y c.args.partition) cuts at said.partitioned parted (λ a r f k. search (rules, of_calls)) in
    let found = cut_point cuts top c.args.partition at c.requires.cuts c.requires.below said.bound point in
    let from = found.0 in
    let same : at ≡ at - 1 + 1 = omega (arith, from) in
    record {
      within = subst (λ n. n < length cuts) same found.1;
      low = found.2;
      high = subst (λ n. c.args.partition < slice_index cuts n) same found.3;
    }
