use Rattle.std.proofs.Common.{arith}
use Rattle.key_index_parts.proofs.buckets.ShiftedLemmas.{items_from}
use Rattle.key_index_parts.proofs.index.partitioned.ordered.RangeIndex+T+V+P.moved.Goals as goal

pub returns-clause-bound : goal.returns-clause-bound
returns-clause-bound g c low =
    let range = c.args.self.now in
    let paid = range.within low in
    let told = c.moved.ensures in
    let same = items_from range.offset range.storage.buckets in
    omega (arith, paid, told.count, told.entries, same)

pub returns-clause-at_most : goal.returns-clause-at_most
returns-clause-at_most g c low =
    let range = c.args.self.now in
    let paid = range.within low in
    let told = c.moved.ensures in
    let same = items_from range.offset range.storage.buckets in
    omega (arith, paid, told.count, told.entries, same)
