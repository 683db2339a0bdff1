use Rattle.std.proofs.Common.{arith}
use Rattle.key_index_parts.proofs.index.partitioned.ordered.Index.moved.Goals as goal

pub returns-clause-bound : goal.returns-clause-bound
returns-clause-bound g c low =
    let told = c.moved.ensures in
    let paid = told.bound low in
    omega (arith, paid, told.count, told.entries)

pub returns-clause-at_most : goal.returns-clause-at_most
returns-clause-at_most g c low =
    let told = c.moved.ensures in
    let paid = told.bound low in
    omega (arith, paid, told.count, told.entries)
