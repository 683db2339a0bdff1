use Rattle.key_index_parts.proofs.keys.GroupingLemmas.{flat_compares, partitioned_compares, arrays_compare, partitioned_arrays_compare}
use Rattle.key_index_parts.proofs.index.partitioned.grouping_and_order.Goals as goal

pub returns-clause-flat : goal.returns-clause-flat
returns-clause-flat c = flat_compares

pub returns-clause-partitioned : goal.returns-clause-partitioned
returns-clause-partitioned c = partitioned_compares

pub returns-clause-flat_arrays : goal.returns-clause-flat_arrays
returns-clause-flat_arrays c = arrays_compare

pub returns-clause-partitioned_arrays : goal.returns-clause-partitioned_arrays
returns-clause-partitioned_arrays c = partitioned_arrays_compare
