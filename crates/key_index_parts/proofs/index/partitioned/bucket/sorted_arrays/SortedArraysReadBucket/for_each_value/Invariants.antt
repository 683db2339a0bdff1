use Rattle.std.proofs.Common.{length}
use Rattle.std.specs.Fn.{CalledAt}
use denote.Param.Always.{always_mut}
use Rattle.key_index_flat.specs.Values.{values_of}
use Rattle.key_index_parts.proofs.closures.VisitLemmas.{Continues}
use Rattle.key_index_parts.specs.Pairs.{grouped}
use Rattle.key_index_parts.proofs.index.partitioned.bucket.sorted_arrays.SortedArraysReadBucket.for_each_value.Given as goal

abbrev pub invariant-loop-value : goal.invariant-loop-value
invariant-loop-value g l =
    always_mut g.F.FnMut l.visit
    × Continues (CalledAt g.F.FnMut) l.fn.visit (values_of (grouped g.T.Key.Ord.cmp l.fn.self.pairs.pairs)) l.visit l.rest

abbrev pub decreases-loop-value : goal.decreases-loop-value
decreases-loop-value g l = length l.rest
