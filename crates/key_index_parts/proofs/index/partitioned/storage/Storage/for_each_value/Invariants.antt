use Rattle.std.proofs.Common.{length, map}
use Rattle.std.specs.Fn.{CalledAt}
use Rattle.std.specs.List.{flat_map}
use denote.Param.Always.{always_mut}
use Rattle.key_index_flat.specs.Values.{values_of}
use Rattle.key_index_parts.specs.Gathered.{gathered}
use Rattle.key_index_parts.proofs.closures.VisitLemmas.{Continues}
use Rattle.key_index_parts.proofs.index.partitioned.storage.Storage.for_each_value.Given as goal

abbrev pub invariant-loop-bucket : goal.invariant-loop-bucket
invariant-loop-bucket g l =
    always_mut g.F.FnMut l.visit
    × Continues (CalledAt g.F.FnMut) l.fn.visit (values_of (gathered l.fn.self.buckets)) l.visit (flat_map values_of (map g.X.Contents.content l.rest))

abbrev pub decreases-loop-bucket : goal.decreases-loop-bucket
decreases-loop-bucket g l = length l.rest
