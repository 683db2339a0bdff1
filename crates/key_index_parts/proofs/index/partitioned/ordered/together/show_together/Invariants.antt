use Rattle.std.proofs.Common.{length}
use denote.Param.Always.{always_mut}
use Rattle.std.specs.List.{FoldsTo}
use Rattle.key_index_flat.specs.View.{run_at}
use Rattle.key_index_flat.specs.Visits.{VisitsAt, visits_of}
use Rattle.key_index_parts.specs.Gathered.{pair_cmp}
use Rattle.key_index_parts.specs.Ordered.{view}
use Rattle.key_index_parts.proofs.index.partitioned.ordered.together.show_together.Given as goal

abbrev pub invariant-few : goal.invariant-few
invariant-few g l =
    let run = run_at (pair_cmp g.T.Key.Ord.cmp) (view l.index) in
    always_mut g.F.FnMut l.visit
    × ((last : _) → FoldsTo (VisitsAt g.F.FnMut) l.visit (visits_of run l.rest) last → FoldsTo (VisitsAt g.F.FnMut) l.fn.visit (visits_of run l.probes) last)

abbrev pub decreases-few : goal.decreases-few
decreases-few g l = length l.rest
