use Rattle.std.proofs.Common.{◌≡◌, ℕ, length, None, Some, slice_get, slice_index_or, take}
use denote.Param.Always.{always_mut}
use Rattle.std.specs.List.{FoldsTo}
use Rattle.key_index_flat.specs.View.{run_at}
use Rattle.key_index_flat.specs.Visits.{VisitsAt, visits_of}
use Rattle.key_index_parts.specs.Gathered.{pair_cmp}
use Rattle.key_index_parts.specs.Ordered.{view}
use Rattle.key_index_parts.proofs.index.partitioned.ordered.together.show_few.Given as goal

abbrev pub invariant-find : goal.invariant-find
invariant-find g l =
    (length l.runs ≡ 16)
    × ((n : ℕ) (probe : _) (run : _) → slice_get l.probes n ≡ Some probe → slice_index_or l.runs n None ≡ Some run
    → run.now ≡ run_at (pair_cmp g.T.Key.Ord.cmp) (view l.index) probe.0)

abbrev pub invariant-visit : goal.invariant-visit
invariant-visit g l =
    always_mut g.F.FnMut l.visit
    × FoldsTo (VisitsAt g.F.FnMut) l.fn.visit (visits_of (run_at (pair_cmp g.T.Key.Ord.cmp) (view l.index)) (take l.cell l.probes)) l.visit
