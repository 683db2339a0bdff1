use Rattle.std.proofs.Common.{map}
use denote.Param.Always.{always_mut}
use Rattle.std.specs.List.{FoldsTo}
use Rattle.key_index_flat.specs.Visits.{VisitsAt}
use Rattle.key_index_parts.proofs.index.partitioned.ordered.together.show_list.Given as goal

abbrev pub invariant-loop-value : goal.invariant-loop-value
invariant-loop-value g l =
    always_mut g.F.FnMut l.visit × FoldsTo (VisitsAt g.F.FnMut) l.fn.visit (map (λ v. (l.place, v)) (map (λ value. value.now) l.yielded)) l.visit
