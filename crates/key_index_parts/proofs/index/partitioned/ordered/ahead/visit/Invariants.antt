use Rattle.std.proofs.Common.{map}
use denote.Param.Always.{always_mut}
use Rattle.std.specs.List.{FoldsTo}
use Rattle.key_index_parts.specs.Ahead.{TellsAt, visits_at}
use Rattle.key_index_parts.proofs.index.partitioned.ordered.ahead.visit.Given as goal

abbrev pub invariant-loop-value : goal.invariant-loop-value
invariant-loop-value g l =
    always_mut g.F.FnMut l.on × FoldsTo (TellsAt g.F.FnMut) l.fn.on (visits_at l.place (map (λ value. value.now) l.yielded)) l.on
