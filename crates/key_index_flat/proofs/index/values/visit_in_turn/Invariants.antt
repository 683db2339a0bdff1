use Rattle.std.proofs.Common.{map}
use Rattle.std.specs.Fn.{CalledAt}
use denote.Param.Always.{always_mut}
use Rattle.key_index_flat.specs.Values.{VisitsInTurn}
use Rattle.key_index_flat.proofs.index.values.visit_in_turn.Given as goal

-- the closure was called on the values so far
abbrev pub invariant-loop-value : goal.invariant-loop-value
invariant-loop-value g l =
    VisitsInTurn (CalledAt g.F.FnMut) l.fn.visit (map (λ value. value.now) l.yielded) l.visit × always_mut g.F.FnMut l.visit
