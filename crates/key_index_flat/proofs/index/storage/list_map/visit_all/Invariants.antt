use Rattle.std.proofs.Common.{map, Bor}
use Rattle.std.specs.Fn.{CalledAt}
use denote.Param.Always.{always_mut}
use Rattle.key_index_flat.specs.Storage.{tail_at}
use Rattle.key_index_flat.specs.Values.{VisitsInTurn}
use Rattle.key_index_flat.proofs.content.ValueLemmas.{in_turn}
use Rattle.key_index_flat.proofs.index.storage.list_map.visit_all.Given as goal

-- the closure was called on the values of the entries so far
abbrev pub invariant-loop-pair : goal.invariant-loop-pair
invariant-loop-pair g l =
    VisitsInTurn (CalledAt g.F.FnMut) l.fn.visit (in_turn (tail_at g.E.End.FIRST g.K.PartialEq.eq l.fn.tails.map) (map (λ (x : Bor (g.row.K.Denot × g.row.V.Denot)). x.now) l.yielded)) l.visit
    × always_mut g.F.FnMut l.visit
