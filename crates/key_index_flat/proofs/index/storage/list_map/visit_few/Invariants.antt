use Rattle.std.proofs.Common.{take}
use Rattle.std.specs.Fn.{CalledAt}
use denote.Param.Always.{always_mut}
use Rattle.key_index_flat.specs.Storage.{tail_at}
use Rattle.key_index_flat.specs.Values.{VisitsInTurn}
use Rattle.key_index_flat.proofs.content.ValueLemmas.{in_turn}
use Rattle.key_index_flat.proofs.index.storage.list_map.visit_few.Given as goal

-- the closure was called on the values of the pairs so far
abbrev pub invariant-loop-key : goal.invariant-loop-key
invariant-loop-key g l =
    VisitsInTurn (CalledAt g.F.FnMut) l.fn.visit (in_turn (tail_at g.E.End.FIRST g.K.PartialEq.eq l.fn.tails.map) (take l.key-index l.heads)) l.visit
    × always_mut g.F.FnMut l.visit
