use Rattle.std.proofs.Common.{length, ◌-◌}
use Rattle.key_index_flat.specs.SmallMap.{NoneBefore}
use Rattle.key_index_flat.proofs.index.storage.small_map.held_place_from.Given as goal

-- no pair so far has the key
abbrev pub invariant-loop-held : goal.invariant-loop-held
invariant-loop-held g l = NoneBefore g.K.PartialEq.eq l.pairs l.held l.key

abbrev pub decreases-loop-held : goal.decreases-loop-held
decreases-loop-held g l = length l.pairs - l.held
