use Rattle.std.proofs.Common.{length, ◌-◌}
use Rattle.key_index_flat.specs.SmallMap.{NoneBefore}
use Rattle.key_index_flat.proofs.index.storage.small_map.place_from.Given as goal

-- no pair so far has the key
abbrev pub invariant-loop-place : goal.invariant-loop-place
invariant-loop-place g l = NoneBefore g.K.PartialEq.eq l.pairs l.place l.key

abbrev pub decreases-loop-place : goal.decreases-loop-place
decreases-loop-place g l = length l.pairs - l.place
