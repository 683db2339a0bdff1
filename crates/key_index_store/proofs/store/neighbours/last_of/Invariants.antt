use Rattle.std.proofs.Common.{◌≡◌}
use Rattle.std.specs.List.{last_or}
use Rattle.key_index_flat.specs.Neighbours.{last_entry}
use Rattle.key_index_store.proofs.store.neighbours.last_of.Given as goal

-- the last of all is the last of those that are left, or else the one that was last
abbrev pub invariant-loop-position : goal.invariant-loop-position
invariant-loop-position l = last_or l.last l.position-iterator ≡ last_entry l.fn.values
