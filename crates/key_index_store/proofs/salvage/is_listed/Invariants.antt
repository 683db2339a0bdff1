use Rattle.std.proofs.Common.{◌≡◌}
use Rattle.key_index_store.specs.Salvage.{is_listed}
use Rattle.key_index_store.proofs.salvage.is_listed.Given as goal

-- it stands in the list where it stands among those that are left
abbrev pub invariant-loop-position : goal.invariant-loop-position
invariant-loop-position l = is_listed l.place l.fn.positions ≡ is_listed l.place l.position-iterator
