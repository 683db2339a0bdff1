use Rattle.std.proofs.Common.{◌≡◌, false, map}
use Rattle.key_index_uses.specs.Exclusion.{has_key}
use Rattle.key_index_uses.proofs.callers.has_key.Given as goal

-- none so far has it
abbrev pub invariant-loop-value : goal.invariant-loop-value
invariant-loop-value g l = has_key g.V.Keyed.full_key l.key (map (λ value. value.now) l.yielded) ≡ false
