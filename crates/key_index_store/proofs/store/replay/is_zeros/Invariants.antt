use Rattle.std.proofs.Common.{◌≡◌, drop}
use Rattle.key_index_store.specs.Stored.{is_zeros}
use Rattle.key_index_store.proofs.store.replay.is_zeros.Given as goal

-- zeros so far
abbrev pub invariant-loop-byte : goal.invariant-loop-byte
invariant-loop-byte l = is_zeros l.bytes ≡ is_zeros (drop l.byte-index l.bytes)
