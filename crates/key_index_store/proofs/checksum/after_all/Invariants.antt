use Rattle.std.proofs.Common.{◌≡◌, take}
use Rattle.std.specs.List.{fold}
use Rattle.key_index_store.specs.Checksum.{after_byte}
use Rattle.key_index_store.proofs.checksum.after_all.Given as goal

abbrev pub invariant-loop-eight : goal.invariant-loop-eight
invariant-loop-eight l = l.register ≡ fold (fold after_byte) l.fn.register (take l.eight-index l.eights)

abbrev pub invariant-loop-byte : goal.invariant-loop-byte
invariant-loop-byte l = l.register ≡ fold after_byte l.initial.register (take l.byte-index l.rest)
