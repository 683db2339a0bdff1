use Rattle.std.proofs.Common.{◌≡◌, ◌*◌, take, drop}
use Rattle.key_index_witness_cli.specs.Program.{bytes_in}
use Rattle.key_index_witness_cli.proofs.HexLemmas.{prepend}
use Rattle.key_index_witness_cli.proofs.read_hex.Given as goal

abbrev pub invariant-loop-i : goal.invariant-loop-i
invariant-loop-i l = bytes_in l.word ≡ prepend (take l.i l.bytes) (bytes_in (drop (2 * l.i) l.word))
