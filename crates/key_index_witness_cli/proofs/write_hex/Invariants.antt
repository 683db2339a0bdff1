use Rattle.std.proofs.Common.{◌≡◌, ◌++◌, drop}
use Rattle.key_index_witness_cli.specs.Program.{digits_of}
use Rattle.key_index_witness_cli.proofs.write_hex.Given as goal

abbrev pub invariant-loop-i : goal.invariant-loop-i
invariant-loop-i l = l.line.items ++ digits_of (drop l.i l.bytes) ≡ l.initial.line.items ++ digits_of l.bytes
