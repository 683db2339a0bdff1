use Rattle.std.proofs.Common.{◌≡◌, ◌*◌, ◌≤◌, ◌++◌, drop, vec_len, vec_capacity}
use Rattle.key_index.specs.Line.{hex_bytes}
use Rattle.key_index.proofs.program.line.decode_hex.Given as goal

-- what is written is the bytes of the first digits, and there is room for those of the others
abbrev pub invariant-loop-i : goal.invariant-loop-i
invariant-loop-i l = record {
  written : l.key.items ++ hex_bytes (drop (2 * l.i) l.word) ≡ hex_bytes l.word;
  count : vec_len l.key ≡ l.i;
  room : vec_capacity l.initial.key ≤ vec_capacity l.key;
}
