use Rattle.std.proofs.Common.{◌+◌, ◌*◌, arith, rules}
use Rattle.key_index.proofs.lines.LineLemmas.{hex_bytes-next, is_hex-at}
use Rattle.key_index.proofs.program.line.decode_hex.Goals as goal

pub hex_digit-requires : goal.hex_digit-requires
hex_digit-requires c = is_hex-at c.args.word.now (2 * c.loop-i.i) c.requires.digits (omega arith)

pub loop-i-preserved : goal.loop-i-preserved
loop-i-preserved c = record {
  written = hex_bytes-next c.args.word.now c.loop-i.key.items _ c.loop-i.i
      (16 * c.hex_digit.result + c.hex_digit-in-loop-i.result)
      (omega arith) c.loop-i.invariant.written (omega arith) (search rules);
  count = search rules;
  room = omega arith;
}
