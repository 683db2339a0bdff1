use Rattle.std.proofs.Common.{ℕ, arith, slice_index, refl, ap}
use Rattle.std.specs.Prelude.{codes}
use Rattle.std.proofs.lemmas.Nat.{and_mask}
use Rattle.key_index_witness_cli.proofs.HexLemmas.{write_done, write_step}
use Rattle.key_index_witness_cli.proofs.write_hex.Goals as goal

pub loop-i-preserved : goal.loop-i-preserved
loop-i-preserved c =
    let byte : ℕ = slice_index c.args.bytes.now c.loop-i.i in
    let digit : ℕ → ℕ = slice_index (codes "0123456789abcdef") in
    let step = write_step c.args.bytes.now c.args.line.now.items c.loop-i.line.items c.loop-i.i _ _ (omega arith) refl (ap digit (and_mask byte 4)) c.loop-i.invariant in
    rw c.in_ok-extend_from_slice.ensures.items step

pub returns : goal.returns
returns c = write_done _ _ _ c.loop-i.i (omega arith) c.loop-i.invariant
