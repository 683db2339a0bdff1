use Rattle.std.proofs.Common.{arith}
use Rattle.std.proofs.lemmas.Option.{IfSome_then}
use Rattle.key_index_witness.proofs.ReadLemmas.{written_by, read_by}
use Rattle.key_index_witness.proofs.bytes.decode.Goals as goal

pub returns-clause-written : goal.returns-clause-written
returns-clause-written c =
    IfSome_then c.witness_of.result (written_by c.args.bytes.now c.witness_of.result (λ i. omega (arith, c.type_inv.bytes i)) c.witness_of.ensures) (λ w h. h.0)

pub returns-clause-sizes : goal.returns-clause-sizes
returns-clause-sizes c =
    IfSome_then c.witness_of.result (written_by c.args.bytes.now c.witness_of.result (λ i. omega (arith, c.type_inv.bytes i)) c.witness_of.ensures) (λ w h. h.1)

pub returns-clause-read : goal.returns-clause-read
returns-clause-read c = read_by c.args.bytes.now c.witness_of.result c.witness_of.ensures
