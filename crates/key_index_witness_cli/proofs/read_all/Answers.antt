use Rattle.std.proofs.Common.{arith}
use Rattle.key_index_witness_cli.proofs.WholeLemmas.{whole}
use Rattle.key_index_witness_cli.proofs.read_all.Goals as goal

pub returns-in-Ok-2-clause-bytes : goal.returns-in-Ok-2-clause-bytes
returns-in-Ok-2-clause-bytes g c =
    rw c.take.ensures.inner at (whole c.take.result.limit (g.R.Read.remaining c.take.result.inner) c.read_to_end.new.buf.items (rw c.new-bytes.ensures.items at c.in-Ok-2.ensures.bytes) (omega (arith, c.take.ensures.limit, c.len.ensures, c.if-len-gt-LIMIT.false)))
