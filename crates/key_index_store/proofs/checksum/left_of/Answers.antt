use Rattle.std.proofs.Common.{arith}
use Rattle.key_index_store.proofs.ChecksumLemmas.{left_told}
use Rattle.key_index_store.proofs.checksum.left_of.Goals as goal

pub returns : goal.returns
returns c = left_told c.args.followers c.args.byte c.requires (omega arith)
