use Rattle.std.proofs.Common.{arith}
use Rattle.key_index_store.proofs.ChecksumLemmas.{eight_told}
use Rattle.key_index_store.proofs.checksum.after_eight.Goals as goal

pub returns : goal.returns
returns c =
    simp (c.left_of.ensures, c.left_of-2.ensures, c.left_of-3.ensures, c.left_of-4.ensures, c.left_of-5.ensures, c.left_of-6.ensures, c.left_of-7.ensures, c.left_of-8.ensures)
    (eight_told c.args.register c.from_le_bytes.result c.args.bytes.now c.to_le_bytes.result c.told-bytes c.fits-bytes (omega arith) (omega arith) c.from_le_bytes.ensures c.to_le_bytes.ensures)
