use Rattle.std.proofs.Common.{◌/◌, ap, ◌∙◌}
use Rattle.std.specs.Prelude.{bit_xor}
use Rattle.key_index_store.proofs.ChecksumLemmas.{next_told}
use Rattle.key_index_store.proofs.checksum.after_next.Goals as goal

pub returns : goal.returns
returns c =
    let mixed = bit_xor c.args.register c.args.byte in
    ap (λ r. bit_xor r (mixed / 256)) c.left_of.ensures ∙ next_told mixed
