use Rattle.std.proofs.Common.{sym, ap, ◌∙◌}
use Rattle.std.proofs.lemmas.List.Sums.{fold-append}
use Rattle.std.specs.List.{fold}
use Rattle.std.specs.Prelude.{bit_xor}
use Rattle.key_index_store.specs.Checksum.{after_byte}
use Rattle.key_index_store.proofs.checksum.crc32_of_both.Goals as goal

pub returns : goal.returns
returns c =
    ap (λ r. bit_xor r 0xFFFFFFFF)
    (c.after_all-2.ensures ∙ ap (λ r. fold after_byte r c.args.back.now) c.after_all.ensures ∙ sym (fold-append after_byte 0xFFFFFFFF c.args.front.now c.args.back.now))
