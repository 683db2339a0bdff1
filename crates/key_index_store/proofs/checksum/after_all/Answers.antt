use Rattle.std.proofs.Common.{◌/◌, length, ap, ◌∙◌}
use Rattle.std.specs.List.{fold}
use Rattle.std.proofs.lemmas.List.{take_all}
use Rattle.key_index_store.specs.Checksum.{after_byte}
use Rattle.key_index_store.proofs.ChecksumLemmas.{in_chunks_and_rest}
use Rattle.key_index_store.proofs.checksum.after_all.Goals as goal

pub returns : goal.returns
returns c =
    let eights = take_all _ _ c.loop-eight-test.false ∙ c.as_chunks.ensures.front in
    let rest = take_all _ _ c.loop-byte-test.false ∙ c.as_chunks.ensures.back in
    let by_eights = c.loop-eight.invariant ∙ ap (fold (fold after_byte) c.args.register) eights in
    c.loop-byte.invariant ∙ (λ i. fold after_byte (by_eights i) (rest i)) ∙ in_chunks_and_rest (length c.args.bytes.now / 8) c.args.register c.args.bytes.now
