use Rattle.std.proofs.Common.{length, ap, ◌∙◌, arith}
use Rattle.std.proofs.lemmas.List.{length-replicate}
use Rattle.key_index_parts.proofs.bitmap.WordLemmas.{zero_has_no_bit}
use Rattle.key_index_parts.proofs.bitmap.BitmapLemmas.{zeros_have_none, flags_of_none}
use Rattle.key_index_parts.proofs.index.partitioned.bitmap.Bitmap.new.Goals as goal

pub empty_layer-requires-clause-empty : goal.empty_layer-requires-clause-empty
empty_layer-requires-clause-empty c = zero_has_no_bit

pub empty_layer-requires-2-clause-empty : goal.empty_layer-requires-2-clause-empty
empty_layer-requires-2-clause-empty c = λ p. rw c.in_ok-top.ensures (zeros_have_none c.div_ceil.result p)

pub empty_layer-requires-3-clause-empty : goal.empty_layer-requires-3-clause-empty
empty_layer-requires-3-clause-empty c = λ p. rw c.in_ok-upper.ensures (zeros_have_none c.div_ceil-upper.result p)

pub invariant_of-result : goal.invariant_of-result
invariant_of-result c =
    let sized = ap length c.in_ok-places.ensures ∙ length-replicate c.div_ceil-words.result 0 in
    let words = c.div_ceil-words.ensures in record {
      covered = omega arith;
      unused = λ p past. rw c.in_ok-places.ensures (zeros_have_none c.div_ceil-words.result p);
      most = c.requires;
    }

pub returns : goal.returns
returns c =
    flags_of_none c.in_ok-places.places c.args.count (λ p. rw c.in_ok-places.ensures (zeros_have_none c.div_ceil-words.result p))
