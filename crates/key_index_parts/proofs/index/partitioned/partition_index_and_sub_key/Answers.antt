use Rattle.std.proofs.Common.{rules, ◌≡◌, ◌<◌, get_or, arith}
use Rattle.std.proofs.lemmas.List.Elements.{All-from_get_or}
use Rattle.key_index_flat.specs.laws.ByteOrder.{cap_number-below}
use Rattle.key_index_parts.proofs.keys.PrefixLemmas.{cap_number-more, fits_three}
use Rattle.key_index_parts.proofs.index.partitioned.partition_index_and_sub_key.Goals as goal

pub overflow_mul-index : goal.overflow_mul-index
overflow_mul-index g c =
    let below = cap_number-below c.loop-place.place c.args.key.now (All-from_get_or (λ n. n < 256) c.args.key.now 0 (λ i within. omega (arith, c.type_inv.key i))) in
    let small = fits_three c.loop-place.index c.loop-place.place (omega (arith, below, c.loop-place.invariant)) (omega (arith, c.requires.greatest, c.loop-place-test.true)) in
    omega (arith, small)

pub overflow_add-index : goal.overflow_add-index
overflow_add-index g c =
    let below = cap_number-below c.loop-place.place c.args.key.now (All-from_get_or (λ n. n < 256) c.args.key.now 0 (λ i within. omega (arith, c.type_inv.key i))) in
    let small = fits_three c.loop-place.index c.loop-place.place (omega (arith, below, c.loop-place.invariant)) (omega (arith, c.requires.greatest, c.loop-place-test.true)) in
    omega (arith, small, c.from.ensures, c.unwrap_or-byte.type_inv)

pub loop-place-preserved : goal.loop-place-preserved
loop-place-preserved g c =
    let byte : c.unwrap_or-byte.result ≡ get_or c.args.key.now c.loop-place.place 0 = search rules in
    let more = cap_number-more c.loop-place.place c.args.key.now in
    omega (arith, more, byte, c.from.ensures, c.loop-place.invariant)
