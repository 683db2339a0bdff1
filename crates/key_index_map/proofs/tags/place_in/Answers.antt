use Rattle.std.proofs.Common.{◌<◌, not, eqb, map, get_or, w8, sym, ap, ◌∙◌, arith}
use Rattle.std.proofs.lemmas.Bool.{eqb-true, not-false}
use Rattle.std.proofs.lemmas.List.Sums.{prefix_len_stops}
use Rattle.std.proofs.lemmas.Simd.{bitmask_splat, leading_from_mask_l, trailing_mask_l}
use lib.Count.{count_trailing_zeros}
use lib.Lanes.{mask_l}
use Rattle.key_index_map.proofs.Lanes.{lowest, apart}
use Rattle.key_index_map.proofs.tags.place_in.Goals as goal

pub returns-then-same-eq0-clause-none : goal.returns-then-same-eq0-clause-none
returns-then-same-eq0-clause-none c =
    let tags = c.args.group.now in
    let mask = sym (bitmask_splat w8 eqb tags 16 c.args.tag c.told-group (omega arith)) ∙ c.if-same-eq0.true in
    let len = leading_from_mask_l (λ x. eqb x c.args.tag) tags mask in
    λ place below. apart tags c.args.tag place (omega (arith, len, c.told-group, below))

pub returns-clause-found : goal.returns-clause-found
returns-clause-found c =
    let tags = c.args.group.now in
    let tag = c.args.tag in
    let is = bitmask_splat w8 eqb tags 16 tag c.told-group (omega arith) in
    let some : 0 < mask_l (map (λ x. eqb x tag) tags) = omega (arith, is, c.if-same-eq0.false) in
    let first = ap (count_trailing_zeros 64) is ∙ trailing_mask_l (λ x. eqb x tag) 64 tags (omega (arith, c.told-group)) some in
    let below = lowest (λ x. eqb x tag) tags some in (
      omega (arith, first, below, c.told-group),
      ap (λ n. get_or tags n 0) first ∙ eqb-true _ tag (not-false _ (prefix_len_stops (λ x. not (eqb x tag)) tags 0 below)),
    )
