use Rattle.std.proofs.Common.{◌≢◌, ℕ, ◌<◌, List, Bool, not, eqb, map, get_or, w8, sym, ap, subst, ◌∙◌, arith}
use Rattle.std.proofs.lemmas.Bool.{not-true, eq-eqb}
use Rattle.std.proofs.lemmas.Simd.{bitmask_splat, leading_from_mask_l, trailing_mask_l}
use Rattle.std.proofs.lemmas.List.Sums.{prefix_len_passes, prefix_len-le-length}
use Rattle.std.specs.List.{prefix_len}
use lib.Lanes.{mask_l}
use lib.Count.{count_trailing_zeros}
use Rattle.key_index_flat.proofs.index.storage.small_map.first_tagged.Goals as goal

abbrev other : ℕ → ℕ → Bool
other tag x = not (eqb x tag)

apart : (tags : List ℕ) (tag : ℕ) (k : ℕ) → k < prefix_len (other tag) tags → get_or tags k 0 ≢ tag
apart tags tag k below same =
    let is = prefix_len_passes (other tag) tags k 0 below in
    let no = not-true _ is in
    let yes = eq-eqb (get_or tags k 0) tag same in
    cc

pub returns-then-same-eq0 : goal.returns-then-same-eq0
returns-then-same-eq0 c =
    let tags = c.args.tags.now in
    let mask = sym (bitmask_splat w8 eqb tags 16 c.args.tag c.told-tags (omega arith)) ∙ c.if-same-eq0.true in
    let len = leading_from_mask_l (λ x. eqb x c.args.tag) tags mask in
    record { within = omega arith; before = λ k below same. apart tags c.args.tag k (omega (arith, len, c.told-tags)) same }

pub returns-else-same-eq0 : goal.returns-else-same-eq0
returns-else-same-eq0 c =
    let tags = c.args.tags.now in
    let is = bitmask_splat w8 eqb tags 16 c.args.tag c.told-tags (omega arith) in
    let some : 0 < mask_l (map (λ x. eqb x c.args.tag) tags) = omega (arith, is, c.if-same-eq0.false) in
    let first = ap (count_trailing_zeros 64) is ∙ trailing_mask_l (λ x. eqb x c.args.tag) 64 tags (omega (arith, c.told-tags)) some in
    record {
      within = omega (arith, first, c.told-tags, prefix_len-le-length (other c.args.tag) tags);
      before = λ k below same. apart tags c.args.tag k (subst (λ n. k < n) first below) same;
    }
