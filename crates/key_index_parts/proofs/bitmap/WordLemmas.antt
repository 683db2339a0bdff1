-- The places that stand for the bits of a word.
use Rattle.std.proofs.Common.{◌≡◌, ◌≢◌, ℕ, suc, ◌+◌, ◌-◌, ◌*◌, ◌/◌, ◌%◌, ◌^◌, ◌<◌, ◌≤◌, true, false, bit_and, bit_or, w64, eq-eqb, ne_eqb, refl, sym, ap, ◌∙◌, arith, inl, inr}
use Rattle.std.specs.Int.{bit_at, bit_not, trailing_zeros}
use Rattle.std.proofs.lemmas.Bool.{cases_lt, eqb-false, true≢false}
use Rattle.std.proofs.lemmas.Nat.{shr-shr, shr_split, shr_high, shr_le, pow_pos, and_le_l, and_mask, one_shl}
use Rattle.std.proofs.lemmas.Nat.Bits.{bit_at-trailing_zeros, bit_at_above, bit_at-zero, bit_at_cat_low, bit_at_set_same, bit_at_set_other, bit_at_clear_same, bit_at_clear_other, bit_at-lt, same_from_bits_below}
use Rattle.std.proofs.Math.Nat.{pow-suc, mod-lt, mod-eq_of_lt, lt_of_lt_of_le}
use lib.Pow.{pow_mono}
use Rattle.key_index_parts.specs.Bitmap.{IsFirst, IsLast, word_has}

pub has_bit : (word p : ℕ) → bit_at word p ≡ 1 → word_has word p ≡ true
unfolding word_has
has_bit word p on = eq-eqb _ 1 on

pub has_no_bit : (word p : ℕ) → bit_at word p ≡ 0 → word_has word p ≡ false
unfolding word_has
has_no_bit word p off = ne_eqb _ 1 (λ on. omega arith)

pub like_bit : (a b p q : ℕ) → bit_at a p ≡ bit_at b q → word_has a p ≡ word_has b q
unfolding word_has
like_bit a b p q same = rw same refl

pub zero_has_no_bit : (p : ℕ) → word_has 0 p ≡ false
zero_has_no_bit p = has_no_bit 0 p (bit_at-zero p)

pub none_past : (word p : ℕ) → word < 2 ^ 64 → 64 ≤ p → word_has word p ≡ false
none_past word p fits past = has_no_bit word p (bit_at_above word 64 p fits past)

bit_of_rest : (word start p : ℕ) → start ≤ p → bit_at word p ≡ bit_at (word / 2 ^ start) (p - start)
bit_of_rest word start p from =
    let e : start + (p - start) ≡ p = omega arith in
    ap (λ x. x % 2) (sym (shr-shr word start (p - start) ∙ ap (λ k. word / 2 ^ k) e))

pub none_in_rest : (word start p : ℕ) → word / 2 ^ start ≡ 0 → start ≤ p → word_has word p ≡ false
none_in_rest word start p none from =
    has_no_bit word p (bit_of_rest word start p from ∙ ap (λ x. bit_at x (p - start)) none ∙ bit_at-zero (p - start))

fits_shifted : (word start : ℕ) → word < 2 ^ 64 → word / 2 ^ start < 2 ^ 64
fits_shifted word start fits = omega (arith, shr_le word start)

pub lowest_is_first : (word start : ℕ) → word < 2 ^ 64 → (word / 2 ^ start ≡ 0 → ⊥)
    → IsFirst (word_has word) start (start + trailing_zeros w64 (word / 2 ^ start))
lowest_is_first word start fits some =
    let lowest = bit_at-trailing_zeros w64 (word / 2 ^ start) (omega arith) (fits_shifted word start fits) in
    let t : ℕ = trailing_zeros w64 (word / 2 ^ start) in
    let same : start + t - start ≡ t = omega arith in record {
      from = omega arith;
      here = has_bit word (start + t) (bit_of_rest word start (start + t) (omega arith) ∙ ap (bit_at (word / 2 ^ start)) same ∙ lowest.1);
      before = λ p from below. has_no_bit word p (bit_of_rest word start p from ∙ lowest.2 (p - start) (omega arith));
    }

pub within_word : (word p : ℕ) → word < 2 ^ 64 → word_has word p ≡ true → p < 64
within_word word p fits here =
    elim (cases_lt p 64) as (λ _. p < 64) [
      | inl within ↦ within
      | inr past ↦ absurd (true≢false (sym here ∙ none_past word p fits past))
    ]

bit_of_low : (word count p : ℕ) → p < count → bit_at word p ≡ bit_at (word % 2 ^ count) p
bit_of_low word count p below =
    ap (λ x. bit_at x p) (sym (shr_split word count)) ∙ bit_at_cat_low (word / 2 ^ count) count (word % 2 ^ count) p below

pub none_in_low : (word end p : ℕ) → word % 2 ^ end ≡ 0 → p < end → word_has word p ≡ false
none_in_low word end p none below =
    has_no_bit word p (bit_of_low word end p below ∙ ap (λ x. bit_at x p) none ∙ bit_at-zero p)

pub low_bits_by_mask : (word count : ℕ) → count < 64 → bit_and word (1 * 2 ^ count % 2 ^ 64 - 1) ≡ word % 2 ^ count
low_bits_by_mask word count within = ap (λ m. bit_and word (m - 1)) (one_shl count 64 within) ∙ and_mask word count

pub low_bits_are_all : (word count : ℕ) → word < 2 ^ 64 → 64 ≤ count → word ≡ word % 2 ^ count
low_bits_are_all word count fits all =
    let grows : 2 ^ 64 ≤ 2 ^ count = pow_mono all in sym (mod-eq_of_lt (lt_of_lt_of_le fits grows))

highest_bit : (low t : ℕ) → 2 ^ t ≤ low → low < 2 * 2 ^ t → bit_at low t ≡ 1
highest_bit low t least below =
    let split : low ≡ 1 * 2 ^ t + (low - 2 ^ t) = omega arith in
    let one : low / 2 ^ t ≡ 1 = ap (λ x. x / 2 ^ t) split ∙ shr_high 1 t (low - 2 ^ t) (omega arith) in
    ap (λ x. x % 2) one

pub highest_is_last : (word end t : ℕ) → 2 ^ t ≤ word % 2 ^ end → word % 2 ^ end < 2 * 2 ^ t → IsLast (word_has word) end t
highest_is_last word end t least below =
    let fits : word % 2 ^ end < 2 ^ end = mod-lt word (pow_pos end) in
    let within : t < end = elim (cases_lt t end) as (λ _. t < end) [
      | inl less ↦ less
      | inr more ↦ let grows : 2 ^ end ≤ 2 ^ t = pow_mono more in absurd (omega arith)
    ] in record {
      below = within;
      here = has_bit word t (bit_of_low word end t within ∙ highest_bit (word % 2 ^ end) t least below);
      behind = λ p above under. has_no_bit word p (bit_of_low word end p under ∙ bit_at_above (word % 2 ^ end) (suc t) p (omega (arith, pow-suc 2 t)) above);
    }

pub has_set_bit : (word place : ℕ) → place < 64 → word_has (bit_or word (1 * 2 ^ place % 2 ^ 64)) place ≡ true
has_set_bit word place within = has_bit _ place (bit_at_set_same w64 word place within)

pub set_bit_elsewhere : (word place p : ℕ) → place < 64 → p ≢ place → word_has (bit_or word (1 * 2 ^ place % 2 ^ 64)) p ≡ word_has word p
set_bit_elsewhere word place p within apart = like_bit _ word p p (bit_at_set_other w64 word place within p apart)

pub has_cleared_bit : (word place : ℕ) → place < 64 → word_has (bit_and word (bit_not w64 (1 * 2 ^ place % 2 ^ 64))) place ≡ false
has_cleared_bit word place within = has_no_bit _ place (bit_at_clear_same w64 word place within)

pub cleared_bit_elsewhere : (word place p : ℕ) → word < 2 ^ 64 → place < 64 → p ≢ place
    → word_has (bit_and word (bit_not w64 (1 * 2 ^ place % 2 ^ 64))) p ≡ word_has word p
cleared_bit_elsewhere word place p fits within apart =
    elim (cases_lt p 64) as (λ _. word_has (bit_and word (bit_not w64 (1 * 2 ^ place % 2 ^ 64))) p ≡ word_has word p) [
      | inl low ↦ like_bit _ word p p (bit_at_clear_other w64 word place within p low apart)
      | inr past ↦ none_past _ p (omega (arith, and_le_l word (bit_not w64 (1 * 2 ^ place % 2 ^ 64)))) past ∙ sym (none_past word p fits past)
    ]

-- a word whose places are all empty is 0
pub empty_word : (word : ℕ) → word < 2 ^ 64 → ((p : ℕ) → p < 64 → word_has word p ≡ false) → word ≡ 0
unfolding word_has
empty_word word fits none =
    same_from_bits_below 64 word 0 fits (omega arith) (λ p within. omega (arith, eqb-false _ 1 (none p within), bit_at-lt word p, bit_at-zero p))
