-- The places that stand for the bits of words, under a summary of which words have one.
use Rattle.std.proofs.Common.{◌≡◌, ◌≢◌, ℕ, zero, ◌+◌, ◌*◌, ◌/◌, ◌%◌, ◌^◌, ◌<◌, ◌≤◌, Bool, true, false, not, List, length, replicate, get_or, slice_index, slice_set, refl, sym, ap, ◌∙◌, arith, inl, inr, ◌==◌}
use Rattle.std.proofs.lemmas.Bool.{cases_lt, cases_eq, true≢false, eqb-true, not-false}
use Rattle.std.proofs.lemmas.List.{get_or-set_same, get_or-set_other, get_or-replicate, get_or_past, length-replicate}
use Rattle.std.proofs.lemmas.List.FromFn.{length-map-range_with_len, get_or-map-range_with_len, fill_by_all}
use Rattle.std.proofs.Math.ListN.{length-set}
use Rattle.key_index_parts.specs.Bitmap.{IsFirst, IsLast, word_has, words_have, flags_of, flag_at}
use Rattle.key_index_parts.proofs.bitmap.WordLemmas.{zero_has_no_bit, empty_word}

in_word : (words : List ℕ) (p place : ℕ) → p / 64 ≡ place → words_have words p ≡ word_has (slice_index words place) (p % 64)
unfolding words_have
in_word words p place e = ap (λ j. word_has (slice_index words j) (p % 64)) e

pub words_have-place : (words : List ℕ) (place within : ℕ) → within < 64
    → words_have words (place * 64 + within) ≡ word_has (slice_index words place) within
words_have-place words place within low =
    let high : (place * 64 + within) / 64 ≡ place = omega arith in
    let rest : (place * 64 + within) % 64 ≡ within = omega arith in
    in_word words _ place high ∙ ap (word_has (slice_index words place)) rest

in_empty_word : (words : List ℕ) (p : ℕ) → slice_index words (p / 64) ≡ 0 → words_have words p ≡ false
in_empty_word words p none = in_word words p (p / 64) refl ∙ ap (λ w. word_has w (p % 64)) none ∙ zero_has_no_bit (p % 64)

-- a word that was read from the same words
pub word_read : (place : ℕ) {read words : List ℕ} → read ≡ words → {word : ℕ} → word ≡ slice_index read place → word ≡ slice_index words place
word_read place same at = at ∙ ap (λ ws. slice_index ws place) same

pub has_within : (words : List ℕ) (p : ℕ) → words_have words p ≡ true → p < length words * 64
has_within words p here =
    elim (cases_lt (p / 64) (length words)) as (λ _. p < length words * 64) [
      | inl within ↦ omega arith
      | inr past ↦ absurd (true≢false (sym here ∙ in_empty_word words p (get_or_past words (p / 64) 0 past)))
    ]

module _ (words : List ℕ) (summary : ℕ → Bool) (exact : (place : ℕ) → summary place ≡ not (slice_index words place == 0)) where
  words_have-summary_unset : (p : ℕ) → summary (p / 64) ≡ false → words_have words p ≡ false
  words_have-summary_unset p none =
      in_empty_word words p (eqb-true (slice_index words (p / 64)) 0 (not-false _ (sym (exact (p / 64)) ∙ none)))

  -- and has a bit
  pub summed_has_one : (place word : ℕ) → summary place ≡ true → word ≡ slice_index words place → word < 2 ^ 64
      → ((p : ℕ) → p < 64 → word_has word p ≡ false) → ⊥
  summed_has_one place word some is fits none =
      true≢false (sym some ∙ exact place ∙ ap (λ w. not (w == 0)) (sym is ∙ empty_word word fits none))

  module _ (start word : ℕ) (is : word ≡ slice_index words (start / 64)) where
    pub first_in_word : (within : ℕ) → within < 64 → IsFirst (word_has word) (start % 64) within
        → IsFirst (words_have words) start (start / 64 * 64 + within)
    first_in_word within low first =
        let from = first.from in record {
          from = omega arith;
          here = words_have-place words (start / 64) within low ∙ ap (λ w. word_has w within) (sym is) ∙ first.here;
          before = λ p least below.
              let e : p / 64 ≡ start / 64 = omega arith in
              in_word words p (start / 64) e ∙ ap (λ w. word_has w (p % 64)) (sym is) ∙ first.before (p % 64) (omega arith) (omega arith);
        }

    module _ (none : (p : ℕ) → start % 64 ≤ p → word_has word p ≡ false) where
      words_have-from_start : (p : ℕ) → (start / 64 + 1 ≤ p / 64 → summary (p / 64) ≡ false) → start ≤ p → words_have words p ≡ false
      words_have-from_start p empty least =
          elim (cases_eq (p / 64) (start / 64)) as (λ _. words_have words p ≡ false) [
            | inl e ↦ in_word words p (start / 64) e ∙ ap (λ w. word_has w (p % 64)) (sym is) ∙ none (p % 64) (omega arith)
            | inr apart ↦ words_have-summary_unset p (empty (omega arith))
          ]

      pub first_in_next : (place other within : ℕ) → within < 64 → other ≡ slice_index words place
          → IsFirst summary (start / 64 + 1) place → IsFirst (word_has other) 0 within
          → IsFirst (words_have words) start (place * 64 + within)
      first_in_next place other within low is_other above first =
          let from = above.from in record {
            from = omega arith;
            here = words_have-place words place within low ∙ ap (λ w. word_has w within) (sym is_other) ∙ first.here;
            before = λ p least below.
                elim (cases_eq (p / 64) place) as (λ _. words_have words p ≡ false) [
                  | inl e ↦ in_word words p place e ∙ ap (λ w. word_has w (p % 64)) (sym is_other) ∙ first.before (p % 64) (omega arith) (omega arith)
                  | inr apart ↦ words_have-from_start p (λ behind. above.before (p / 64) behind (omega arith)) least
                ];
          }

      pub first_is_none : ((place : ℕ) → start / 64 + 1 ≤ place → summary place ≡ false)
          → (p : ℕ) → start ≤ p → words_have words p ≡ false
      first_is_none empty p least = words_have-from_start p (λ behind. empty (p / 64) behind) least

  module _ (end word : ℕ) (is : word ≡ slice_index words (end / 64)) where
    pub last_in_word : (within : ℕ) → within < 64 → IsLast (word_has word) (end % 64) within
        → IsLast (words_have words) end (end / 64 * 64 + within)
    last_in_word within low last =
        let under = last.below in record {
          below = omega arith;
          here = words_have-place words (end / 64) within low ∙ ap (λ w. word_has w within) (sym is) ∙ last.here;
          behind = λ p above below.
              let e : p / 64 ≡ end / 64 = omega arith in
              in_word words p (end / 64) e ∙ ap (λ w. word_has w (p % 64)) (sym is) ∙ last.behind (p % 64) (omega arith) (omega arith);
        }

    module _ (none : (p : ℕ) → p < end % 64 → word_has word p ≡ false) where
      none_behind : (p : ℕ) → (p / 64 < end / 64 → summary (p / 64) ≡ false) → p < end → words_have words p ≡ false
      none_behind p empty below =
          elim (cases_eq (p / 64) (end / 64)) as (λ _. words_have words p ≡ false) [
            | inl e ↦ in_word words p (end / 64) e ∙ ap (λ w. word_has w (p % 64)) (sym is) ∙ none (p % 64) (omega arith)
            | inr apart ↦ words_have-summary_unset p (empty (omega arith))
          ]

      pub last_in_previous : (place other within : ℕ) → within < 64 → other ≡ slice_index words place
          → IsLast summary (end / 64) place → IsLast (word_has other) 64 within
          → IsLast (words_have words) end (place * 64 + within)
      last_in_previous place other within low is_other below last =
          let under = below.below in record {
            below = omega arith;
            here = words_have-place words place within low ∙ ap (λ w. word_has w within) (sym is_other) ∙ last.here;
            behind = λ p above least.
                elim (cases_eq (p / 64) place) as (λ _. words_have words p ≡ false) [
                  | inl e ↦ in_word words p place e ∙ ap (λ w. word_has w (p % 64)) (sym is_other) ∙ last.behind (p % 64) (omega arith) (omega arith)
                  | inr apart ↦ none_behind p (λ before. below.behind (p / 64) (omega arith) before) least
                ];
          }

      pub last_is_none : ((place : ℕ) → place < end / 64 → summary place ≡ false)
          → (p : ℕ) → p < end → words_have words p ≡ false
      last_is_none empty p below = none_behind p (λ before. empty (p / 64) before) below

module _ (words : List ℕ) (place word : ℕ) (inside : place / 64 < length words) where
  pub words_have-slice_set : (fills : Bool) → word_has word (place % 64) ≡ fills → words_have (slice_set words (place / 64) word) place ≡ fills
  words_have-slice_set fills here =
      in_word (slice_set words (place / 64) word) place (place / 64) refl
      ∙ ap (λ w. word_has w (place % 64)) (get_or-set_same words (place / 64) word 0 inside) ∙ here

  -- a word that stands there already
  pub set_already : (fills : Bool) → word ≡ slice_index words (place / 64) → word_has word (place % 64) ≡ fills → words_have words place ≡ fills
  set_already fills same here = in_word words place (place / 64) refl ∙ ap (λ w. word_has w (place % 64)) (sym same) ∙ here

  pub set_elsewhere : ((p : ℕ) → p ≢ place % 64 → word_has word p ≡ word_has (slice_index words (place / 64)) p)
      → (p : ℕ) → p ≢ place → words_have (slice_set words (place / 64) word) p ≡ words_have words p
  set_elsewhere kept p apart =
      elim (cases_eq (p / 64) (place / 64)) as (λ _. words_have (slice_set words (place / 64) word) p ≡ words_have words p) [
        | inl e ↦ in_word (slice_set words (place / 64) word) p (place / 64) e
            ∙ ap (λ w. word_has w (p % 64)) (get_or-set_same words (place / 64) word 0 inside)
            ∙ kept (p % 64) (λ same. apart (omega arith)) ∙ sym (in_word words p (place / 64) e)
        | inr other ↦ in_word (slice_set words (place / 64) word) p (p / 64) refl
            ∙ ap (λ w. word_has w (p % 64)) (get_or-set_other words (place / 64) (p / 64) word 0 other)
            ∙ sym (in_word words p (p / 64) refl)
      ]

  pub set_summary : (old new : ℕ → Bool) → ((p : ℕ) → old p ≡ not (slice_index words p == 0))
      → new (place / 64) ≡ not (word == 0) → ((p : ℕ) → p ≢ place / 64 → new p ≡ old p)
      → (p : ℕ) → new p ≡ not (slice_index (slice_set words (place / 64) word) p == 0)
  set_summary old new exact here elsewhere p =
      elim (cases_eq p (place / 64)) as (λ _. new p ≡ not (slice_index (slice_set words (place / 64) word) p == 0)) [
        | inl e ↦ ap new e ∙ here ∙ ap (λ w. not (w == 0)) (sym (get_or-set_same words (place / 64) word 0 inside))
            ∙ ap (λ q. not (slice_index (slice_set words (place / 64) word) q == 0)) (sym e)
        | inr other ↦ elsewhere p other ∙ exact p ∙ ap (λ w. not (w == 0)) (sym (get_or-set_other words (place / 64) p word 0 other))
      ]

get_or_zeros : (count p : ℕ) → get_or {A = ℕ} (replicate count 0) p 0 ≡ zero
get_or_zeros count p =
    elim (cases_lt p count) as (λ _. get_or {A = ℕ} (replicate count 0) p 0 ≡ zero) [
      | inl within ↦ get_or-replicate count p 0 0 within
      | inr past ↦ get_or_past (replicate count 0) p 0 (omega (arith, length-replicate {A = ℕ} count 0))
    ]

pub zeros_have_none : (count p : ℕ) → words_have (replicate count 0) p ≡ false
zeros_have_none count p = in_empty_word (replicate count 0) p (get_or_zeros count (p / 64))

module _ (words : List ℕ) (count : ℕ) where
  pub length-flags_of : length (flags_of words count) ≡ count
  unfolding flags_of
  length-flags_of = length-map-range_with_len (words_have words) 0 count

  flag_at-flags_of : (p : ℕ) → p < count → flag_at (flags_of words count) p ≡ words_have words p
  unfolding flags_of
  flag_at-flags_of p within = get_or-map-range_with_len (words_have words) 0 count p p false within (omega arith)

  flag_is : ((p : ℕ) → count ≤ p → words_have words p ≡ false) → (p : ℕ) → flag_at (flags_of words count) p ≡ words_have words p
  flag_is none p =
      elim (cases_lt p count) as (λ _. flag_at (flags_of words count) p ≡ words_have words p) [
        | inl within ↦ flag_at-flags_of p within
        | inr past ↦ get_or_past (flags_of words count) p false (omega (arith, length-flags_of)) ∙ sym (none p past)
      ]

  -- the flags of a row and the bits of its words are the same places, where no bit stands past the row
  pub same_places : ((p : ℕ) → count ≤ p → words_have words p ≡ false) → words_have words ≡ flag_at (flags_of words count)
  same_places none = λ i p. sym (flag_is none p) i

  pub flags_from : (flags : List Bool) → length flags ≡ count → ((p : ℕ) → p < count → get_or flags p false ≡ words_have words p)
      → flags_of words count ≡ flags
  unfolding flags_of
  flags_from flags sized each = sym (fill_by_all (words_have words) flags count false sized each)

  pub flags_of_none : ((p : ℕ) → words_have words p ≡ false) → flags_of words count ≡ replicate count false
  flags_of_none none =
      flags_from (replicate count false) (length-replicate count false) (λ p within. get_or-replicate count p false false within ∙ sym (none p))

pub flags_set : (old new : List ℕ) (count place : ℕ) (fills : Bool) → place < count → words_have new place ≡ fills
    → ((p : ℕ) → p ≢ place → words_have new p ≡ words_have old p)
    → flags_of new count ≡ slice_set (flags_of old count) place fills
flags_set old new count place fills within here elsewhere =
    let sized = length-flags_of old count in
    flags_from new count (slice_set (flags_of old count) place fills) (length-set (flags_of old count) place fills ∙ sized) (λ p below.
    elim (cases_eq p place) as (λ _. get_or (slice_set (flags_of old count) place fills) p false ≡ words_have new p) [
      | inl e ↦ ap (λ q. get_or (slice_set (flags_of old count) place fills) q false) e
          ∙ get_or-set_same (flags_of old count) place fills false (omega (arith, sized)) ∙ sym here ∙ ap (words_have new) (sym e)
      | inr other ↦ get_or-set_other (flags_of old count) place p fills false other ∙ flag_at-flags_of old count p below ∙ sym (elsewhere p other)
    ])
