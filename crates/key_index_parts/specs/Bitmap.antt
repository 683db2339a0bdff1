-- Which places of a row are filled. `filled` tells it of each place, `flags` is a list of flags, one for each place.
--     IsFirst, IsFirstFrom      the least filled place from a start on; whether an answer is that
--     IsLast, IsLastBelow       the greatest filled place below an end; whether an answer is that
--     flag_at                 whether the flag of a place is set, and there is one
--     word_has, words_have      the places of the bits that are set in a word, and in words, each of 64 places
--     flags_of                  the flags of the first places of words
--     IsSummary                 a row whose filled places are those of the words that have a bit
--     IsRow                     words that hold a row of so many places, and no bit past the last
use Rattle.std.specs.Prelude.{ℕ, Bool, true, false, not, List, length, map, Option, Some, None, slice_index, ◌==◌, ◌≡◌, ◌<◌, ◌≤◌, ◌*◌, ◌/◌, ◌%◌, ◌^◌}
use Rattle.std.specs.List.{slice_index_or, range_with_len}
use Rattle.std.specs.Int.{bit_at}
use Rattle.key_index_parts.specs.Prefix.{partition_count}

pub record IsFirst (filled : ℕ → Bool) (start place : ℕ) : Type 0 where
  pub from : start ≤ place
  pub here : filled place ≡ true
  pub before : (p : ℕ) → start ≤ p → p < place → filled p ≡ false

abbrev pub IsFirstFrom : (ℕ → Bool) → ℕ → Option ℕ → Type 0
IsFirstFrom filled start (Some place) = IsFirst filled start place
IsFirstFrom filled start None = (p : ℕ) → start ≤ p → filled p ≡ false

pub record IsLast (filled : ℕ → Bool) (end place : ℕ) : Type 0 where
  pub below : place < end
  pub here : filled place ≡ true
  pub behind : (p : ℕ) → place < p → p < end → filled p ≡ false

abbrev pub IsLastBelow : (ℕ → Bool) → ℕ → Option ℕ → Type 0
IsLastBelow filled end (Some place) = IsLast filled end place
IsLastBelow filled end None = (p : ℕ) → p < end → filled p ≡ false

abbrev pub flag_at : List Bool → ℕ → Bool
flag_at flags place = slice_index_or flags place false

unfoldable pub word_has : ℕ → ℕ → Bool
word_has word place = bit_at word place == 1

unfoldable pub words_have : List ℕ → ℕ → Bool
words_have words place = word_has (slice_index words (place / 64)) (place % 64)

unfoldable pub flags_of : List ℕ → ℕ → List Bool
flags_of words count = map (words_have words) (range_with_len 0 count)

pub record IsSummary (filled : ℕ → Bool) (size : ℕ) (words : List ℕ) : Type 0 where
  pub exact : (place : ℕ) → filled place ≡ not (slice_index words place == 0)
  pub covered : length words ≤ size
  pub fits : length words * 64 ≤ 2 ^ 64

pub record IsRow (words : List ℕ) (count : ℕ) : Type 0 where
  pub covered : count ≤ length words * 64
  pub unused : (place : ℕ) → count ≤ place → words_have words place ≡ false
  pub most : count ≤ partition_count 3
