-- Lemmas on the words of a line, on hexadecimal digits and on numbers.
use Rattle.std.proofs.Common.{Option, Bor, ◌≡◌, ℕ, ◌+◌, ◌*◌, ◌/◌, ◌<◌, true, false, List, [], ◌∷◌, ◌++◌, length, get_or, take, drop, Some, None, Result, Ok, Err, append_assoc, refl, arith, rules}
use Rattle.std.specs.Char.{digit_value, is_ascii_digit, is_ascii_hexdigit}
use Rattle.std.specs.List.{list_all}
use Rattle.std.specs.Result.{result_ok}
use Rattle.std.specs.Str.{IsUtf8}
use Rattle.std.specs.Str.Parse.{digits_value, ParsesUnsigned}
use Rattle.std.proofs.lemmas.Grind.{common_steps}
use Rattle.std.proofs.lemmas.Iterator.{YieldsList}
use Rattle.std.proofs.lemmas.Iterator.Consumers.{YieldsList-end, YieldsList-so_far}
use Rattle.std.proofs.lemmas.List.Sums.{AllPass-from_list_all}
use Rattle.std.proofs.lemmas.Str.{IsUtf8-from_ascii}
use Rattle.std.proofs.lemmas.Str.Ascii.{IsAscii-from_all}
use Rattle.std.proofs.lemmas.List.Elements.{All-from_get_or}
use Rattle.std.proofs.lemmas.Str.Parse.{IsNumeralModel, numerals_by_value, parse_digits}
use Rattle.std.proofs.lemmas.Bool.Decides.{nat_tests}
use Rattle.key_index.specs.Line.{command_of_words, hex_bytes, immutable_command_of_words, is_hex, number_of, ordered_command_of_words, words_in}

-- what four calls gave are the first four words: one, and up to three more
pub words_in-yielded : {S : Type 0} {steps : S → Option (Bor (List ℕ)) → S → Type 0} {s : S} {words : List (List ℕ)}
    (t u v w : S) (first : Bor (List ℕ)) (x y z : Option (Bor (List ℕ)))
    → steps s (Some first) t → steps t x u → steps u y v → steps v z w → YieldsList steps (λ x. x.now) s words
    → first.now ∷ words_in (x, y, z) ≡ take 4 words
words_in-yielded t u v w first None y z h hx hy hz e =
    rw (← (YieldsList-end e (first ∷ []) t (t, h, refl) None u refl hx).0) refl
words_in-yielded t u v w first (Some x) None z h hx hy hz e =
    rw (← (YieldsList-end e (first ∷ x ∷ []) u (t, h, (u, hx, refl)) None v refl hy).0) refl
words_in-yielded t u v w first (Some x) (Some y) None h hx hy hz e =
    let all = YieldsList-end e (first ∷ x ∷ y ∷ []) v (t, h, (u, hx, (v, hy, refl))) None w refl hz in
    rw (← all.0) refl
words_in-yielded t u v w first (Some x) (Some y) (Some z) h hx hy hz e =
    YieldsList-so_far e (first ∷ x ∷ y ∷ z ∷ []) w (t, h, (u, hx, (v, hy, (w, hz, refl))))

-- no command has more than three words, so the first four tell which it is
pub command_of_four : (words : List (List ℕ)) → command_of_words words ≡ command_of_words (take 4 words)
command_of_four [] = refl
command_of_four (a ∷ []) = refl
command_of_four (a ∷ b ∷ []) = refl
command_of_four (a ∷ b ∷ c ∷ []) = refl
command_of_four (a ∷ b ∷ c ∷ d ∷ words) = refl

pub ordered_command_of_four : (words : List (List ℕ)) → ordered_command_of_words words ≡ ordered_command_of_words (take 4 words)
ordered_command_of_four [] = refl
ordered_command_of_four (a ∷ []) = refl
ordered_command_of_four (a ∷ b ∷ []) = refl
ordered_command_of_four (a ∷ b ∷ c ∷ []) = refl
ordered_command_of_four (a ∷ b ∷ c ∷ d ∷ words) = refl

pub immutable_command_of_four : (words : List (List ℕ)) → immutable_command_of_words words ≡ immutable_command_of_words (take 4 words)
immutable_command_of_four [] = refl
immutable_command_of_four (a ∷ []) = refl
immutable_command_of_four (a ∷ b ∷ []) = refl
immutable_command_of_four (a ∷ b ∷ c ∷ []) = refl
immutable_command_of_four (a ∷ b ∷ c ∷ d ∷ words) = refl

-- a word with a byte that is no digit is no number
pub number_of-no_digits : (word : List ℕ) → list_all is_ascii_digit word ≡ false → number_of word ≡ None
unfolding number_of
number_of-no_digits word other = grind (arith, nat_tests)

-- digits are ASCII
pub IsUtf8-digits : (word : List ℕ) → list_all is_ascii_digit word ≡ true → IsUtf8 word
IsUtf8-digits word digits = IsUtf8-from_ascii word (IsAscii-from_all word (All-from_get_or (λ b. b < 128) word 0 (λ i within.
    let digit = AllPass-from_list_all is_ascii_digit word digits i 0 within in
    grind (arith, nat_tests))))

-- digits alone, in the words of what `parse` reads
IsNumeralModel-decimal : IsNumeralModel (λ ds. list_all is_ascii_digit ds ≡ true) (digits_value 10)
IsNumeralModel-decimal = numerals_by_value _ (search rules)

-- what `parse` makes of digits is the number that they write
pub number_of-parsed : {E : Type 0} (word : List ℕ) (r : Result ℕ E) → list_all is_ascii_digit word ≡ true → ParsesUnsigned 64 10 word r → result_ok r ≡ number_of word
unfolding number_of
number_of-parsed {E = E} word (Ok n) digits h =
    let parsed = parse_digits IsNumeralModel-decimal {E = E} 64 word (Ok n) h digits in
    grind (arith, nat_tests, parsed)
number_of-parsed {E = E} word (Err e) digits h =
    let parsed = parse_digits IsNumeralModel-decimal {E = E} 64 word (Err e) h digits in
    grind (arith, nat_tests, parsed)

-- two digits write a byte
pub length-hex_bytes : (word : List ℕ) → length (hex_bytes word) ≡ length word / 2
length-hex_bytes [] = refl
length-hex_bytes (c ∷ []) = refl
length-hex_bytes (high ∷ low ∷ rest) = omega (arith, length-hex_bytes rest)

-- the two digits at i, and those after them
pub hex_bytes-drop : (word : List ℕ) (i : ℕ) → i + 1 < length word → hex_bytes (drop i word) ≡ (16 * digit_value (get_or word i 0) + digit_value (get_or word (i + 1) 0)) ∷ hex_bytes (drop (i + 2) word)
hex_bytes-drop word i within =
    let one : i < length word = omega arith in
    let two : i + 1 < length word = within in
    let first : drop i word ≡ get_or word i 0 ∷ drop (i + 1) word = grind (arith, common_steps) in
    let second : drop (i + 1) word ≡ get_or word (i + 1) 0 ∷ drop (i + 2) word = grind (arith, common_steps) in
    rw (first, second) refl

-- each byte of a word of hexadecimal digits is one
pub is_hex-at : (word : List ℕ) (i : ℕ) → is_hex word ≡ true → i < length word → is_ascii_hexdigit (get_or word i 0) ≡ true
is_hex-at word i hex within =
    let digits : list_all is_ascii_hexdigit word ≡ true = grind (arith, nat_tests) in
    AllPass-from_list_all is_ascii_hexdigit word digits i 0 within

-- a further byte of a key
pub hex_bytes-next : (word before key : List ℕ) (i byte : ℕ) → 2 * i + 1 < length word → before ++ hex_bytes (drop (2 * i) word) ≡ hex_bytes word → byte ≡ 16 * digit_value (get_or word (2 * i) 0) + digit_value (get_or word (2 * i + 1) 0) → key ≡ before ++ byte ∷ [] → key ++ hex_bytes (drop (2 * (i + 1)) word) ≡ hex_bytes word
hex_bytes-next word before key i byte within written value pushed =
    let pair = hex_bytes-drop word (2 * i) within in
    let further : 2 * (i + 1) ≡ 2 * i + 2 = omega arith in
    rw (pushed, further, append_assoc) (rw (pair, ← value) at written)
