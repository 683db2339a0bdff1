-- What the program is asked, and what it answers.
--     asked       the root and the key that its words write, in hexadecimal; a dash alone is the empty key
--     Tells       what bytes tell of a key to one who knows a root: what the witness does that is written so, and nothing where none is
--     line_of     what is written for that, and status_of its status
--     Answers     a status, and what is written, answer some bytes
use Rattle.std.specs.Prelude.{◌≡◌, ℕ, ◌+◌, ◌*◌, ◌/◌, ◌%◌, ◌^◌, ◌≤◌, ◌==◌, ◌&&◌, List, [], ◌∷◌, ◌++◌, length, slice_index, if◌then◌else◌, Option, Some, None, IsSome, option_and_then, option_map, codes, bytes_eq}
use Rattle.std.specs.Char.{digit_value, is_ascii_hexdigit}
use Rattle.key_index_witness.specs.Bytes.{HasSizes, encoded}
use Rattle.key_index_witness.specs.Verdict.{verdict}
use Rattle.key_index_witness.specs.Witness.{Parts}

-- the byte of two hexadecimal digits of either case
abbrev pub byte_in : ℕ → ℕ → Option ℕ
byte_in high low =
    if is_ascii_hexdigit high && is_ascii_hexdigit low then Some (16 * digit_value high + digit_value low) else None

-- a byte before others
abbrev pub cons_byte : Option ℕ → Option (List ℕ) → Option (List ℕ)
cons_byte byte rest = option_and_then (λ b. option_map (λ bytes. b ∷ bytes) rest) byte

-- the bytes of a word, two digits for each, the high one first
unfoldable pub bytes_in : List ℕ → Option (List ℕ)
bytes_in [] = Some []
bytes_in (high ∷ low ∷ rest) = cons_byte (byte_in high low) (bytes_in rest)
bytes_in _ = None

-- those of a word for n bytes
abbrev pub sized_in : ℕ → List ℕ → Option (List ℕ)
sized_in n word = if length word == 2 * n then bytes_in word else None

abbrev pub root_in : List ℕ → Option (List ℕ)
root_in word = sized_in 32 word

unfoldable pub key_in : List ℕ → Option (List ℕ)
key_in word =
    if bytes_eq word (codes "-") then Some []
    else (if length word == 0 then None else sized_in (length word / 2) word)

unfoldable pub asked : List (List ℕ) → Option (List ℕ × List ℕ)
asked (root ∷ (key ∷ [])) = option_and_then (λ r. option_map (λ k. (r, k)) (key_in key)) (root_in root)
asked _ = None

-- None where nothing is told; Some None is an absent key
abbrev pub Told : Type 0
Told = Option (Option (List ℕ))

pub record Tells (root key bytes : List ℕ) (told : Told) : Type 0 where
  pub all : (w : Parts) → HasSizes w → encoded w ≡ bytes → told ≡ verdict root key w
  pub only : IsSome told → (w : Parts) × HasSizes w × (encoded w ≡ bytes)

-- two digits for each byte, the high one first, with lowercase letters
unfoldable pub digits_of : List ℕ → List ℕ
digits_of [] = []
digits_of (b ∷ bytes) =
    let digit = slice_index (codes "0123456789abcdef") in
    digit (b / 16) ∷ digit (b % 16) ∷ digits_of bytes

abbrev pub hex_word : List ℕ → List ℕ
hex_word [] = codes "-"
hex_word (b ∷ bytes) = digits_of (b ∷ bytes)

abbrev pub line_of : Told → List ℕ
line_of None = codes "refused\n"
line_of (Some None) = codes "absent\n"
line_of (Some (Some value)) = codes "present " ++ (hex_word value ++ codes "\n")

abbrev pub status_of : Told → ℕ
status_of None = 1
status_of (Some said) = 0

pub record Answers (root key bytes : List ℕ) (status : ℕ) (Writes : List ℕ → Type 0) : Type 0 where
  pub told : Told
  pub tells : Tells root key bytes told
  pub short : length bytes ≤ 2 ^ 26
  pub written : Writes (line_of told)
  pub status_is : status ≡ status_of told
