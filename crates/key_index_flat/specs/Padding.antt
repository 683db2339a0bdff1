-- The bytes of a key at a fixed length, and the number that they are.
--     padded n b      the first n bytes of b, with zeros behind a shorter b: place i has b[i], or 0 past the end of b
--     big_endian b    the number whose digits to the base 256 are the bytes, the highest first (network byte order, RFC 1700)
--     cap_number n b  what a cap of n bytes makes of a key
use Rattle.std.specs.Prelude.{ℕ, zero, suc, ◌+◌, ◌*◌, ◌^◌, List, [], ◌∷◌, length}

abbrev pub padded : ℕ → List ℕ → List ℕ
padded zero b = []
padded (suc n) [] = 0 ∷ padded n []
padded (suc n) (x ∷ xs) = x ∷ padded n xs

abbrev pub big_endian : List ℕ → ℕ
big_endian [] = 0
big_endian (b ∷ bs) = b * 256 ^ length bs + big_endian bs

abbrev pub cap_number : ℕ → List ℕ → ℕ
cap_number n b = big_endian (padded n b)
