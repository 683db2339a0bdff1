-- The hash of a translated key, from its number.
--     little_endian b    the number whose digits to the base 256 are the bytes, the lowest first
--     hash_product n     multiplication by the odd number next to 2^64 over the golden ratio, which spreads the digits of n (Knuth, The
--                        Art of Computer Programming, volume 3, section 6.4)
--     seeded_sha256 s b  of the SHA-256 digest of the seed's eight bytes, the lowest first, and b behind them: the number of the first eight bytes
use Rattle.std.specs.Prelude.{ℕ, ◌+◌, ◌*◌, ◌%◌, ◌^◌, List, [], ◌∷◌, ◌++◌, take}
use Rattle.std.specs.Int.{w64, to_le_bytes}
use Rattle.sha2.specs.Sha256.{sha256}

abbrev pub little_endian : List ℕ → ℕ
little_endian [] = 0
little_endian (b ∷ bs) = b + 256 * little_endian bs

abbrev pub hash_product : ℕ → ℕ
hash_product n = n * 0x9E3779B97F4A7C15 % 2 ^ 64

abbrev pub seeded_sha256 : ℕ → List ℕ → ℕ
seeded_sha256 seed b = little_endian (take 8 (sha256 (to_le_bytes w64 seed ++ b)))
