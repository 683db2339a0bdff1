-- Bytes as numbers, the lowest first.
--     eight_low_bytes    std's number of eight bytes
--     first_eight        a hash reads no byte behind the eighth: there the product is a multiple of 2^64
use Rattle.std.proofs.Common.{◌≡◌, ℕ, zero, suc, ◌+◌, ◌*◌, ◌^◌, ◌%◌, List, [], ◌∷◌, drop, refl, sym, ap, ◌∙◌, arith, w64}
use Rattle.std.proofs.Math.Nat.{pow-succ', add-mul-mod_self_right}
use Rattle.std.specs.Int.{from_le_bytes}
use Rattle.key_index_flat.specs.Hashing.{little_endian, hash_product}
use Rattle.key_index_flat.specs.Padding.{padded}

pub eight_low_bytes : (b : List ℕ) → from_le_bytes w64 (padded 8 b) ≡ little_endian (padded 8 b)
eight_low_bytes [] = omega arith
eight_low_bytes (s ∷ []) = omega arith
eight_low_bytes (s ∷ t ∷ []) = omega arith
eight_low_bytes (s ∷ t ∷ u ∷ []) = omega arith
eight_low_bytes (s ∷ t ∷ u ∷ v ∷ []) = omega arith
eight_low_bytes (s ∷ t ∷ u ∷ v ∷ w ∷ []) = omega arith
eight_low_bytes (s ∷ t ∷ u ∷ v ∷ w ∷ x ∷ []) = omega arith
eight_low_bytes (s ∷ t ∷ u ∷ v ∷ w ∷ x ∷ y ∷ []) = omega arith
eight_low_bytes (s ∷ t ∷ u ∷ v ∷ w ∷ x ∷ y ∷ z ∷ rest) = omega arith

little_endian-padded_none : (n : ℕ) → little_endian (padded n []) ≡ 0
little_endian-padded_none zero = refl
little_endian-padded_none (suc n) = let rest = little_endian-padded_none n in omega (arith, rest)

little_endian-split : (n : ℕ) (b : List ℕ) → little_endian b ≡ little_endian (padded n b) + little_endian (drop n b) * 256 ^ n
little_endian-split zero b = omega arith
little_endian-split (suc n) [] = let none = little_endian-padded_none (suc n) in omega (arith, none)
little_endian-split (suc n) (x ∷ xs) =
    let rest = little_endian-split n xs in
    let power = pow-succ' 256 n in
    let moved : little_endian (drop n xs) * 256 ^ suc n ≡ little_endian (drop n xs) * (256 * 256 ^ n) = ap (λ m. little_endian (drop n xs) * m) power in
    let apart : little_endian (drop n xs) * (256 * 256 ^ n) ≡ 256 * (little_endian (drop n xs) * 256 ^ n) = omega arith in
    omega (arith, rest, moved, apart)

pub first_eight : (b : List ℕ) → hash_product (little_endian (padded 8 b)) ≡ hash_product (little_endian b)
first_eight b =
    let whole = little_endian-split 8 b in
    let front = little_endian (padded 8 b) in
    let behind = little_endian (drop 8 b) in
    let product : little_endian b * 0x9E3779B97F4A7C15 ≡ front * 0x9E3779B97F4A7C15 + (behind * 0x9E3779B97F4A7C15) * 2 ^ 64 = omega (arith, whole) in
    sym (ap (λ m. m % 2 ^ 64) product ∙ add-mul-mod_self_right (front * 0x9E3779B97F4A7C15) (behind * 0x9E3779B97F4A7C15) (2 ^ 64))
