-- Padding by parts, and std's numbers of bytes.
use Rattle.std.proofs.Common.{◌≡◌, ℕ, zero, suc, ◌≤◌, List, [], ◌∷◌, ◌++◌, length, take, drop, replicate, refl, ap, arith, w8, w16, w32, w64}
use Rattle.std.specs.Int.{from_be_bytes}
use Rattle.key_index_flat.specs.Padding.{padded, cap_number}

-- the front of a key that is long enough
pub padded-front : (n : ℕ) (b : List ℕ) → n ≤ length b → take n b ≡ padded n b
padded-front zero b h = refl
padded-front (suc n) [] h = absurd (omega arith)
padded-front (suc n) (x ∷ xs) h = ap (λ bs. x ∷ bs) (padded-front n xs (omega (arith, h)))

-- a shorter key, and then zeros
pub padded-short : (n : ℕ) (b : List ℕ) → length b ≤ n → b ++ drop (length b) (replicate n 0) ≡ padded n b
padded-short zero [] h = refl
padded-short zero (x ∷ xs) h = absurd (omega (arith, h))
padded-short (suc n) [] h = ap (λ bs. 0 ∷ bs) (padded-short n [] (omega arith))
padded-short (suc n) (x ∷ xs) h = ap (λ bs. x ∷ bs) (padded-short n xs (omega (arith, h)))

pub one_byte : (b : List ℕ) → from_be_bytes w8 (padded 1 b) ≡ cap_number 1 b
one_byte [] = omega arith
one_byte (s ∷ rest) = omega arith

pub two_bytes : (b : List ℕ) → from_be_bytes w16 (padded 2 b) ≡ cap_number 2 b
two_bytes [] = omega arith
two_bytes (s ∷ []) = omega arith
two_bytes (s ∷ t ∷ rest) = omega arith

pub four_bytes : (b : List ℕ) → from_be_bytes w32 (padded 4 b) ≡ cap_number 4 b
four_bytes [] = omega arith
four_bytes (s ∷ []) = omega arith
four_bytes (s ∷ t ∷ []) = omega arith
four_bytes (s ∷ t ∷ u ∷ []) = omega arith
four_bytes (s ∷ t ∷ u ∷ v ∷ rest) = omega arith

pub eight_bytes : (b : List ℕ) → from_be_bytes w64 (padded 8 b) ≡ cap_number 8 b
eight_bytes [] = omega arith
eight_bytes (s ∷ []) = omega arith
eight_bytes (s ∷ t ∷ []) = omega arith
eight_bytes (s ∷ t ∷ u ∷ []) = omega arith
eight_bytes (s ∷ t ∷ u ∷ v ∷ []) = omega arith
eight_bytes (s ∷ t ∷ u ∷ v ∷ w ∷ []) = omega arith
eight_bytes (s ∷ t ∷ u ∷ v ∷ w ∷ x ∷ []) = omega arith
eight_bytes (s ∷ t ∷ u ∷ v ∷ w ∷ x ∷ y ∷ []) = omega arith
eight_bytes (s ∷ t ∷ u ∷ v ∷ w ∷ x ∷ y ∷ z ∷ rest) = omega arith
