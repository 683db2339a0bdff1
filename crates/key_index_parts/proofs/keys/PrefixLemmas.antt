-- On the number of a key's first bytes, byte by byte.
--     cap_number-more        one byte more
--     fits_three             a number of fewer than three bytes has room for one more
--     partition_count-power  how the code counts partitions
use Rattle.std.proofs.Common.{◌≡◌, ℕ, zero, suc, ◌+◌, ◌*◌, ◌^◌, ◌%◌, ◌<◌, ◌≤◌, List, [], ◌∷◌, ◌++◌, length, length-append, get_or, refl, ap, ◌∙◌, arith}
use Rattle.std.proofs.Math.Nat.{pow-succ'}
use Rattle.key_index_flat.specs.Padding.{padded, big_endian, cap_number}
use Rattle.key_index_parts.specs.Prefix.{partition_count}

padded-more : (n : ℕ) (b : List ℕ) → padded (suc n) b ≡ padded n b ++ get_or b n 0 ∷ []
padded-more zero [] = refl
padded-more zero (x ∷ xs) = refl
padded-more (suc n) [] = ap (λ l. 0 ∷ l) (padded-more n [])
padded-more (suc n) (x ∷ xs) = ap (λ l. x ∷ l) (padded-more n xs)

big_endian-push : (xs : List ℕ) (y : ℕ) → big_endian (xs ++ y ∷ []) ≡ big_endian xs * 256 + y
big_endian-push [] y = omega arith
big_endian-push (x ∷ xs) y =
    let p = 256 ^ length xs in
    let one_more : length (xs ++ y ∷ []) ≡ suc (length xs) = let n = length-append xs (y ∷ []) in omega (arith, n) in
    let power : x * 256 ^ length (xs ++ y ∷ []) ≡ x * (256 * p) = ap (λ n. x * 256 ^ n) one_more ∙ ap (λ m. x * m) (pow-succ' 256 (length xs)) in
    let moved : x * (256 * p) ≡ (x * p) * 256 = omega arith in
    let rest = big_endian-push xs y in
    let sum : x * 256 ^ length (xs ++ y ∷ []) + big_endian (xs ++ y ∷ []) ≡ (x * p + big_endian xs) * 256 + y = omega (arith, power, moved, rest) in sum

pub cap_number-more : (n : ℕ) (b : List ℕ) → cap_number (n + 1) b ≡ cap_number n b * 256 + get_or b n 0
cap_number-more n b = let next : n + 1 ≡ suc n = omega arith in ap (λ m. cap_number m b) next ∙ ap (λ l. big_endian l) (padded-more n b) ∙ big_endian-push (padded n b) (get_or b n 0)

pub fits_three : (i n : ℕ) → i < 256 ^ n → n < 3 → i < 65536
fits_three i zero h k = omega (arith, h)
fits_three i (suc zero) h k = omega (arith, h)
fits_three i (suc (suc zero)) h k = omega (arith, h)
fits_three i (suc (suc (suc n))) h k = absurd (omega (arith, k))

pub partition_count-power : (p : ℕ) → p ≤ 3 → 1 * 2 ^ (8 * p) % 18446744073709551616 ≡ partition_count p
partition_count-power zero h = refl
partition_count-power (suc zero) h = refl
partition_count-power (suc (suc zero)) h = refl
partition_count-power (suc (suc (suc zero))) h = refl
partition_count-power (suc (suc (suc (suc p)))) h = absurd (omega (arith, h))
