-- The numbers of a key's bytes, from the bytes at a fixed length.
use Rattle.std.proofs.Common.{◌≡◌, ℕ, zero, suc, ◌+◌, ◌≤◌, List, [], ◌∷◌, drop, refl, ap, ◌∙◌, arith}
use Rattle.std.proofs.Math.Seq.{drop-nil}
use Rattle.key_index_flat.specs.Padding.{padded, big_endian}
use Rattle.key_index_store.specs.Translators.{front_of, word_at}

padded-padded : (n w : ℕ) (b : List ℕ) → n ≤ w → padded n (padded w b) ≡ padded n b
padded-padded zero w b h = refl
padded-padded (suc n) zero b h = absurd (omega arith)
padded-padded (suc n) (suc w) [] h = ap (λ bs. 0 ∷ bs) (padded-padded n w [] (omega arith))
padded-padded (suc n) (suc w) (x ∷ xs) h = ap (λ bs. x ∷ bs) (padded-padded n w xs (omega arith))

padded-part : (n m w : ℕ) (b : List ℕ) → n + m ≤ w → padded n (drop m (padded w b)) ≡ padded n (drop m b)
padded-part n zero w b h = padded-padded n w b (omega arith)
padded-part n (suc m) zero b h = absurd (omega arith)
padded-part n (suc m) (suc w) [] h = padded-part n m w [] (omega arith) ∙ simp drop-nil
padded-part n (suc m) (suc w) (x ∷ xs) h = padded-part n m w xs (omega arith)

-- the first 32 bytes have the front of a key
pub front_of-padded : (b : List ℕ) → front_of (padded 32 b) ≡ front_of b
front_of-padded b =
    let word : (m : ℕ) → m ≤ 24 → word_at m (padded 32 b) ≡ word_at m b = λ m h. ap big_endian (padded-part 8 m 32 b (omega arith)) in
    let first = word 0 (omega arith) in
    let second = word 8 (omega arith) in
    let third = word 16 (omega arith) in
    let fourth = word 24 (omega arith) in
    λ i. record { words = first i ∷ second i ∷ third i ∷ fourth i ∷ [] }
