-- On CRC-32: a register goes on as a polynomial does, so that bytes go in at once as one number, and go out one by one.
--     next_told             one byte, by what is left of it
--     eight_told            eight bytes, by what is left of each
--     in_chunks_and_rest    all bytes, by eights and the rest
--     left_told             what is left of a byte stands in the tables
use Rattle.std.proofs.Common.{◌≡◌, ℕ, zero, suc, ◌+◌, ◌*◌, ◌/◌, ◌%◌, ◌^◌, ◌<◌, ◌==◌, cond, true, false, List, [], ◌∷◌, length, get_or, take, drop, map, slice_index_or, refl, sym, ap, ◌∙◌, add_comm, arith}
use Rattle.std.specs.Prelude.{bit_and, bit_xor}
use Rattle.std.specs.List.{fold, range_with_len}
use Rattle.std.specs.Int.{w64, bytes_low_first, to_le_bytes, from_le_bytes}
use Rattle.std.specs.Simd.{first_chunks}
use Rattle.std.specs.Int.Bits.{xor_assoc, xor_zero_r, xor_comm, xor_mod, xor_shr, xor_shifted}
use Rattle.std.proofs.Math.Nat.{mod-lt, zero-add, suc-add, mul_assoc, pow-suc}
use Rattle.std.proofs.Math.Seq.{take-add}
use Rattle.std.proofs.lemmas.Nat.{and_mask, xor_lt, le_bytes_8, from_le_bytes-to_le_bytes_8}
use Rattle.std.proofs.lemmas.List.{take-append-drop}
use Rattle.std.proofs.lemmas.List.Sums.{fold-append}
use Rattle.std.proofs.lemmas.List.FromFn.{get_or-map-range_with_len}
use Rattle.key_index_store.specs.Checksum.{after_bit, after_bits, after_byte}
use Rattle.key_index_store.specs.declared.checksum.TheConstants.{TABLES}

-- ---- an exclusive or goes on as that of what its parts become

abbrev divided : ℕ → ℕ
divided b = cond (b == 1) 0xEDB88320 0

after_bit-told : (c : ℕ) → after_bit c ≡ bit_xor (c / 2) (divided (c % 2))
unfolding after_bit
after_bit-told c = elim (c % 2 == 1) as (λ b. cond b (bit_xor (c / 2) 0xEDB88320) (c / 2) ≡ bit_xor (c / 2) (cond b 0xEDB88320 0)) [
  | true ↦ refl
  | false ↦ sym (xor_zero_r (c / 2))
]

divided-xor : (a b : ℕ) → a < 2 → b < 2 → divided (bit_xor a b) ≡ bit_xor (divided a) (divided b)
divided-xor zero b p q = refl
divided-xor (suc zero) zero p q = refl
divided-xor (suc zero) (suc zero) p q = refl
divided-xor (suc zero) (suc (suc b)) p q = absurd (omega arith)
divided-xor (suc (suc a)) b p q = absurd (omega arith)

xor-swap : (a b c d : ℕ) → bit_xor (bit_xor a b) (bit_xor c d) ≡ bit_xor (bit_xor a c) (bit_xor b d)
xor-swap a b c d =
    xor_assoc a b (bit_xor c d) ∙ ap (bit_xor a) (sym (xor_assoc b c d) ∙ ap (λ z. bit_xor z d) (xor_comm b c) ∙ xor_assoc c b d)
    ∙ sym (xor_assoc a c (bit_xor b d))

after_bit-xor : (x y : ℕ) → after_bit (bit_xor x y) ≡ bit_xor (after_bit x) (after_bit y)
after_bit-xor x y =
    after_bit-told (bit_xor x y) ∙ (λ i. bit_xor (xor_shr x y 1 i) (divided (xor_mod x y 1 i)))
    ∙ ap (bit_xor (bit_xor (x / 2) (y / 2))) (divided-xor (x % 2) (y % 2) (mod-lt x (omega arith)) (mod-lt y (omega arith)))
    ∙ xor-swap (x / 2) (y / 2) (divided (x % 2)) (divided (y % 2)) ∙ sym (λ i. bit_xor (after_bit-told x i) (after_bit-told y i))

after_bits-xor : (n x y : ℕ) → after_bits n (bit_xor x y) ≡ bit_xor (after_bits n x) (after_bits n y)
unfolding after_bits
after_bits-xor zero x y = refl
after_bits-xor (suc n) x y = ap (after_bits n) (after_bit-xor x y) ∙ after_bits-xor n (after_bit x) (after_bit y)

-- ---- bytes go in at once, and out one by one

after_bits-add : (m n x : ℕ) → after_bits (m + n) x ≡ after_bits n (after_bits m x)
unfolding after_bits
after_bits-add zero n x = ap (λ k. after_bits k x) (zero-add n)
after_bits-add (suc m) n x = ap (λ k. after_bits k x) (suc-add m n) ∙ after_bits-add m n (after_bit x)

after_bit-even : (x : ℕ) → after_bit (x * 2) ≡ x
after_bit-even x =
    let half : x * 2 / 2 ≡ x = omega arith in
    let even : x * 2 % 2 ≡ 0 = omega arith in
    after_bit-told (x * 2) ∙ (λ i. bit_xor (half i) (divided (even i))) ∙ xor_zero_r x

after_bits-zeros : (n x : ℕ) → after_bits n (x * 2 ^ n) ≡ x
unfolding after_bits
after_bits-zeros zero x = omega arith
after_bits-zeros (suc n) x =
    let twice : x * 2 ^ suc n ≡ x * 2 ^ n * 2 = ap (λ z. x * z) (pow-suc 2 n) ∙ sym (mul_assoc x (2 ^ n) 2) in
    ap (λ z. after_bits n (after_bit z)) twice ∙ ap (after_bits n) (after_bit-even (x * 2 ^ n)) ∙ after_bits-zeros n x

above : (b x : ℕ) → b < 256 → b + x * 256 ≡ bit_xor b (x * 256)
above b x h = sym (xor_comm b (x * 256) ∙ xor_shifted x 8 b h ∙ add_comm (x * 256) b)

byte_in : (c b x : ℕ) → b < 256 → bit_xor (after_byte c b) x ≡ after_bits 8 (bit_xor c (b + x * 256))
byte_in c b x h =
    ap (bit_xor (after_byte c b)) (sym (after_bits-zeros 8 x)) ∙ sym (after_bits-xor 8 (bit_xor c b) (x * 256))
    ∙ ap (after_bits 8) (xor_assoc c b (x * 256) ∙ ap (bit_xor c) (sym (above b x h)))

byte_out : (n b x : ℕ) → b < 256 → after_bits (8 + n) (b + x * 256) ≡ bit_xor (after_bits (8 + n) b) (after_bits n x)
byte_out n b x h =
    ap (after_bits (8 + n)) (above b x h) ∙ after_bits-xor (8 + n) b (x * 256)
    ∙ ap (bit_xor (after_bits (8 + n) b)) (after_bits-add 8 n (x * 256) ∙ ap (after_bits n) (after_bits-zeros 8 x))

pub next_told : (x : ℕ) → bit_xor (after_bits 8 (bit_and x 255)) (x / 256) ≡ after_bits 8 x
unfolding after_bits
next_told x =
    let parts : x % 256 + x / 256 * 256 ≡ x = omega arith in
    ap (λ b. bit_xor (after_bits 8 b) (x / 256)) (and_mask x 8) ∙ sym (byte_out 0 (x % 256) (x / 256) (mod-lt x (omega arith))) ∙ ap (after_bits 8) parts

abbrev AreBytes : List ℕ → Type 0
AreBytes bs = (k : ℕ) → get_or bs k 0 < 256

-- the lowest byte first
abbrev number : List ℕ → ℕ
number [] = 0
number (b ∷ bs) = b + number bs * 256

-- how many bits the bytes have
abbrev bits : List ℕ → ℕ
bits [] = 0
bits (b ∷ bs) = 8 + bits bs

in_at_once : (bs : List ℕ) (c : ℕ) → AreBytes bs → fold after_byte c bs ≡ after_bits (bits bs) (bit_xor c (number bs))
unfolding after_bits
in_at_once [] c h = sym (xor_zero_r c)
in_at_once (b ∷ bs) c h =
    in_at_once bs (after_byte c b) (λ k. h (suc k)) ∙ ap (after_bits (bits bs)) (byte_in c b (number bs) (h 0))
    ∙ sym (after_bits-add 8 (bits bs) (bit_xor c (b + number bs * 256)))

-- what is left of bytes, the last of them first
abbrev left : List ℕ → ℕ
left [] = 0
left (b ∷ bs) = bit_xor (left bs) (after_bits (8 + bits bs) b)

out_by_bytes : (bs : List ℕ) → AreBytes bs → after_bits (bits bs) (number bs) ≡ left bs
unfolding after_bits
out_by_bytes [] h = refl
out_by_bytes (b ∷ bs) h =
    let first : ℕ = after_bits (8 + bits bs) b in
    byte_out (bits bs) b (number bs) (h 0) ∙ xor_comm first (after_bits (bits bs) (number bs)) ∙ ap (λ r. bit_xor r first) (out_by_bytes bs (λ k. h (suc k)))

-- ---- eight bytes

number-to_le_bytes : (n : ℕ) → n < 2 ^ 64 → number (to_le_bytes w64 n) ≡ n
number-to_le_bytes n fits = omega (arith, from_le_bytes-to_le_bytes_8 n fits)

low_first-bytes : (i k n j : ℕ) → get_or (bytes_low_first i k n) j 0 < 256
low_first-bytes i zero n j = omega arith
low_first-bytes zero (suc k) n zero = mod-lt n (omega arith)
low_first-bytes (suc i) (suc k) n zero = mod-lt (n / 256 ^ suc i) (omega arith)
low_first-bytes i (suc k) n (suc j) = low_first-bytes (suc i) k n j

abbrev eight : List ℕ → List ℕ
eight bs = get_or bs 0 0 ∷ get_or bs 1 0 ∷ get_or bs 2 0 ∷ get_or bs 3 0 ∷ get_or bs 4 0 ∷ get_or bs 5 0 ∷ get_or bs 6 0 ∷ get_or bs 7 0 ∷ []

pub eight_told : (c n : ℕ) (bs out : List ℕ) → length bs ≡ 8 → AreBytes bs → c < 2 ^ 32 → n < 2 ^ 64
    → n ≡ from_le_bytes w64 bs → out ≡ to_le_bytes w64 (bit_xor c n) → left (eight out) ≡ fold after_byte c bs
eight_told c n bs out l h fits fits' is is' =
    let word : ℕ = bit_xor c n in
    let same : to_le_bytes w64 n ≡ bs = le_bytes_8 bs n l h is in
    ap (λ o. left (eight o)) is' ∙ sym (out_by_bytes (to_le_bytes w64 word) (low_first-bytes 0 8 word))
    ∙ ap (after_bits 64) (number-to_le_bytes word (xor_lt 64 c n (omega arith) fits') ∙ ap (bit_xor c) (sym (number-to_le_bytes n fits')))
    ∙ sym (in_at_once (to_le_bytes w64 n) c (low_first-bytes 0 8 n)) ∙ ap (fold after_byte c) same

-- ---- all bytes

in_chunks : (k c : ℕ) (bs : List ℕ) → fold (fold after_byte) c (first_chunks 8 k bs) ≡ fold after_byte c (take (k * 8) bs)
in_chunks zero c bs = refl
in_chunks (suc k) c bs =
    let more : 8 + k * 8 ≡ suc k * 8 = omega arith in
    in_chunks k (fold after_byte c (take 8 bs)) (drop 8 bs) ∙ sym (fold-append after_byte c (take 8 bs) (take (k * 8) (drop 8 bs)))
    ∙ ap (fold after_byte c) (sym (take-add 8 (k * 8) bs) ∙ ap (λ n. take n bs) more)

pub in_chunks_and_rest : (k c : ℕ) (bs : List ℕ) → fold after_byte (fold (fold after_byte) c (first_chunks 8 k bs)) (drop (k * 8) bs) ≡ fold after_byte c bs
in_chunks_and_rest k c bs =
    ap (λ r. fold after_byte r (drop (k * 8) bs)) (in_chunks k c bs) ∙ sym (fold-append after_byte c (take (k * 8) bs) (drop (k * 8) bs))
    ∙ ap (fold after_byte c) (take-append-drop (k * 8) bs)

-- ---- the tables

tables_told : TABLES ≡ map (λ j. map (after_bits (8 * (j + 1))) (range_with_len 0 256)) (range_with_len 0 8)
unfolding after_bits after_bit
tables_told = refl

pub left_told : (j k : ℕ) → j < 8 → k < 256 → slice_index_or (slice_index_or TABLES j []) k 0 ≡ after_bits (8 * (j + 1)) k
left_told j k p q =
    ap (λ t. slice_index_or (slice_index_or t j []) k 0) tables_told
    ∙ ap (λ t. slice_index_or t k 0) (get_or-map-range_with_len (λ j. map (after_bits (8 * (j + 1))) (range_with_len 0 256)) 0 8 j j [] p (omega arith))
    ∙ get_or-map-range_with_len (after_bits (8 * (j + 1))) 0 256 k k 0 q (omega arith)
