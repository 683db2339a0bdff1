-- On records: what reading finds at the front of some bytes.
--     part-short       fewer bytes have no part of so many with its checksum
--     key_front, read_front  more bytes behind those that a record takes change nothing
--     read_again       what was encoded is read, whatever follows it
--     Whole, whole_length  what is known of bytes that are read as a record;  by its lengths they are as many as it has
--     IsFound-reading  what is read was encoded
--     begun_torn       a part of a record, from its front on, is torn
use Rattle.std.proofs.Common.{◌≡◌, ℕ, zero, suc, ◌+◌, ◌^◌, ◌<◌, ◌≤◌, Bool, true, false, cond, List, [], ◌∷◌, ◌++◌, length, take, drop, slice_index_or, Option, Some, None, inl, inr, refl, sym, ap, subst, ◌∙◌, append_assoc, length-append, length-drop, length-take, arith}
use Rattle.std.specs.Int.{w32, from_le_bytes}
use Rattle.std.specs.Option.{unwrap_or}
use Rattle.std.specs.Str.{bytes_eq}
use Rattle.std.proofs.lemmas.Bool.{false≢true, cases_lt, le-ltb, lt-ltb, ltb-false}
use Rattle.std.proofs.lemmas.List.{append-nil, take_at, drop_at, take-append-drop, take-append-le, drop-append-le, drop-drop, get_or-drop, get_or-take, get_or_past}
use Rattle.std.proofs.lemmas.Nat.{le_bytes_4, from_le_bytes-to_le_bytes_4}
use Rattle.std.proofs.lemmas.Slice.Eq.{bytes_eq-Decides}
use Rattle.key_index_store.specs.Checksum.{crc32}
use Rattle.key_index_store.specs.Salvage.{step}
use Rattle.key_index_store.specs.Record.{Entry, Fits, Outcome, Complete, Torn, Damaged, mark_of, bytes_of, number, number_at, summed, head, encoded, has_head, is_summed, size_of, sum_at, part, key_length, value_place, record_length, key_in, value_in_record, marked, fields_of, behind_head, reading, IsFound, IsWithin}

-- ---- bytes with their checksum

four_of : (x : ℕ) → length (number x) ≡ 4
four_of x = refl

module _ (sum : List ℕ → ℕ) where
  pub not_summed-short : (n : ℕ) (bytes : List ℕ) → length bytes < n + 4 → is_summed sum n bytes ≡ false
  not_summed-short n bytes h = elim (is_summed sum n bytes) as (λ b. is_summed sum n bytes ≡ b → b ≡ false) [
    | true ↦ λ e. absurd (
        let same = ap (λ l. length l) ((bytes_eq-Decides (take 4 (drop n bytes)) (number (sum (take n bytes)))).0 e) in
        omega (arith, same, four_of (sum (take n bytes)), length-take 4 (drop n bytes), length-drop n bytes, h))
    | false ↦ λ e. refl
  ] refl

  pub summed_front : (n : ℕ) (a b : List ℕ) → n + 4 ≤ length a → is_summed sum n (a ++ b) ≡ is_summed sum n a
  summed_front n a b h =
      let behind : 4 ≤ length (drop n a) = omega (arith, length-drop n a, h) in
      (λ i. bytes_eq (take 4 (drop-append-le n a b (omega (arith, h)) i)) (number (sum (take-append-le n a b (omega (arith, h)) i))))
      ∙ ap (λ l. bytes_eq l (number (sum (take n a)))) (take-append-le 4 (drop n a) b behind)

  -- bytes and their checksum, whatever follows
  pub summed_again : (p rest : List ℕ) (n : ℕ) → n ≡ length p → (is_summed sum n (summed sum p ++ rest) ≡ true) × (take n (summed sum p ++ rest) ≡ p)
  summed_again p rest n is =
      let behind : List ℕ = number (sum p) ++ rest in
      let front : take n (p ++ behind) ≡ p = take_at p behind n (sym is) in
      let back : drop n (p ++ behind) ≡ behind = drop_at p behind n (sym is) in
      let same : bytes_eq (number (sum p)) (number (sum p)) ≡ true = (bytes_eq-Decides (number (sum p)) (number (sum p))).1 refl in (
        ap (is_summed sum n) (append_assoc p (number (sum p)) rest) ∙ (λ i. bytes_eq (take 4 (back i)) (number (sum (front i)))) ∙ same,
        ap (take n) (append_assoc p (number (sum p)) rest) ∙ front,
      )

  -- bytes that begin with some and their checksum
  pub summed_back : (n : ℕ) (bytes : List ℕ) → is_summed sum n bytes ≡ true → bytes ≡ summed sum (take n bytes) ++ drop (n + 4) bytes
  summed_back n bytes e =
      let told : take 4 (drop n bytes) ≡ number (sum (take n bytes)) = (bytes_eq-Decides (take 4 (drop n bytes)) (number (sum (take n bytes)))).0 e in
      sym (take-append-drop n bytes) ∙ ap (λ l. take n bytes ++ l) (sym (take-append-drop 4 (drop n bytes)))
      ∙ (λ i. take n bytes ++ (told i ++ drop-drop 4 n bytes i)) ∙ sym (append_assoc (take n bytes) (number (sum (take n bytes))) (drop (n + 4) bytes))

-- ---- a part of a record

pub part-short : (n : ℕ) (bytes : List ℕ) → length bytes < n + 4 → part n bytes ≡ None
part-short n bytes h = ap (λ b. cond b (Some (take n bytes)) None) (not_summed-short crc32 n bytes h)

pub part_is : (n : ℕ) (bytes p : List ℕ) → part n bytes ≡ Some p → (is_summed crc32 n bytes ≡ true) × (take n bytes ≡ p) × (n + 4 ≤ length bytes)
part_is n bytes p e = elim (is_summed crc32 n bytes) as (λ b. is_summed crc32 n bytes ≡ b → cond b (Some (take n bytes)) None ≡ Some p → (b ≡ true) × (take n bytes ≡ p) × (n + 4 ≤ length bytes)) [
  | true ↦ λ t q. (refl, ap (λ o. unwrap_or o p) q, long t)
  | false ↦ λ t q. absurd (cc)
] refl e
  where
    long : is_summed crc32 n bytes ≡ true → n + 4 ≤ length bytes
    long t = elim (cases_lt (length bytes) (n + 4)) [
      | inl less ↦ absurd (false≢true (sym (not_summed-short crc32 n bytes less) ∙ t))
      | inr le ↦ le
    ]

pub part_front : (n : ℕ) (a b : List ℕ) → n + 4 ≤ length a → part n (a ++ b) ≡ part n a
part_front n a b h =
    (λ i. cond (summed_front crc32 n a b h i) (Some (take-append-le n a b (omega (arith, h)) i)) None)

pub part_again : (p rest : List ℕ) (n : ℕ) → n ≡ length p → part n (summed crc32 p ++ rest) ≡ Some p
part_again p rest n is = let told = summed_again crc32 p rest n is in (λ i. cond (told.0 i) (Some (told.1 i)) None)

-- ---- bytes behind others

number_front : (place : ℕ) (a b : List ℕ) → place + 4 ≤ length a → number_at place (a ++ b) ≡ number_at place a
number_front place a b h =
    let long : 4 ≤ length (drop place a) = omega (arith, length-drop place a, h) in
    ap (λ l. from_le_bytes w32 (take 4 l)) (drop-append-le place a b (omega (arith, h)))
    ∙ ap (from_le_bytes w32) (take-append-le 4 (drop place a) b long)

module _ (a b : List ℕ) (h : 13 ≤ length a) where
  key_length_front : key_length (a ++ b) ≡ key_length a
  key_length_front = number_front 1 a b (omega (arith, h))

  value_length_front : number_at 5 (a ++ b) ≡ number_at 5 a
  value_length_front = number_front 5 a b (omega (arith, h))

  pub record_length_front : record_length (a ++ b) ≡ record_length a
  record_length_front = (λ i. 21 + (key_length_front i + value_length_front i))

  module _ (place : ℕ) where
    pub head_front : has_head place (a ++ b) ≡ has_head place a
    head_front = summed_front (sum_at place) 9 a b h

    pub step_front : step place (a ++ b) ≡ step place a
    step_front = (λ i. cond (head_front i) (record_length_front i) 1)

  pub value_place_front : value_place (a ++ b) ≡ value_place a
  value_place_front = ap (λ n. 17 + n) key_length_front

  key_part_front : 17 + key_length a ≤ length a → part (key_length (a ++ b)) (drop 13 (a ++ b)) ≡ part (key_length a) (drop 13 a)
  key_part_front long =
      (λ i. part (key_length_front i) (drop-append-le 13 a b h i))
      ∙ part_front (key_length a) (drop 13 a) b (omega (arith, length-drop 13 a, long))

  pub key_front : (place : ℕ) → (has_head place a ≡ true → 17 + key_length a ≤ length a) → key_in place (a ++ b) ≡ key_in place a
  key_front place long =
      ap (λ t. cond t (part (key_length (a ++ b)) (drop 13 (a ++ b))) None) (head_front place)
      ∙ elim (has_head place a) as (λ t. has_head place a ≡ t → cond t (part (key_length (a ++ b)) (drop 13 (a ++ b))) None ≡ cond t (part (key_length a) (drop 13 a)) None) [
        | true ↦ λ e. key_part_front (long e)
        | false ↦ λ e. refl
      ] refl

  module _ (long : record_length a ≤ length a) where
    value_front : value_in_record (a ++ b) ≡ value_in_record a
    value_front =
        (λ i. part (value_length_front i) (drop (value_place_front i) (a ++ b)))
        ∙ ap (part (number_at 5 a)) (drop-append-le (value_place a) a b (omega (arith, long)))
        ∙ part_front (number_at 5 a) (drop (value_place a) a) b (omega (arith, length-drop (value_place a) a, long))

    first_byte : (key value : List ℕ) → marked (a ++ b) key value ≡ marked a key value
    first_byte key value = of a h
      where
        of : (l : List ℕ) → 13 ≤ length l → marked (l ++ b) key value ≡ marked l key value
        of [] p = absurd (omega (arith, p))
        of (zero ∷ l) p = refl
        of (suc zero ∷ l) p = refl
        of (suc (suc zero) ∷ l) p = elim value as (λ v. marked (2 ∷ (l ++ b)) key v ≡ marked (2 ∷ l) key v) [ [] ↦ refl | x ∷ xs ↦ refl ]
        of (suc (suc (suc n)) ∷ l) p = refl

    fields_front : (k v : Option (List ℕ)) → fields_of (a ++ b) k v ≡ fields_of a k v
    fields_front None v = refl
    fields_front (Some k) None = refl
    fields_front (Some k) (Some v) = first_byte k v

    whole_front : behind_head (a ++ b) ≡ behind_head a
    whole_front =
        let more : record_length (a ++ b) ≤ length (a ++ b) = omega (arith, record_length_front, length-append a b, long) in
        ap (λ t. cond t Torn (fields_of (a ++ b) (part (key_length (a ++ b)) (drop 13 (a ++ b))) (value_in_record (a ++ b)))) (le-ltb _ _ more)
        ∙ (λ i. fields_of (a ++ b) (key_part_front (omega (arith, long)) i) (value_front i))
        ∙ fields_front (part (key_length a) (drop 13 a)) (value_in_record a)
        ∙ sym (ap (λ t. cond t Torn (fields_of a (part (key_length a) (drop 13 a)) (value_in_record a))) (le-ltb _ _ long))

  pub read_front : (place : ℕ) → (has_head place a ≡ true → record_length a ≤ length a) → reading place (a ++ b) ≡ reading place a
  read_front place long =
      let more : 13 ≤ length (a ++ b) = omega (arith, length-append a b, h) in
      ap (λ t. cond t Torn (cond (has_head place (a ++ b)) (behind_head (a ++ b)) Damaged)) (le-ltb _ _ more)
      ∙ ap (λ t. cond t (behind_head (a ++ b)) Damaged) (head_front place)
      ∙ elim (has_head place a) as (λ t. has_head place a ≡ t → cond t (behind_head (a ++ b)) Damaged ≡ cond t (behind_head a) Damaged) [
        | true ↦ λ e. whole_front (long e)
        | false ↦ λ e. refl
      ] refl
      ∙ sym (ap (λ t. cond t Torn (cond (has_head place a) (behind_head a) Damaged)) (le-ltb _ _ h))

-- ---- what was encoded is read

pub length-encoded : (place : ℕ) (r : Entry) → length (encoded place r) ≡ size_of r
length-encoded place r = omega (arith, length-append r.key (number (crc32 r.key)), length-append (bytes_of r.value) (number (crc32 (bytes_of r.value))), length-append (summed crc32 r.key) (summed crc32 (bytes_of r.value)))

module _ (r : Entry) (fits : Fits r) where
  from_le_bytes-key_length : from_le_bytes w32 (number (length r.key)) ≡ length r.key
  from_le_bytes-key_length = from_le_bytes-to_le_bytes_4 (length r.key) fits.key

  from_le_bytes-value_length : from_le_bytes w32 (number (length (bytes_of r.value))) ≡ length (bytes_of r.value)
  from_le_bytes-value_length = from_le_bytes-to_le_bytes_4 (length (bytes_of r.value)) fits.value

  marked_told : (o : Option (List ℕ)) (key rest : List ℕ) → marked (mark_of o ∷ rest) key (bytes_of o) ≡ Complete (record { key = key; value = o })
  marked_told None key rest = refl
  marked_told (Some v) key rest = refl

  module _ (place : ℕ) (rest : List ℕ) where
    abbrev behind : List ℕ
    behind = summed crc32 (bytes_of r.value) ++ rest

    -- the parts one behind the other
    abbrev spread : List ℕ
    spread = summed (sum_at place) (head r) ++ (summed crc32 r.key ++ behind)

    spread_is : encoded place r ++ rest ≡ spread
    spread_is =
        append_assoc (summed (sum_at place) (head r)) (summed crc32 r.key ++ summed crc32 (bytes_of r.value)) rest
        ∙ ap (λ l. summed (sum_at place) (head r) ++ l) (append_assoc (summed crc32 r.key) (summed crc32 (bytes_of r.value)) rest)

    spread_length : length spread ≡ size_of r + length rest
    spread_length = sym (ap (λ l. length l) spread_is) ∙ length-append (encoded place r) rest ∙ ap (λ n. n + length rest) (length-encoded place r)

    key_told : part (key_length spread) (drop 13 spread) ≡ Some r.key
    key_told = part_again r.key behind (key_length spread) from_le_bytes-key_length

    place_told : drop (value_place spread) spread ≡ behind
    place_told =
        let at : 13 + (length r.key + 4) ≡ value_place spread = omega (arith, from_le_bytes-key_length) in
        let size : length (summed crc32 r.key) ≡ length r.key + 4 = length-append r.key (number (crc32 r.key)) in
        ap (λ n. drop n spread) (sym at) ∙ sym (drop-drop (length r.key + 4) 13 spread) ∙ drop_at (summed crc32 r.key) behind (length r.key + 4) size

    value_told : value_in_record spread ≡ Some (bytes_of r.value)
    value_told = ap (part (number_at 5 spread)) place_told ∙ part_again (bytes_of r.value) rest (number_at 5 spread) from_le_bytes-value_length

    long_told : record_length spread ≤ length spread
    long_told = omega (arith, spread_length, from_le_bytes-key_length, from_le_bytes-value_length)

    thirteen : 13 ≤ length spread
    thirteen = let size = spread_length in omega (arith, size)

    head_told : has_head place spread ≡ true
    head_told = (summed_again (sum_at place) (head r) (summed crc32 r.key ++ behind) 9 refl).0

    pub read_again : reading place (encoded place r ++ rest) ≡ Complete r
    read_again =
        ap (reading place) spread_is
        ∙ ap (λ t. cond t Torn (cond (has_head place spread) (behind_head spread) Damaged)) (le-ltb _ _ thirteen)
        ∙ ap (λ t. cond t (behind_head spread) Damaged) head_told
        ∙ ap (λ t. cond t Torn (fields_of spread (part (key_length spread) (drop 13 spread)) (value_in_record spread))) (le-ltb _ _ long_told)
        ∙ (λ i. fields_of spread (key_told i) (value_told i))
        ∙ marked_told r.value r.key (drop 1 spread)

-- ---- what is known of bytes that are read as a record

pub record Whole (place : ℕ) (bytes : List ℕ) (r : Entry) : Type 0 where
  pub head_long : 13 ≤ length bytes
  pub head : has_head place bytes ≡ true
  pub long : record_length bytes ≤ length bytes
  pub key : part (key_length bytes) (drop 13 bytes) ≡ Some r.key
  pub value : value_in_record bytes ≡ Some (bytes_of r.value)
  pub mark : slice_index_or bytes 0 0 ≡ mark_of r.value

complete_is : (x y : Entry) → Complete x ≡ Complete y → x ≡ y
complete_is x y e = cc

marked_parts : (r : Entry) (bytes key value : List ℕ) → marked bytes key value ≡ Complete r
    → (slice_index_or bytes 0 0 ≡ mark_of r.value) × (key ≡ r.key) × (value ≡ bytes_of r.value)
marked_parts r [] key value e = absurd (cc)
marked_parts r (zero ∷ rest) key value e = absurd (cc)
marked_parts r (suc zero ∷ rest) key value e =
    let was : r ≡ record { key = key; value = Some value } = sym (complete_is _ _ e) in
    (ap (λ (x : Entry). mark_of x.value) (sym was), ap (λ (x : Entry). x.key) (sym was), ap (λ (x : Entry). bytes_of x.value) (sym was))
marked_parts r (suc (suc zero) ∷ rest) key [] e =
    let was : r ≡ record { key = key; value = None } = sym (complete_is _ _ e) in
    (ap (λ (x : Entry). mark_of x.value) (sym was), ap (λ (x : Entry). x.key) (sym was), ap (λ (x : Entry). bytes_of x.value) (sym was))
marked_parts r (suc (suc zero) ∷ rest) key (v ∷ vs) e = absurd (cc)
marked_parts r (suc (suc (suc n)) ∷ rest) key value e = absurd (cc)

fields_parts : (r : Entry) (bytes : List ℕ) (k v : Option (List ℕ)) → fields_of bytes k v ≡ Complete r
    → (slice_index_or bytes 0 0 ≡ mark_of r.value) × (k ≡ Some r.key) × (v ≡ Some (bytes_of r.value))
fields_parts r bytes None v e = absurd (cc)
fields_parts r bytes (Some k) None e = absurd (cc)
fields_parts r bytes (Some k) (Some v) e =
    let parts = marked_parts r bytes k v e in (parts.0, ap (λ l. Some l) parts.1, ap (λ l. Some l) parts.2)

not_first : (r : Entry) (x : Outcome) → ¬ (x ≡ Complete r) → (t : Bool) (o : Outcome) → cond t x o ≡ Complete r → (t ≡ false) × (o ≡ Complete r)
not_first r x never true o e = absurd (never e)
not_first r x never false o e = (refl, e)

not_second : (r : Entry) (x : Outcome) → ¬ (x ≡ Complete r) → (t : Bool) (o : Outcome) → cond t o x ≡ Complete r → (t ≡ true) × (o ≡ Complete r)
not_second r x never true o e = (refl, e)
not_second r x never false o e = absurd (never e)

pub torn_apart : (r : Entry) → ¬ (Torn ≡ Complete r)
torn_apart r e = cc

damaged_apart : (r : Entry) → ¬ (Damaged ≡ Complete r)
damaged_apart r e = cc

pub whole_of : (place : ℕ) (bytes : List ℕ) (r : Entry) → reading place bytes ≡ Complete r → Whole place bytes r
whole_of place bytes r e =
    let first = not_first r Torn (torn_apart r) _ _ e in
    let second = not_second r Damaged (damaged_apart r) _ _ first.1 in
    let third = not_first r Torn (torn_apart r) _ _ second.1 in
    let parts = fields_parts r bytes _ _ third.1 in
    record { head_long = ltb-false _ _ first.0; head = second.0; long = ltb-false _ _ third.0; key = parts.1; value = parts.2; mark = parts.0 }

pub key_in-whole : (place : ℕ) (bytes : List ℕ) (r : Entry) → reading place bytes ≡ Complete r → key_in place bytes ≡ Some r.key
key_in-whole place bytes r e = let w = whole_of place bytes r e in ap (λ t. cond t (part (key_length bytes) (drop 13 bytes)) None) w.head ∙ w.key

pub read_more : (place : ℕ) (a b : List ℕ) (r : Entry) → reading place a ≡ Complete r → reading place (a ++ b) ≡ Complete r
read_more place a b r e = let w = whole_of place a r e in read_front a b w.head_long place (λ _. w.long) ∙ e

-- ---- what is read was encoded

abbrev pub AreBytes : List ℕ → Type 0
AreBytes bytes = (i : ℕ) → slice_index_or bytes i 0 < 256

pub AreBytes-drop : (n : ℕ) (bytes : List ℕ) → AreBytes bytes → AreBytes (drop n bytes)
AreBytes-drop n bytes h i = subst (λ x. x < 256) (sym (get_or-drop n bytes i 0)) (h (n + i))

pub AreBytes-take : (n : ℕ) (bytes : List ℕ) → AreBytes bytes → AreBytes (take n bytes)
AreBytes-take n bytes h i =
    elim (cases_lt i n) [
      | inl lt ↦ subst (λ x. x < 256) (sym (get_or-take n bytes i 0 lt)) (h i)
      | inr le ↦ subst (λ x. x < 256) (sym (get_or_past (take n bytes) i 0 (omega (arith, length-take n bytes, le)))) (omega arith)
    ]

from_le_bytes-below : (bytes : List ℕ) → AreBytes bytes → from_le_bytes w32 bytes < 2 ^ 32
from_le_bytes-below bytes fits = omega (arith, fits 0, fits 1, fits 2, fits 3)

number_below : (place : ℕ) (bytes : List ℕ) → AreBytes bytes → number_at place bytes < 2 ^ 32
number_below place bytes fits = from_le_bytes-below (take 4 (drop place bytes)) (AreBytes-take 4 (drop place bytes) (AreBytes-drop place bytes fits))

number_back : (place : ℕ) (bytes : List ℕ) → AreBytes bytes → place + 4 ≤ length bytes → number (number_at place bytes) ≡ take 4 (drop place bytes)
number_back place bytes fits h =
    let long : length (take 4 (drop place bytes)) ≡ 4 = omega (arith, length-take 4 (drop place bytes), length-drop place bytes, h) in
    le_bytes_4 (take 4 (drop place bytes)) _ long (AreBytes-take 4 (drop place bytes) (AreBytes-drop place bytes fits)) refl

-- the mark and the two lengths
take-header : (bytes : List ℕ) → AreBytes bytes → 9 ≤ length bytes
    → take 9 bytes ≡ slice_index_or bytes 0 0 ∷ (number (number_at 1 bytes) ++ number (number_at 5 bytes))
take-header [] fits h = absurd (omega (arith, h))
take-header (m ∷ bytes) fits h =
    let all : List ℕ = m ∷ bytes in
    let more : take 4 (drop 4 bytes) ≡ number (number_at 5 all) = sym (number_back 5 all fits h) in
    let first : take 4 bytes ≡ number (number_at 1 all) = sym (number_back 1 all fits (omega (arith, h))) in
    ap (λ l. m ∷ l) (eight bytes ∙ (λ i. first i ++ more i))
  where
    eight : (l : List ℕ) → take 8 l ≡ take 4 l ++ take 4 (drop 4 l)
    eight [] = refl
    eight (a ∷ []) = refl
    eight (a ∷ b ∷ []) = refl
    eight (a ∷ b ∷ c ∷ []) = refl
    eight (a ∷ b ∷ c ∷ d ∷ l) = refl

module _ (place : ℕ) (bytes : List ℕ) (r : Entry) (w : Whole place bytes r) where
  key_part : (is_summed crc32 (key_length bytes) (drop 13 bytes) ≡ true) × (take (key_length bytes) (drop 13 bytes) ≡ r.key) × (key_length bytes + 4 ≤ length (drop 13 bytes))
  key_part = part_is (key_length bytes) (drop 13 bytes) r.key w.key

  value_part : (is_summed crc32 (number_at 5 bytes) (drop (value_place bytes) bytes) ≡ true) × (take (number_at 5 bytes) (drop (value_place bytes) bytes) ≡ bytes_of r.value) × (number_at 5 bytes + 4 ≤ length (drop (value_place bytes) bytes))
  value_part = part_is (number_at 5 bytes) (drop (value_place bytes) bytes) (bytes_of r.value) w.value

  key_size : key_length bytes ≡ length r.key
  key_size = omega (arith, ap (λ l. length l) key_part.1, length-take (key_length bytes) (drop 13 bytes), key_part.2)

  value_size : number_at 5 bytes ≡ length (bytes_of r.value)
  value_size = omega (arith, ap (λ l. length l) value_part.1, length-take (number_at 5 bytes) (drop (value_place bytes) bytes), value_part.2)

  pub whole_length : record_length bytes ≡ size_of r
  whole_length = omega (arith, key_size, value_size)

module _ (place : ℕ) (bytes : List ℕ) (r : Entry) (are : AreBytes bytes) (w : Whole place bytes r) where
  pub whole_fits : Fits r
  whole_fits = record { key = omega (arith, key_size place bytes r w, number_below 1 bytes are); value = omega (arith, value_size place bytes r w, number_below 5 bytes are) }

  head_is : take 9 bytes ≡ head r
  head_is = take-header bytes are (omega (arith, w.head_long)) ∙ (λ i. w.mark i ∷ (number (key_size place bytes r w i) ++ number (value_size place bytes r w i)))

  pub whole_spelled : bytes ≡ encoded place r ++ drop (size_of r) bytes
  whole_spelled =
      let k = key_length bytes in
      let v = number_at 5 bytes in
      let rest : List ℕ = drop (v + 4) (drop (value_place bytes) bytes) in
      let end : value_place bytes + (v + 4) ≡ size_of r = omega (arith, whole_length place bytes r w) in
      let last : rest ≡ drop (size_of r) bytes = drop-drop (v + 4) (value_place bytes) bytes ∙ ap (λ n. drop n bytes) end in
      let at : 13 + (k + 4) ≡ value_place bytes = omega arith in
      let value : drop (k + 4) (drop 13 bytes) ≡ summed crc32 (bytes_of r.value) ++ rest =
      drop-drop (k + 4) 13 bytes ∙ ap (λ n. drop n bytes) at ∙ summed_back crc32 v (drop (value_place bytes) bytes) (value_part place bytes r w).0 ∙ ap (λ l. summed crc32 l ++ rest) (value_part place bytes r w).1 in
      let key : drop 13 bytes ≡ summed crc32 r.key ++ (summed crc32 (bytes_of r.value) ++ rest) =
      summed_back crc32 k (drop 13 bytes) (key_part place bytes r w).0 ∙ (λ i. summed crc32 ((key_part place bytes r w).1 i) ++ value i) in
      summed_back (sum_at place) 9 bytes w.head ∙ (λ i. summed (sum_at place) (head_is i) ++ key i)
      ∙ sym (spread_is r whole_fits place rest) ∙ ap (λ l. encoded place r ++ l) last

pub IsFound-reading : (place : ℕ) (bytes : List ℕ) (o : Outcome) → AreBytes bytes → o ≡ reading place bytes → IsFound place bytes o
IsFound-reading place bytes (Complete r) are e = let w = whole_of place bytes r (sym e) in (whole_fits place bytes r are w, whole_spelled place bytes r are w)
IsFound-reading place bytes Torn are e = tt
IsFound-reading place bytes Damaged are e = tt

-- ---- a record in a longer log

-- a record takes no more than the bytes at whose front it stands
pub found_long : (place : ℕ) (a : List ℕ) (r : Entry) → IsFound place a (Complete r) → size_of r ≤ length a
found_long place a r h =
    omega (arith, ap (λ l. length l) h.1, length-append (encoded place r) (drop (size_of r) a), length-encoded place r)

pub found_front : (place : ℕ) (a b : List ℕ) (r : Entry) → IsFound place a (Complete r) → IsFound place (a ++ b) (Complete r)
found_front place a b r h =
    let n = size_of r in
    (h.0, ap (λ l. l ++ b) h.1 ∙ append_assoc (encoded place r) (drop n a) b ∙ ap (λ l. encoded place r ++ l) (sym (drop-append-le n a b (found_long place a r h))))

pub within_found : (place n : ℕ) (a : List ℕ) (o : Outcome) → IsFound place a o → length a ≤ n → IsWithin n o
within_found place n a (Complete r) h le = (h.0, omega (arith, found_long place a r h, le))
within_found place n a Torn h le = tt
within_found place n a Damaged h le = tt

-- a part of a record, from its front on, that has the head
module _ (place : ℕ) (r : Entry) (fits : Fits r) (n : ℕ) (long : 13 ≤ length (take n (encoded place r))) where
  begun_whole : take n (encoded place r) ++ drop n (encoded place r) ≡ spread r fits place []
  begun_whole = take-append-drop n (encoded place r) ∙ sym (append-nil (encoded place r)) ∙ spread_is r fits place []

  pub begun_head : has_head place (take n (encoded place r)) ≡ true
  begun_head = sym (head_front (take n (encoded place r)) (drop n (encoded place r)) long place) ∙ ap (has_head place) begun_whole ∙ head_told r fits place []

  pub begun_length : record_length (take n (encoded place r)) ≡ size_of r
  begun_length =
      sym (record_length_front (take n (encoded place r)) (drop n (encoded place r)) long) ∙ ap record_length begun_whole
      ∙ omega (arith, from_le_bytes-key_length r fits, from_le_bytes-value_length r fits)

-- it is torn
pub begun_torn : (place : ℕ) (r : Entry) (n : ℕ) → Fits r → n < size_of r → reading place (take n (encoded place r)) ≡ Torn
begun_torn place r n fits less =
    let a = take n (encoded place r) in
    let size : length a ≡ n = omega (arith, length-take n (encoded place r), length-encoded place r, less) in
    elim (cases_lt n 13) [
      | inl few ↦ ap (λ t. cond t Torn (cond (has_head place a) (behind_head a) Damaged)) (lt-ltb (length a) 13 (omega (arith, size, few)))
      | inr le ↦ (
          let thirteen : 13 ≤ length a = omega (arith, size, le) in
          ap (λ t. cond t Torn (cond (has_head place a) (behind_head a) Damaged)) (le-ltb _ _ thirteen)
          ∙ ap (λ t. cond t (behind_head a) Damaged) (begun_head place r fits n thirteen)
          ∙ ap (λ t. cond t Torn (fields_of a (part (key_length a) (drop 13 a)) (value_in_record a))) (lt-ltb (length a) (record_length a) (omega (arith, size, begun_length place r fits n thirteen, less))))
    ]
