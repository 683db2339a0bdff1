-- Steps of the loops over bytes and pairs of digits.
use Rattle.std.proofs.Common.{◌≡◌, ℕ, ◌+◌, ◌*◌, ◌/◌, ◌%◌, ◌<◌, ◌≤◌, List, [], ◌∷◌, ◌++◌, length, take, drop, slice_index, slice_set, Option, Some, None, refl, sym, ap, ◌∙◌, arith}
use Rattle.std.specs.Prelude.{option_map, codes}
use Rattle.std.proofs.lemmas.List.{append_assoc, append-nil, drop_all, drop_more, take_all, take_more_set}
use Rattle.key_index_witness_cli.specs.Program.{byte_in, bytes_in, cons_byte, digits_of}

-- the bytes in front of those of a rest
abbrev pub prepend : List ℕ → Option (List ℕ) → Option (List ℕ)
prepend front rest = option_map (λ bytes. front ++ bytes) rest

prepend-cons_byte : (front : List ℕ) (v : ℕ) (o : Option (List ℕ)) → prepend front (cons_byte (Some v) o) ≡ prepend (front ++ v ∷ []) o
prepend-cons_byte front v (Some rest) = ap Some (sym (append_assoc front (v ∷ []) rest))
prepend-cons_byte front v None = refl

-- what is left of a word, at a whole pair
bytes_in-drop : (word : List ℕ) (i : ℕ) → 2 * i + 1 < length word
    → bytes_in (drop (2 * i) word) ≡ cons_byte (byte_in (slice_index word (2 * i)) (slice_index word (2 * i + 1))) (bytes_in (drop (2 * (i + 1)) word))
unfolding bytes_in
bytes_in-drop word i fits =
    let a = drop_more word (2 * i) 0 (omega arith) in
    let b = drop_more word (2 * i + 1) 0 (omega arith) in
    let two : 2 * i + 1 + 1 ≡ 2 * (i + 1) = omega arith in
    rw (a, b, two) refl

-- a byte more is read
pub read_step : (word out : List ℕ) (i v : ℕ) → 2 * i + 1 < length word → i < length out
    → byte_in (slice_index word (2 * i)) (slice_index word (2 * i + 1)) ≡ Some v
    → bytes_in word ≡ prepend (take i out) (bytes_in (drop (2 * i) word))
    → bytes_in word ≡ prepend (take (i + 1) (slice_set out i v)) (bytes_in (drop (2 * (i + 1)) word))
read_step word out i v fits room ok inv =
    let rest = bytes_in (drop (2 * (i + 1)) word) in
    inv ∙ ap (prepend (take i out)) (bytes_in-drop word i fits ∙ ap (λ o. cons_byte o rest) ok)
    ∙ prepend-cons_byte (take i out) v rest
    ∙ ap (λ (f : List ℕ). prepend f rest) (sym (take_more_set out i v room))

-- a pair is refused
pub read_none : (word out : List ℕ) (i : ℕ) → 2 * i + 1 < length word
    → byte_in (slice_index word (2 * i)) (slice_index word (2 * i + 1)) ≡ None
    → bytes_in word ≡ prepend (take i out) (bytes_in (drop (2 * i) word)) → bytes_in word ≡ None
read_none word out i fits bad inv =
    let rest = bytes_in (drop (2 * (i + 1)) word) in
    inv ∙ ap (prepend (take i out)) (bytes_in-drop word i fits ∙ ap (λ o. cons_byte o rest) bad)

-- all bytes are read
pub read_done : (word out : List ℕ) (i : ℕ) → length out ≤ i → length word ≤ 2 * i
    → bytes_in word ≡ prepend (take i out) (bytes_in (drop (2 * i) word)) → bytes_in word ≡ Some out
unfolding bytes_in
read_done word out i h fits inv =
    inv ∙ ap (λ rest. prepend (take i out) (bytes_in rest)) (drop_all (2 * i) word fits)
    ∙ ap Some (append-nil (take i out) ∙ take_all i out h)

-- the digits of one byte more
pub write_step : (bytes front line : List ℕ) (i x y : ℕ) → i < length bytes
    → x ≡ slice_index (codes "0123456789abcdef") (slice_index bytes i / 16)
    → y ≡ slice_index (codes "0123456789abcdef") (slice_index bytes i % 16)
    → line ++ digits_of (drop i bytes) ≡ front ++ digits_of bytes
    → (line ++ x ∷ y ∷ []) ++ digits_of (drop (i + 1) bytes) ≡ front ++ digits_of bytes
unfolding digits_of
write_step bytes front line i x y h ex ey inv =
    rw (append_assoc, ex, ey) (rw (drop_more bytes i 0 h) at inv)

-- all digits are written
pub write_done : (bytes front line : List ℕ) (i : ℕ) → length bytes ≤ i
    → line ++ digits_of (drop i bytes) ≡ front ++ digits_of bytes → line ≡ front ++ digits_of bytes
unfolding digits_of
write_done bytes front line i h inv = rw (drop_all i bytes h, append-nil) at inv
