-- The first 32 bytes of a key as four numbers, also behind a front with which most keys begin, and the laws of these.
--     word_at n b          the big-endian number of the eight bytes of b from place n on, with zeros past the end of b
--     front_of b           what a cap of 32 bytes makes of a key
--     front_hash           the product hash of the exclusive or of the numbers
--     front_cmp            the order of the first numbers that differ
--     front-exact          fronts that compare equal are one
--     front-keeps_order    the fronts of keys in the order of bytes are in order
--     part_of p b          of a key that begins with p what stands behind it, after a 1; any other key, after a 0 where it is below, and a 2 where it is above
--     behind_front p b     the front of that
--     front_in             the front of a translator
--     behind_front-keeps_order   so are the fronts of these
use Rattle.std.proofs.Common.{◌≡◌, ℕ, zero, suc, ◌+◌, ◌<◌, false, List, [], ◌∷◌, length, take, drop, refl, sym, ap, subst, ◌∙◌, arith}
use Rattle.std.proofs.lemmas.Cmp.{tied_itself, nat_cmp_total}
use Rattle.std.proofs.lemmas.List.{drop-drop}
use Rattle.std.proofs.lemmas.List.Elements.{All-cons, All-drop}
use Rattle.std.proofs.lemmas.Map.Lookups.{CmpEqualImpliesEq, exact_bytes}
use Rattle.std.specs.Prelude.{IsTrue, bit_xor, fold}
use Rattle.std.specs.declared.cmp.Ordering.{Ordering}
use Rattle.std.specs.declared.cmp.Ordering.TheVariants.{Less, Equal, Greater}
use Rattle.std.specs.BTreeMap.Comparable.{le_lt_trans}
use Rattle.std.specs.BTreeMap.Range.{IsLeBy}
use Rattle.std.specs.Cmp.Lexicographic.{nat_list_cmp_total, slice_cmp}
use Rattle.std.specs.Ordering.{is_gt, is_le, nat_cmp, ordering_then}
use Rattle.key_index_flat.specs.FullKeys.{IsBytes, byte_cmp}
use Rattle.key_index_flat.specs.Hashing.{hash_product}
use Rattle.key_index_flat.specs.Neighbours.{KeepsOrder}
use Rattle.key_index_flat.specs.Padding.{padded, cap_number}
use Rattle.key_index_flat.specs.laws.ByteOrder.{cap_number-keeps_order}
use Rattle.key_index_flat.specs.laws.CapOrder.{cap_cmp}
use Rattle.key_index_store.specs.declared.translator.BehindFront.{BehindFront}
use Rattle.key_index_store.specs.declared.translator.Front.{Front}

abbrev pub word_at : ℕ → List ℕ → ℕ
word_at n b = cap_number 8 (drop n b)

abbrev pub front_of : List ℕ → Front
front_of b = record { words = word_at 0 b ∷ word_at 8 b ∷ word_at 16 b ∷ word_at 24 b ∷ [] }

abbrev pub front_hash : Front → ℕ
front_hash f = hash_product (fold bit_xor 0 f.words)

abbrev pub front_cmp : Front → Front → Ordering
front_cmp f g = slice_cmp nat_cmp f.words g.words

pub front-exact : CmpEqualImpliesEq front_cmp
front-exact f g e i = record { words = exact_bytes f.words g.words e i }

nothing-least : (b : List ℕ) → IsLeBy byte_cmp [] b
nothing-least [] = refl
nothing-least (y ∷ ys) = refl

-- behind bytes that are alike, keys are in the order of what is left
rest-order : (n : ℕ) (a b : List ℕ) → padded n a ≡ padded n b → IsLeBy byte_cmp a b → IsLeBy byte_cmp (drop n a) (drop n b)
rest-order zero a b p e = e
rest-order (suc n) [] b p e = nothing-least (drop (suc n) b)
rest-order (suc n) (x ∷ xs) [] p e = absurd (cc)
rest-order (suc n) (x ∷ xs) (y ∷ ys) p e =
    let same : x ≡ y = cc in
    let tied : nat_cmp x y ≡ Equal = subst (λ z. nat_cmp x z ≡ Equal) same (tied_itself nat_cmp_total x) in
    rest-order n xs ys (cc) (subst (λ o. is_gt (ordering_then o (byte_cmp xs ys)) ≡ false) tied e)

-- a word keeps the order, and where it is the same, what is behind it does
word-order : (m : ℕ) (a b : List ℕ) → IsBytes a → IsBytes b → IsLeBy byte_cmp (drop m a) (drop m b) → (r : Ordering)
    → (IsLeBy byte_cmp (drop (m + 8) a) (drop (m + 8) b) → is_gt r ≡ false) → is_gt (ordering_then (nat_cmp (word_at m a) (word_at m b)) r) ≡ false
word-order m a b h k e r behind =
    let left : IsBytes (drop m a) = All-drop (λ n. n < 256) m a h in
    let right : IsBytes (drop m b) = All-drop (λ n. n < 256) m b k in
    let kept = cap_number-keeps_order 8 (drop m a) (drop m b) left right e in
    elim (nat_cmp (word_at m a) (word_at m b)) as (λ o. o ≡ nat_cmp (word_at m a) (word_at m b) → is_gt o ≡ false → is_gt (ordering_then o r) ≡ false) [
      | Less ↦ λ _ _. refl
      | Equal ↦ λ p _.
          let same = exact_bytes (padded 8 (drop m a)) (padded 8 (drop m b)) (sym (p ∙ cap_cmp 8 (drop m a) (drop m b) left right)) in
          let rest = rest-order 8 (drop m a) (drop m b) same e in
          behind (rw (← drop-drop 8 m a, ← drop-drop 8 m b) rest)
      | Greater ↦ λ _ g. absurd (cc)
    ] refl kept

pub front-keeps_order : KeepsOrder front_cmp front_of
front-keeps_order a b h k e =
    word-order 0 a b h k e _ (λ e₁. word-order 8 a b h k e₁ _ (λ e₂. word-order 16 a b h k e₂ _ (λ e₃. word-order 24 a b h k e₃ _ (λ _. refl))))

-- ---- behind a front

-- by how the first bytes of a key, as many as the front has, stand to it
abbrev pub part_by : Ordering → List ℕ → List ℕ → List ℕ
part_by Less p b = 0 ∷ b
part_by Equal p b = 1 ∷ drop (length p) b
part_by Greater p b = 2 ∷ b

abbrev pub part_of : List ℕ → List ℕ → List ℕ
part_of p b = part_by (byte_cmp (take (length p) b) p) p b

abbrev pub behind_front : List ℕ → List ℕ → Front
behind_front p b = front_of (part_of p b)

abbrev pub front_in : BehindFront → List ℕ
front_in x = take x.len x.front

-- the first bytes of keys in order are in order
take-order : (n : ℕ) (a b : List ℕ) → IsLeBy byte_cmp a b → IsLeBy byte_cmp (take n a) (take n b)
take-order zero a b e = refl
take-order (suc n) [] b e = nothing-least (take (suc n) b)
take-order (suc n) (x ∷ xs) [] e = e
take-order (suc n) (x ∷ xs) (y ∷ ys) e =
    elim (nat_cmp x y) as (λ o. is_gt (ordering_then o (byte_cmp xs ys)) ≡ false → is_gt (ordering_then o (byte_cmp (take n xs) (take n ys))) ≡ false) [
      | Less ↦ λ _. refl
      | Equal ↦ take-order n xs ys
      | Greater ↦ λ g. g
    ] e

pub padded-take : (n : ℕ) (b : List ℕ) → padded n (take n b) ≡ padded n b
padded-take zero b = refl
padded-take (suc n) [] = refl
padded-take (suc n) (x ∷ xs) = ap (λ bs. x ∷ bs) (padded-take n xs)

at_most : (o : Ordering) → is_gt o ≡ false → IsTrue (is_le o)
at_most Less e = refl
at_most Equal e = refl
at_most Greater e = absurd (cc)

-- a key that is below the front has none in front of it that isn't
first-below : (p a b : List ℕ) → IsLeBy byte_cmp a b → byte_cmp (take (length p) b) p ≡ Less → byte_cmp (take (length p) a) p ≡ Less
first-below p a b e below =
    le_lt_trans nat_list_cmp_total (take (length p) a) (take (length p) b) p (at_most _ (take-order (length p) a b e)) below

part-order : (p a b : List ℕ) → IsLeBy byte_cmp a b → (o r : Ordering) → o ≡ byte_cmp (take (length p) a) p → r ≡ byte_cmp (take (length p) b) p
    → IsLeBy byte_cmp (part_by o p a) (part_by r p b)
part-order p a b e Less Less f g = e
part-order p a b e Less Equal f g = refl
part-order p a b e Less Greater f g = refl
part-order p a b e Equal Less f g = absurd (let below = first-below p a b e (sym g) in cc)
part-order p a b e Equal Equal f g =
    let n = length p in
    let same : take n a ≡ take n b = exact_bytes (take n a) p (sym f) ∙ sym (exact_bytes (take n b) p (sym g)) in
    rest-order n a b (sym (padded-take n a) ∙ ap (λ c. padded n c) same ∙ padded-take n b) e
part-order p a b e Equal Greater f g = refl
part-order p a b e Greater Less f g = absurd (let below = first-below p a b e (sym g) in cc)
part-order p a b e Greater Equal f g =
    let n = length p in
    let kept : is_gt (byte_cmp (take n a) p) ≡ false = subst (λ c. is_gt (byte_cmp (take n a) c) ≡ false) (exact_bytes (take n b) p (sym g)) (take-order n a b e) in
    absurd (let greater : is_gt Greater ≡ false = ap is_gt f ∙ kept in cc)
part-order p a b e Greater Greater f g = e

IsBytes-part : (p b : List ℕ) → IsBytes b → (o : Ordering) → IsBytes (part_by o p b)
IsBytes-part p b h Less = All-cons (λ n. n < 256) 0 b (omega arith) h
IsBytes-part p b h Equal = All-cons (λ n. n < 256) 1 (drop (length p) b) (omega arith) (All-drop (λ n. n < 256) (length p) b h)
IsBytes-part p b h Greater = All-cons (λ n. n < 256) 2 b (omega arith) h

pub behind_front-keeps_order : (p : List ℕ) → KeepsOrder front_cmp (behind_front p)
behind_front-keeps_order p a b h k e =
    front-keeps_order (part_of p a) (part_of p b) (IsBytes-part p a h _) (IsBytes-part p b k _) (part-order p a b e _ _ refl refl)
