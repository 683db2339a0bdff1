-- The caps keep the order of bytes: the proofs of their law.
--     cap_number-below         a number of n digits
--     cap_number-keeps_order   the numbers of keys in order are in order
use Rattle.std.proofs.Common.{◌≡◌, ℕ, zero, suc, ◌+◌, ◌*◌, ◌^◌, ◌<◌, ◌≤◌, false, T, List, [], ◌∷◌, length, All, refl, sym, ap, subst, arith}
use Rattle.std.proofs.Math.Nat.{pow-succ', mul-le-mul_right}
use Rattle.std.proofs.lemmas.List.Elements.{All-head, All-tail}
use Rattle.std.proofs.lemmas.Cmp.{ranked}
use Rattle.std.specs.declared.cmp.Ordering.TheVariants.{Less, Equal, Greater}
use Rattle.std.specs.Ordering.{is_gt, nat_cmp, ordering_then}
use Rattle.std.specs.Cmp.Lexicographic.{slice_cmp}
use Rattle.key_index_flat.specs.Padding.{padded, cap_number}
use Rattle.key_index_flat.specs.Neighbours.{KeepsOrder}

abbrev IsByte : ℕ → Type 0
IsByte n = n < 256

pub length-padded : (n : ℕ) (b : List ℕ) → length (padded n b) ≡ n
length-padded zero b = refl
length-padded (suc n) [] = ap suc (length-padded n [])
length-padded (suc n) (x ∷ xs) = ap suc (length-padded n xs)

-- a digit in front of n others
cap_number-digit : (n x : ℕ) (xs : List ℕ) → cap_number (suc n) (x ∷ xs) ≡ x * 256 ^ n + cap_number n xs
cap_number-digit n x xs = ap (λ m. x * 256 ^ m + cap_number n xs) (length-padded n xs)

cap_number-empty : (n : ℕ) → cap_number n [] ≡ 0
cap_number-empty zero = refl
cap_number-empty (suc n) = let rest = cap_number-empty n in omega (arith, rest)

below_digit : (x r p : ℕ) → x < 256 → r < p → x * p + r < 256 * p
below_digit x r p h k = let e : suc x * p ≤ 256 * p = mul-le-mul_right p h in omega (arith, e)

pub cap_number-below : (n : ℕ) (b : List ℕ) → All IsByte b → cap_number n b < 256 ^ n
cap_number-below zero b h = omega arith
cap_number-below (suc n) [] h =
    subst (λ m. cap_number (suc n) [] < m) (sym (pow-succ' 256 n)) (let none = cap_number-empty (suc n) in let rest = cap_number-below n [] h in omega (arith, none, rest))
cap_number-below (suc n) (x ∷ xs) h =
    subst (λ m. m < 256 ^ suc n) (sym (cap_number-digit n x xs)) (subst (λ m. x * 256 ^ n + cap_number n xs < m) (sym (pow-succ' 256 n))
    (below_digit x (cap_number n xs) (256 ^ n) (All-head IsByte x xs h) (cap_number-below n xs (All-tail IsByte x xs h))))

smaller_digit-at_most : (x y r s p : ℕ) → x < y → r < p → x * p + r ≤ y * p + s
smaller_digit-at_most x y r s p h k = let e : suc x * p ≤ y * p = mul-le-mul_right p h in omega (arith, e)

cap_number-rises : (n : ℕ) (a b : List ℕ) → All IsByte a → All IsByte b → is_gt (slice_cmp nat_cmp a b) ≡ false → cap_number n a ≤ cap_number n b
cap_number-rises zero a b h k e = omega arith
cap_number-rises (suc n) [] b h k e = let none = cap_number-empty (suc n) in omega (arith, none)
cap_number-rises (suc n) (x ∷ xs) [] h k e = absurd (subst T e tt)
cap_number-rises (suc n) (x ∷ xs) (y ∷ ys) h k e =
    let tails = All-tail IsByte x xs h in
    let below = cap_number-below n xs tails in
    let rest = cap_number-rises n xs ys tails (All-tail IsByte y ys k) in
    let digits : x * 256 ^ n + cap_number n xs ≤ y * 256 ^ n + cap_number n ys =
    elim (nat_cmp x y) as (λ r. r ≡ nat_cmp x y → is_gt (ordering_then r (slice_cmp nat_cmp xs ys)) ≡ false → x * 256 ^ n + cap_number n xs ≤ y * 256 ^ n + cap_number n ys) [
      | Less ↦ λ p _. smaller_digit-at_most x y (cap_number n xs) (cap_number n ys) (256 ^ n) (ranked x y Less p) below
      | Equal ↦ λ p f. subst (λ d. x * 256 ^ n + cap_number n xs ≤ d * 256 ^ n + cap_number n ys) (ranked x y Equal p) (let r = rest f in omega (arith, r))
      | Greater ↦ λ p f. absurd (subst T f tt)
    ] refl e in
    subst (λ m. m ≤ cap_number (suc n) (y ∷ ys)) (sym (cap_number-digit n x xs)) (subst (λ m. x * 256 ^ n + cap_number n xs ≤ m) (sym (cap_number-digit n y ys)) digits)

not_greater : (x y : ℕ) → x ≤ y → is_gt (nat_cmp x y) ≡ false
not_greater x y h =
    elim (nat_cmp x y) as (λ r. r ≡ nat_cmp x y → is_gt r ≡ false) [
      | Less ↦ λ _. refl
      | Equal ↦ λ _. refl
      | Greater ↦ λ p. let above = ranked x y Greater p in absurd (omega (arith, above))
    ] refl

pub cap_number-keeps_order : (n : ℕ) → KeepsOrder nat_cmp (cap_number n)
cap_number-keeps_order n a b h k e = not_greater _ _ (cap_number-rises n a b h k e)
