-- Caps by their bytes and by their numbers: proofs of the laws of arrays.
--     cap_number-first        the number by its first byte and the others
--     cap_cmp                 the numbers of caps compare as their bytes
--     padded-keeps_order      the bytes of keys in order are in order
--     padded-cmp              zeros behind two lists of one length change nothing in how these compare
use Rattle.std.proofs.Common.{◌≡◌, ℕ, zero, suc, ◌+◌, ◌*◌, ◌^◌, ◌<◌, ◌≤◌, false, List, [], ◌∷◌, length, drop, get_or, refl, sym, ap, subst, ◌∙◌, arith}
use Rattle.std.proofs.lemmas.List.Elements.{All-drop}
use Rattle.std.specs.declared.cmp.Ordering.TheVariants.{Less, Equal, Greater}
use Rattle.std.specs.Ordering.{is_gt, nat_cmp, ordering_then}
use Rattle.std.specs.Cmp.{ranked}
use Rattle.key_index_flat.specs.laws.ByteOrder.{length-padded, cap_number-below, cap_number-keeps_order}
use Rattle.key_index_flat.specs.FullKeys.{IsBytes, byte_cmp}
use Rattle.key_index_flat.specs.Neighbours.{KeepsOrder}
use Rattle.key_index_flat.specs.laws.NumberOrder.{nat_below, nat_above, nat_cmp-add, smaller_digit}
use Rattle.key_index_flat.specs.Padding.{padded, big_endian, cap_number}

-- one byte in front of the others
pub padded-first : (n : ℕ) (b : List ℕ) → padded (suc n) b ≡ get_or b 0 0 ∷ padded n (drop 1 b)
padded-first n [] = refl
padded-first n (x ∷ xs) = refl

pub cap_number-first : (n : ℕ) (b : List ℕ) → cap_number (suc n) b ≡ get_or b 0 0 * 256 ^ n + cap_number n (drop 1 b)
cap_number-first n b =
    ap (λ l. big_endian l) (padded-first n b) ∙ ap (λ m. get_or b 0 0 * 256 ^ m + cap_number n (drop 1 b)) (length-padded n (drop 1 b))

nat_cmp-digits : (x y r s p : ℕ) → r < p → s < p → nat_cmp (x * p + r) (y * p + s) ≡ ordering_then (nat_cmp x y) (nat_cmp r s)
nat_cmp-digits x y r s p h k =
    elim (nat_cmp x y) as (λ o. o ≡ nat_cmp x y → nat_cmp (x * p + r) (y * p + s) ≡ ordering_then o (nat_cmp r s)) [
      | Less ↦ λ e. nat_below _ _ (smaller_digit x y r s p (ranked x y Less e) h)
      | Equal ↦ λ e. ap (λ d. nat_cmp (x * p + r) (d * p + s)) (sym (ranked x y Equal e)) ∙ nat_cmp-add (x * p) r s
      | Greater ↦ λ e. nat_above _ _ (smaller_digit y x s r p (ranked x y Greater e) k)
    ] refl

pub cap_cmp : (n : ℕ) (a b : List ℕ) → IsBytes a → IsBytes b → nat_cmp (cap_number n a) (cap_number n b) ≡ byte_cmp (padded n a) (padded n b)
cap_cmp zero a b h k = refl
cap_cmp (suc n) a b h k =
    let later_a : IsBytes (drop 1 a) = All-drop (λ m. m < 256) 1 a h in
    let later_b : IsBytes (drop 1 b) = All-drop (λ m. m < 256) 1 b k in
    (λ i. nat_cmp (cap_number-first n a i) (cap_number-first n b i))
    ∙ nat_cmp-digits (get_or a 0 0) (get_or b 0 0) (cap_number n (drop 1 a)) (cap_number n (drop 1 b)) (256 ^ n) (cap_number-below n (drop 1 a) later_a) (cap_number-below n (drop 1 b) later_b)
    ∙ ap (λ r. ordering_then (nat_cmp (get_or a 0 0) (get_or b 0 0)) r) (cap_cmp n (drop 1 a) (drop 1 b) later_a later_b)
    ∙ sym (λ i. byte_cmp (padded-first n a i) (padded-first n b i))

pub padded-keeps_order : (n : ℕ) → KeepsOrder byte_cmp (padded n)
padded-keeps_order n a b h k e = subst (λ r. is_gt r ≡ false) (cap_cmp n a b h k) (cap_number-keeps_order n a b h k e)

zeros-cmp : (n : ℕ) → byte_cmp (padded n []) (padded n []) ≡ Equal
zeros-cmp zero = refl
zeros-cmp (suc n) = zeros-cmp n

pub padded-cmp : (n : ℕ) (a b : List ℕ) → length a ≡ length b → length a ≤ n → byte_cmp (padded n a) (padded n b) ≡ byte_cmp a b
padded-cmp n [] [] e h = zeros-cmp n
padded-cmp n [] (y ∷ ys) e h = absurd (omega (arith, e))
padded-cmp n (x ∷ xs) [] e h = absurd (omega (arith, e))
padded-cmp zero (x ∷ xs) (y ∷ ys) e h = absurd (omega (arith, h))
padded-cmp (suc n) (x ∷ xs) (y ∷ ys) e h = ap (λ r. ordering_then (nat_cmp x y) r) (padded-cmp n xs ys (omega (arith, e)) (omega (arith, h)))
