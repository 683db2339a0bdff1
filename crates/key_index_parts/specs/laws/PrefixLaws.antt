-- The number of a key's first bytes is that of a partition, and index keys over partitions keep the order of bytes where those of the
-- rest do: the proofs of the laws `reaches` and `keeps_order`.
--     prefix_below           as an order
--     prefix_reaches         as the test of an index
--     partition_by-made, partition_by-below    the partition of a key, where an index is made, and anywhere
--     slot_by-keeps_order    keys in the order of bytes have such index keys in order
use Rattle.std.proofs.Common.{◌≡◌, ℕ, zero, suc, ◌+◌, ◌*◌, ◌^◌, ◌<◌, ◌≤◌, true, false, if◌then◌else◌, ◌&&◌, T, List, [], ◌∷◌, IsTrue, nat_lt, refl, sym, ap, subst, ◌∙◌, arith}
use Rattle.std.proofs.Math.Nat.{one-le-pow}
use Rattle.std.proofs.lemmas.Bool.{lt-ltb}
use Rattle.std.proofs.lemmas.Cmp.{ranked}
use Rattle.std.proofs.lemmas.List.Elements.{All-tail, All-drop}
use Rattle.std.specs.declared.cmp.Ordering.{Ordering}
use Rattle.std.specs.declared.cmp.Ordering.TheVariants.{Less, Equal, Greater}
use Rattle.std.specs.Ordering.{is_gt, nat_cmp, ordering_then}
use Rattle.std.specs.Cmp.Lexicographic.{slice_cmp}
use Rattle.key_index_flat.specs.laws.ByteOrder.{cap_number-below, cap_number-keeps_order}
use Rattle.key_index_flat.specs.laws.CapOrder.{cap_number-first}
use Rattle.key_index_flat.specs.FullKeys.{IsBytes}
use Rattle.key_index_flat.specs.Neighbours.{KeepsOrder}
use Rattle.key_index_flat.specs.laws.NumberOrder.{smaller_digit}
use Rattle.key_index_flat.specs.Padding.{cap_number}
use Rattle.key_index_parts.specs.Gathered.{pair_cmp}
use Rattle.key_index_parts.specs.Prefix.{prefix_number, rest_of, partition_count, partition_by, slot_by}

pub prefix_below : (p : ℕ) (b : List ℕ) → IsBytes b → prefix_number p b < partition_count p
prefix_below p b h = cap_number-below p b h

pub prefix_reaches : (p : ℕ) (b : List ℕ) → IsBytes b → IsTrue (nat_lt (prefix_number p b) (partition_count p))
prefix_reaches p b h = lt-ltb (prefix_number p b) (partition_count p) (prefix_below p b h)

pub partition_by-made : (p : ℕ) (b : List ℕ) → 1 ≤ p → p ≤ 3 → prefix_number p b ≡ partition_by p b
partition_by-made p b least greatest =
    sym (λ i. if lt-ltb 0 p (omega (arith, least)) i && lt-ltb p 4 (omega (arith, greatest)) i then prefix_number p b else 0)

pub partition_by-below : (p : ℕ) (b : List ℕ) → IsBytes b → partition_by p b < partition_count p
partition_by-below p b h =
    elim (nat_lt 0 p && nat_lt p 4) as (λ u. (if u then prefix_number p b else 0) < partition_count p) [
      | true ↦ prefix_below p b h
      | false ↦ one-le-pow p 256 (omega arith)
    ]

empty_first : (b : List ℕ) → is_gt (slice_cmp nat_cmp [] b) ≡ false
empty_first [] = refl
empty_first (y ∷ ys) = refl

-- keys in order, with the same first bytes, have rests in order
rests_in_order : (p : ℕ) (a b : List ℕ) → IsBytes a → IsBytes b → is_gt (slice_cmp nat_cmp a b) ≡ false → prefix_number p a ≡ prefix_number p b → is_gt (slice_cmp nat_cmp (rest_of p a) (rest_of p b)) ≡ false
rests_in_order zero a b h k e same = e
rests_in_order (suc p) [] b h k e same = empty_first (rest_of (suc p) b)
rests_in_order (suc p) (x ∷ xs) [] h k e same = absurd (subst T e tt)
rests_in_order (suc p) (x ∷ xs) (y ∷ ys) h k e same =
    let later_x = All-tail (λ n. n < 256) x xs h in
    let below = cap_number-below p xs later_x in
    let rest = rests_in_order p xs ys later_x (All-tail (λ n. n < 256) y ys k) in
    let digits : x * 256 ^ p + cap_number p xs ≡ y * 256 ^ p + cap_number p ys = sym (cap_number-first p (x ∷ xs)) ∙ same ∙ cap_number-first p (y ∷ ys) in
    elim (nat_cmp x y) as (λ r. r ≡ nat_cmp x y → is_gt (ordering_then r (slice_cmp nat_cmp xs ys)) ≡ false → is_gt (slice_cmp nat_cmp (rest_of p xs) (rest_of p ys)) ≡ false) [
      | Less ↦ λ q _. let less = smaller_digit x y (cap_number p xs) (cap_number p ys) (256 ^ p) (ranked x y Less q) below in absurd (omega (arith, less, digits))
      | Equal ↦ λ q f. let one : x * 256 ^ p ≡ y * 256 ^ p = ap (λ d. d * 256 ^ p) (ranked x y Equal q) in rest f (omega (arith, one, digits))
      | Greater ↦ λ q f. absurd (subst T f tt)
    ] refl e

pub slot_by-keeps_order : {K : Type 0} (p : ℕ) (cmp : K → K → Ordering) (f : List ℕ → K) → KeepsOrder cmp f → KeepsOrder (pair_cmp cmp) (slot_by p f)
slot_by-keeps_order p cmp f keeps a b h k e =
    elim (nat_cmp (prefix_number p a) (prefix_number p b)) as (λ r. r ≡ nat_cmp (prefix_number p a) (prefix_number p b) → is_gt r ≡ false → is_gt (ordering_then r (cmp (f (rest_of p a)) (f (rest_of p b)))) ≡ false) [
      | Less ↦ λ q _. refl
      | Equal ↦ λ q _.
          keeps (rest_of p a) (rest_of p b) (All-drop (λ n. n < 256) p a h) (All-drop (λ n. n < 256) p b k)
          (rests_in_order p a b h k e (ranked (prefix_number p a) (prefix_number p b) Equal q))
      | Greater ↦ λ q g. absurd (subst T g tt)
    ] refl (cap_number-keeps_order p a b h k e)
