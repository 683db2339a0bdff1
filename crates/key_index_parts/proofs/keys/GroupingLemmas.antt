-- Index keys over a cap stand to each other as the first bytes of the keys do.
--     flat_compares           index keys that are a cap's numbers
--     partitioned_compares    index keys that are a partition and a cap's number of the rest
--     arrays_compare          index keys that are a cap's bytes
--     partitioned_arrays_compare    index keys that are a partition and a cap's bytes of the rest
use Rattle.std.proofs.Common.{◌≡◌, ℕ, zero, suc, ◌+◌, ◌<◌, List, [], ◌∷◌, ◌++◌, length, drop, get_or, refl, sym, ap, ◌∙◌, arith}
use Rattle.std.proofs.lemmas.List.Elements.{All-drop}
use Rattle.std.proofs.lemmas.Cmp.{nat_list_cmp_total}
use Rattle.std.proofs.lemmas.Map.Lookups.{CmpEqualImpliesEq, exact_pairs, exact_unsigned, exact_bytes}
use Rattle.std.specs.declared.cmp.Ordering.{Ordering}
use Rattle.std.specs.declared.cmp.Ordering.TheVariants.{Less, Equal, Greater}
use Rattle.std.specs.Ordering.{nat_cmp, ordering_then}
use Rattle.std.specs.Cmp.{IsTotalOrder, nat_cmp_total, tied_itself}
use Rattle.key_index_flat.specs.laws.ArrayLaws.{array_cmp-total, array_cmp-exact}
use Rattle.key_index_flat.specs.Arrays.{array_of, array_cmp}
use Rattle.key_index_flat.specs.laws.ByteOrder.{length-padded}
use Rattle.key_index_flat.specs.laws.CapOrder.{padded-first, cap_cmp}
use Rattle.key_index_flat.specs.FullKeys.{IsBytes, byte_cmp}
use Rattle.key_index_flat.specs.Padding.{padded, cap_number}
use Rattle.key_index_parts.specs.Gathered.{pair_cmp}
use Rattle.key_index_parts.specs.laws.GatheredLaws.{pair_total}
use Rattle.key_index_parts.specs.Grouping.{ComparesAs}
use Rattle.key_index_parts.specs.Prefix.{rest_of, slot_by}

-- the first bytes, and those behind them
padded-rest_of : (p n : ℕ) (b : List ℕ) → padded (p + n) b ≡ padded p b ++ padded n (rest_of p b)
padded-rest_of zero n b = let e : 0 + n ≡ n = omega arith in ap (λ m. padded m b) e
padded-rest_of (suc p) n b =
    let e : suc p + n ≡ suc (p + n) = omega arith in
    ap (λ m. padded m b) e ∙ padded-first (p + n) b ∙ ap (λ l. get_or b 0 0 ∷ l) (padded-rest_of p n (drop 1 b)) ∙ sym (ap (λ l. l ++ padded n (rest_of (suc p) b)) (padded-first p b) ∙ ap (λ l. get_or b 0 0 ∷ padded p (drop 1 b) ++ padded n l) (later b))
  where
    none : (m : ℕ) → rest_of m [] ≡ []
    none zero = refl
    none (suc m) = refl

    later : (c : List ℕ) → rest_of (suc p) c ≡ rest_of p (drop 1 c)
    later [] = sym (none p)
    later (x ∷ xs) = refl

then_then : (r s t : Ordering) → ordering_then (ordering_then r s) t ≡ ordering_then r (ordering_then s t)
then_then Less s t = refl
then_then Equal s t = refl
then_then Greater s t = refl

byte_cmp-append : (xs ys us vs : List ℕ) → length xs ≡ length ys → byte_cmp (xs ++ us) (ys ++ vs) ≡ ordering_then (byte_cmp xs ys) (byte_cmp us vs)
byte_cmp-append [] [] us vs e = refl
byte_cmp-append [] (y ∷ ys) us vs e = absurd (omega (arith, e))
byte_cmp-append (x ∷ xs) [] us vs e = absurd (omega (arith, e))
byte_cmp-append (x ∷ xs) (y ∷ ys) us vs e =
    ap (λ r. ordering_then (nat_cmp x y) r) (byte_cmp-append xs ys us vs (omega (arith, e))) ∙ sym (then_then (nat_cmp x y) (byte_cmp xs ys) (byte_cmp us vs))

-- index keys of any cap, which compare as its n bytes
pair_cmp-padded : {K : Type 0} (cmp : K → K → Ordering) (f : List ℕ → K) (p n : ℕ) → ((a b : List ℕ) → IsBytes a → IsBytes b → cmp (f a) (f b) ≡ byte_cmp (padded n a) (padded n b))
    → (a b : List ℕ) → IsBytes a → IsBytes b → pair_cmp cmp (slot_by p f a) (slot_by p f b) ≡ byte_cmp (padded (p + n) a) (padded (p + n) b)
pair_cmp-padded cmp f p n rests a b h k =
    (λ i. ordering_then (cap_cmp p a b h k i) (rests (rest_of p a) (rest_of p b) (All-drop (λ m. m < 256) p a h) (All-drop (λ m. m < 256) p b k) i))
    ∙ sym (byte_cmp-append (padded p a) (padded p b) (padded n (rest_of p a)) (padded n (rest_of p b)) (length-padded p a ∙ sym (length-padded p b)))
    ∙ sym (λ i. byte_cmp (padded-rest_of p n a i) (padded-rest_of p n b i))

-- what compares alike is one alike
ComparesAs-exact : {K : Type 0} {cmp : K → K → Ordering} → IsTotalOrder cmp → CmpEqualImpliesEq cmp → (slot : List ℕ → K) (bytes : List ℕ → List ℕ)
    → ((a b : List ℕ) → IsBytes a → IsBytes b → cmp (slot a) (slot b) ≡ byte_cmp (bytes a) (bytes b)) → ComparesAs cmp slot bytes
ComparesAs-exact {cmp = cmp} total exact slot bytes same a b h k = (
  same a b h k,
  (
    λ e. exact_bytes (bytes a) (bytes b) (sym (same a b h k) ∙ ap (λ s. cmp (slot a) s) (sym e) ∙ tied_itself total (slot a)),
    λ e. exact (slot a) (slot b) (same a b h k ∙ ap (λ l. byte_cmp (bytes a) l) (sym e) ∙ tied_itself nat_list_cmp_total (bytes a)),
  ),
)

pub flat_compares : (n : ℕ) → ComparesAs nat_cmp (cap_number n) (padded n)
flat_compares n = ComparesAs-exact nat_cmp_total exact_unsigned (cap_number n) (padded n) (cap_cmp n)

pub partitioned_compares : (p n : ℕ) → ComparesAs (pair_cmp nat_cmp) (slot_by p (cap_number n)) (padded (p + n))
partitioned_compares p n =
    ComparesAs-exact (pair_total nat_cmp_total) (exact_pairs nat_cmp nat_cmp exact_unsigned exact_unsigned) (slot_by p (cap_number n)) (padded (p + n)) (pair_cmp-padded nat_cmp (cap_number n) p n (cap_cmp n))

pub arrays_compare : (n : ℕ) → ComparesAs array_cmp (array_of n) (padded n)
arrays_compare n = ComparesAs-exact (array_cmp-total n) (array_cmp-exact n) (array_of n) (padded n) (λ a b h k. refl)

pub partitioned_arrays_compare : (p n : ℕ) → ComparesAs (pair_cmp array_cmp) (slot_by p (array_of n)) (padded (p + n))
partitioned_arrays_compare p n =
    ComparesAs-exact (pair_total (array_cmp-total n)) (exact_pairs nat_cmp array_cmp exact_unsigned (array_cmp-exact n)) (slot_by p (array_of n)) (padded (p + n)) (pair_cmp-padded array_cmp (array_of n) p n (λ a b h k. refl))
