-- The laws that an index over buckets gives.
--     pair_total                 the order of pairs is total
--     IsLawful-gathered          the whole is lawful where each bucket is
use Rattle.std.proofs.Common.{ℕ, suc, ◌<◌, T, List, [], ◌∷◌, ◌++◌, All, sym, subst, arith}
use Rattle.std.proofs.lemmas.List.Elements.{All-head, All-tail}
use Rattle.std.specs.declared.cmp.Ordering.{Ordering}
use Rattle.std.specs.Ordering.{ordering_then, is_lt}
use Rattle.std.specs.Cmp.{IsTotalOrder, nat_cmp_total, then_total, on_total}
use Rattle.std.specs.FinMap.Entries.{below_all, is_sorted}
use Rattle.key_index_flat.specs.Content.{Content, is_filled, all_filled, IsLawful}
use Rattle.key_index_flat.specs.laws.Laws.{T-and, T-and_first, T-and_second}
use Rattle.key_index_flat.specs.laws.NumberOrder.{nat_self, nat_below}
use Rattle.key_index_parts.specs.Gathered.{pair_cmp, tagged, gathered_from, gathered}

pub pair_total : {K : Type 0} {cmp : K → K → Ordering} → IsTotalOrder cmp → IsTotalOrder (pair_cmp cmp)
pair_total o = then_total (on_total (λ t. t.0) nat_cmp_total) (on_total (λ t. t.1) o)

module _ {K V : Type 0} (cmp : K → K → Ordering) where
  below_tagged : (p : ℕ) (x : K) (c : Content K V) → T (below_all cmp x c) → T (below_all (pair_cmp cmp) (p, x) (tagged p c))
  below_tagged p x [] h = tt
  below_tagged p x (e ∷ es) h =
      T-and _ _ (subst (λ r. T (is_lt (ordering_then r (cmp x e.0)))) (sym (nat_self p)) (T-and_first _ _ h)) (below_tagged p x es (T-and_second _ _ h))

  below_append : (x : ℕ × K) (a b : Content (ℕ × K) V) → T (below_all (pair_cmp cmp) x a) → T (below_all (pair_cmp cmp) x b) → T (below_all (pair_cmp cmp) x (a ++ b))
  below_append x [] b h k = k
  below_append x (e ∷ es) b h k = T-and _ _ (T-and_first _ _ h) (below_append x es b (T-and_second _ _ h) k)

  below_next : (p q : ℕ) (x : K) (c : Content K V) → p < q → T (below_all (pair_cmp cmp) (p, x) (tagged q c))
  below_next p q x [] h = tt
  below_next p q x (e ∷ es) h =
      T-and _ _ (subst (λ r. T (is_lt (ordering_then r (cmp x e.0)))) (sym (nat_below p q h)) tt) (below_next p q x es h)

  -- a key of an earlier bucket is below all of the later ones
  pub below_all-gathered_later : (p q : ℕ) (x : K) (cs : List (Content K V)) → p < q → T (below_all (pair_cmp cmp) (p, x) (gathered_from q cs))
  below_all-gathered_later p q x [] h = tt
  below_all-gathered_later p q x (c ∷ cs) h = below_append (p, x) (tagged q c) (gathered_from (suc q) cs) (below_next p q x c h) (below_all-gathered_later p (suc q) x cs (omega (arith, h)))

  sorted_before : (p q : ℕ) (c : Content K V) (cs : List (Content K V)) → p < q → T (is_sorted cmp c) → T (is_sorted (pair_cmp cmp) (gathered_from q cs)) → T (is_sorted (pair_cmp cmp) (tagged p c ++ gathered_from q cs))
  sorted_before p q [] cs h s r = r
  sorted_before p q (e ∷ es) cs h s r =
      T-and _ _ (below_append (p, e.0) (tagged p es) (gathered_from q cs) (below_tagged p e.0 es (T-and_first _ _ s)) (below_all-gathered_later p q e.0 cs h)) (sorted_before p q es cs h (T-and_second _ _ s) r)

  filled_before : (p : ℕ) (c : Content K V) (d : Content (ℕ × K) V) → T (all_filled c) → T (all_filled d) → T (all_filled (tagged p c ++ d))
  filled_before p [] d h k = k
  filled_before p (e ∷ es) d h k = T-and (is_filled e.1) _ (T-and_first (is_filled e.1) _ h) (filled_before p es d (T-and_second (is_filled e.1) _ h) k)

  IsLawful-gathered_all : (p : ℕ) (cs : List (Content K V)) → All (IsLawful cmp) cs → IsLawful (pair_cmp cmp) (gathered_from p cs)
  IsLawful-gathered_all p [] h = (tt, tt)
  IsLawful-gathered_all p (c ∷ cs) h =
      let one = All-head (IsLawful cmp) c cs h in
      let rest = IsLawful-gathered_all (suc p) cs (All-tail (IsLawful cmp) c cs h) in
      (sorted_before p (suc p) c cs (omega arith) one.0 rest.0, filled_before p c (gathered_from (suc p) cs) one.1 rest.1)

  pub IsLawful-gathered : (cs : List (Content K V)) → All (IsLawful cmp) cs → IsLawful (pair_cmp cmp) (gathered cs)
  IsLawful-gathered cs h = IsLawful-gathered_all 0 cs h
