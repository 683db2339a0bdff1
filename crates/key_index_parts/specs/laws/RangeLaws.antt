-- The laws that a range gives: what buckets hold together that are numbered from another start.
--     shift, shifted              an index key, and a content, with so many more in its numbers
--     gathered_from-shifted       what the buckets hold together is that of buckets numbered from 0, shifted
--     IsLawful-gathered_from      it is lawful where that is
--     gathered_from-covers        and has no list outside their numbers
use Rattle.std.proofs.Common.{◌≡◌, ℕ, suc, ◌+◌, ◌<◌, ◌≤◌, true, false, cond, not, ◌&&◌, T, List, [], ◌∷◌, ◌++◌, length, Some, None, unwrap_or, add-zero, refl, sym, ap, subst, ◌∙◌, arith}
use Rattle.std.proofs.lemmas.Bool.{lt-ltb, le-ltb}
use Rattle.std.specs.declared.cmp.Ordering.{Ordering}
use Rattle.std.specs.declared.cmp.Ordering.TheVariants.{Less, Equal, Greater}
use Rattle.std.specs.Ordering.{nat_cmp, ordering_then, is_eq, is_lt}
use Rattle.std.specs.Cmp.{ranked}
use Rattle.std.specs.FinMap.{find}
use Rattle.std.specs.FinMap.Entries.{below_all, is_sorted}
use Rattle.key_index_flat.specs.Content.{Content, is_filled, all_filled, IsLawful}
use Rattle.key_index_flat.specs.laws.NumberOrder.{nat_cmp-add}
use Rattle.key_index_parts.specs.Gathered.{pair_cmp, tagged, gathered_from, gathered}
use Rattle.key_index_parts.specs.Joined.{IsFree, is_between}

pub is_between-within : (a b n : ℕ) → a ≤ n → n < b → is_between a b n ≡ true
is_between-within a b n le lt = λ i. not (le-ltb n a le i) && lt-ltb n b lt i

abbrev pub shift : {K : Type 0} → ℕ → ℕ × K → ℕ × K
shift n k = (n + k.0, k.1)

module _ {K V : Type 0} where
  abbrev pub shifted : ℕ → Content (ℕ × K) V → Content (ℕ × K) V
  shifted n [] = []
  shifted n (e ∷ es) = (shift n e.0, e.1) ∷ shifted n es

  shifted-append : (n : ℕ) (c d : Content (ℕ × K) V) → shifted n (c ++ d) ≡ shifted n c ++ shifted n d
  shifted-append n [] d = refl
  shifted-append n (e ∷ es) d = ap (λ w. (shift n e.0, e.1) ∷ w) (shifted-append n es d)

  shifted-tagged : (n p : ℕ) (c : Content K V) → shifted n (tagged p c) ≡ tagged (n + p) c
  shifted-tagged n p [] = refl
  shifted-tagged n p (e ∷ es) = ap (λ w. ((n + p, e.0), e.1) ∷ w) (shifted-tagged n p es)

  gathered_from-shifted_further : (n p : ℕ) (cs : List (Content K V)) → gathered_from (n + p) cs ≡ shifted n (gathered_from p cs)
  gathered_from-shifted_further n p [] = refl
  gathered_from-shifted_further n p (c ∷ cs) =
      let next : suc (n + p) ≡ n + suc p = omega arith in
      ap (λ m. tagged (n + p) c ++ gathered_from m cs) next ∙ ap (λ w. tagged (n + p) c ++ w) (gathered_from-shifted_further n (suc p) cs)
      ∙ ap (λ w. w ++ shifted n (gathered_from (suc p) cs)) (sym (shifted-tagged n p c)) ∙ sym (shifted-append n (tagged p c) (gathered_from (suc p) cs))

  pub gathered_from-shifted : (n : ℕ) (cs : List (Content K V)) → gathered_from n cs ≡ shifted n (gathered cs)
  gathered_from-shifted n cs = ap (λ m. gathered_from m cs) (sym (add-zero n)) ∙ gathered_from-shifted_further n 0 cs

module _ {K : Type 0} (cmp : K → K → Ordering) where
  pub pair_shift : (n : ℕ) (x y : ℕ × K) → pair_cmp cmp (shift n x) (shift n y) ≡ pair_cmp cmp x y
  pair_shift n x y = ap (λ r. ordering_then r (cmp x.1 y.1)) (nat_cmp-add n x.0 y.0)

  is_eq-other_bucket : (p : ℕ) (k x : ℕ × K) → (k.0 ≡ p → ⊥) → x.0 ≡ p → is_eq (pair_cmp cmp k x) ≡ false
  is_eq-other_bucket p k x h same =
      elim (nat_cmp k.0 x.0) as (λ r. r ≡ nat_cmp k.0 x.0 → is_eq (ordering_then r (cmp k.1 x.1)) ≡ false) [
        | Less ↦ λ e. refl
        | Equal ↦ λ e. absurd (h (ranked k.0 x.0 Equal e ∙ same))
        | Greater ↦ λ e. refl
      ] refl

module _ {K V : Type 0} (cmp : K → K → Ordering) where
  below_shifted : (n : ℕ) (x : ℕ × K) (c : Content (ℕ × K) V) → below_all (pair_cmp cmp) (shift n x) (shifted n c) ≡ below_all (pair_cmp cmp) x c
  below_shifted n x [] = refl
  below_shifted n x (e ∷ es) = λ i. is_lt (pair_shift cmp n x e.0 i) && below_shifted n x es i

  sorted_shifted : (n : ℕ) (c : Content (ℕ × K) V) → is_sorted (pair_cmp cmp) (shifted n c) ≡ is_sorted (pair_cmp cmp) c
  sorted_shifted n [] = refl
  sorted_shifted n (e ∷ es) = λ i. below_shifted n e.0 es i && sorted_shifted n es i

  filled_shifted : (n : ℕ) (c : Content (ℕ × K) V) → all_filled (shifted n c) ≡ all_filled c
  filled_shifted n [] = refl
  filled_shifted n (e ∷ es) = ap (λ b. is_filled e.1 && b) (filled_shifted n es)

  pub IsLawful-gathered_from : (n : ℕ) (cs : List (Content K V)) → IsLawful (pair_cmp cmp) (gathered cs) → IsLawful (pair_cmp cmp) (gathered_from n cs)
  IsLawful-gathered_from n cs h =
      subst (λ c. IsLawful (pair_cmp cmp) c) (sym (gathered_from-shifted n cs))
      (subst T (sym (sorted_shifted n (gathered cs))) h.0, subst T (sym (filled_shifted n (gathered cs))) h.1)

  find-tagged_other : (p : ℕ) (k : ℕ × K) (c : Content K V) (d : Content (ℕ × K) V) → (k.0 ≡ p → ⊥) → find (pair_cmp cmp) k (tagged p c ++ d) ≡ find (pair_cmp cmp) k d
  find-tagged_other p k [] d h = refl
  find-tagged_other p k (e ∷ es) d h = ap (λ b. cond b (Some e.1) (find (pair_cmp cmp) k (tagged p es ++ d))) (is_eq-other_bucket cmp p k (p, e.0) h refl) ∙ find-tagged_other p k es d h

  find-outside_range : (n : ℕ) (cs : List (Content K V)) (k : ℕ × K) → (n ≤ k.0 → k.0 < n + length cs → ⊥) → find (pair_cmp cmp) k (gathered_from n cs) ≡ None
  find-outside_range n [] k h = refl
  find-outside_range n (c ∷ cs) k h =
      find-tagged_other n k c (gathered_from (suc n) cs) (λ e. h (omega (arith, e)) (omega (arith, e)))
      ∙ find-outside_range (suc n) cs k (λ a b. h (omega (arith, a)) (omega (arith, b)))

  pub gathered_from-covers : (n : ℕ) (cs : List (Content K V)) → IsFree (pair_cmp cmp) (λ k. not (is_between n (n + length cs) k.0)) (gathered_from n cs)
  gathered_from-covers n cs k out =
      ap (λ o. unwrap_or o []) (find-outside_range n cs k (λ a b. subst T (sym (sym (ap (λ x. not x) (is_between-within n (n + length cs) k.0 a b)) ∙ out)) tt))
