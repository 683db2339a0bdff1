-- On the content of buckets that are listed by their numbers.
--     list_at-gathered       a pair's list is that of the bucket at its key
--     list_at-past         and empty past the last bucket
--     with_list-gathered     one bucket with another list at a key is the whole with it at the pair
--     item_count-gathered, key_count-gathered    the counts are sums
use Rattle.std.proofs.Common.{◌≡◌, ℕ, zero, suc, ◌+◌, ◌<◌, ◌≤◌, T, cond, List, [], ◌∷◌, ◌++◌, map, get_or, set, length, sum_by, All, Some, None, unwrap_or, add-zero, zero-add, refl, sym, ap, subst, ◌∙◌, arith}
use Rattle.std.proofs.lemmas.List.{get_or-set_same, get_or-set_other, get_or_past}
use Rattle.std.proofs.lemmas.List.Elements.{All-get_or, All-set, All-head, All-tail}
use Rattle.std.proofs.lemmas.List.Sums.{sum_by-cons}
use Rattle.std.proofs.lemmas.Map.Lookups.{exact_pairs, exact_unsigned}
use Rattle.std.specs.declared.cmp.Ordering.{Ordering}
use Rattle.std.specs.declared.cmp.Ordering.TheVariants.{Less, Equal, Greater}
use Rattle.std.specs.Ordering.{nat_cmp, ordering_then, is_eq, eq_by_cmp}
use Rattle.std.specs.Cmp.{IsTotalOrder, ranked}
use Rattle.std.specs.FinMap.{find}
use Rattle.std.specs.FinMap.Entries.{below_all}
use Rattle.key_index_flat.specs.Content.{Content, IsLawful, list_at, with_list, item_count, key_count}
use Rattle.key_index_flat.specs.laws.Laws.{T-and_first, T-and_second, IsLawful-with_list}
use Rattle.key_index_flat.proofs.content.ContentLemmas.{Less-is_lt, same_content, list_at-with_list}
use Rattle.key_index_parts.specs.Gathered.{pair_cmp, tagged, gathered_from, gathered}
use Rattle.key_index_flat.specs.laws.NumberOrder.{nat_self, nat_above}
use Rattle.key_index_parts.specs.laws.GatheredLaws.{pair_total, below_all-gathered_later, IsLawful-gathered}

module _ {K V : Type 0} (cmp : K → K → Ordering) where
  find-below_all : (q : ℕ × K) (es : Content (ℕ × K) V) → T (below_all (pair_cmp cmp) q es) → find (pair_cmp cmp) q es ≡ None
  find-below_all q [] h = refl
  find-below_all q (e ∷ es) h = ap (λ r. cond (is_eq r) (Some e.1) (find (pair_cmp cmp) q es)) (Less-is_lt _ (T-and_first _ _ h)) ∙ find-below_all q es (T-and_second _ _ h)

  find-tagged_same : (p : ℕ) (k : K) (c : Content K V) (d : Content (ℕ × K) V) → find (pair_cmp cmp) (p, k) d ≡ None → find (pair_cmp cmp) (p, k) (tagged p c ++ d) ≡ find cmp k c
  find-tagged_same p k [] d h = h
  find-tagged_same p k (e ∷ es) d h = λ i. cond (is_eq (ordering_then (nat_self p i) (cmp k e.0))) (Some e.1) (find-tagged_same p k es d h i)

  find-tagged_smaller : (p q : ℕ) (k : K) (c : Content K V) (d : Content (ℕ × K) V) → nat_cmp q p ≡ Greater → find (pair_cmp cmp) (q, k) (tagged p c ++ d) ≡ find (pair_cmp cmp) (q, k) d
  find-tagged_smaller p q k [] d h = refl
  find-tagged_smaller p q k (e ∷ es) d h = ap (λ r. cond (is_eq (ordering_then r (cmp k e.0))) (Some e.1) (find (pair_cmp cmp) (q, k) (tagged p es ++ d))) h ∙ find-tagged_smaller p q k es d h

  find-gathered_from : (n : ℕ) (cs : List (Content K V)) (p : ℕ) (k : K) → find (pair_cmp cmp) (n + p, k) (gathered_from n cs) ≡ find cmp k (get_or cs p [])
  find-gathered_from n [] p k = refl
  find-gathered_from n (c ∷ cs) zero k =
      ap (λ m. find (pair_cmp cmp) (m, k) (tagged n c ++ gathered_from (suc n) cs)) (add-zero n)
      ∙ find-tagged_same n k c (gathered_from (suc n) cs) (find-below_all (n, k) (gathered_from (suc n) cs) (below_all-gathered_later cmp n (suc n) k cs (omega arith)))
  find-gathered_from n (c ∷ cs) (suc p) k =
      let one_on : n + suc p ≡ suc n + p = omega arith in
      find-tagged_smaller n (n + suc p) k c (gathered_from (suc n) cs) (nat_above (n + suc p) n (omega arith))
      ∙ ap (λ m. find (pair_cmp cmp) (m, k) (gathered_from (suc n) cs)) one_on
      ∙ find-gathered_from (suc n) cs p k

  pub list_at-gathered : (cs : List (Content K V)) (p : ℕ) (k : K) → list_at (pair_cmp cmp) (gathered cs) (p, k) ≡ list_at cmp (get_or cs p []) k
  list_at-gathered cs p k =
      ap (λ m. unwrap_or (find (pair_cmp cmp) (m, k) (gathered cs)) []) (sym (zero-add p)) ∙ ap (λ r. unwrap_or r []) (find-gathered_from 0 cs p k)

  pub list_at-past : (cs : List (Content K V)) (p : ℕ) (k : K) → length cs ≤ p → list_at (pair_cmp cmp) (gathered cs) (p, k) ≡ []
  list_at-past cs p k h = list_at-gathered cs p k ∙ ap (λ c. list_at cmp c k) (get_or_past cs p [] h)

  module _ (o : IsTotalOrder cmp) (exact : (x y : K) → cmp x y ≡ Equal → x ≡ y) where
    pub with_list-gathered : (cs : List (Content K V)) (p : ℕ) (k : K) (l : List V) → p < length cs → All (IsLawful cmp) cs → gathered (set cs p (with_list cmp (get_or cs p []) k l)) ≡ with_list (pair_cmp cmp) (gathered cs) (p, k) l
    with_list-gathered cs p k l h lawful =
        let c = get_or cs p [] in
        let after = with_list cmp c k l in
        let each : All (IsLawful cmp) (set cs p after) = All-set (IsLawful cmp) cs p after (IsLawful-with_list o c k l (All-get_or (IsLawful cmp) cs p [] h lawful)) lawful in
        let at : (q : ℕ) (x : K) → list_at cmp (get_or (set cs p after) q []) x ≡ cond (is_eq (ordering_then (nat_cmp q p) (cmp x k))) l (list_at cmp (get_or cs q []) x) = λ q x.
        elim (nat_cmp q p) as (λ r. r ≡ nat_cmp q p → list_at cmp (get_or (set cs p after) q []) x ≡ cond (is_eq (ordering_then r (cmp x k))) l (list_at cmp (get_or cs q []) x)) [
          | Less ↦ λ e. let below = ranked q p Less e in ap (λ d. list_at cmp d x) (get_or-set_other cs p q after [] (λ same. absurd (omega (arith, below, same))))
          | Equal ↦ λ e. let same : q ≡ p = ranked q p Equal e in
              subst (λ m. list_at cmp (get_or (set cs p after) m []) x ≡ cond (is_eq (cmp x k)) l (list_at cmp (get_or cs m []) x)) (sym same)
              (ap (λ d. list_at cmp d x) (get_or-set_same cs p after [] h) ∙ list_at-with_list o c k l x)
          | Greater ↦ λ e. let above = ranked q p Greater e in ap (λ d. list_at cmp d x) (get_or-set_other cs p q after [] (λ same. absurd (omega (arith, above, same))))
        ] refl in
        same_content (pair_total o) (exact_pairs nat_cmp cmp exact_unsigned exact) _ _ (IsLawful-gathered cmp (set cs p after) each) (IsLawful-with_list (pair_total o) (gathered cs) (p, k) l (IsLawful-gathered cmp cs lawful)) (λ q.
        list_at-gathered (set cs p after) q.0 q.1 ∙ at q.0 q.1
        ∙ ap (λ r. cond (eq_by_cmp (pair_cmp cmp) q (p, k)) l r) (sym (list_at-gathered cs q.0 q.1))
        ∙ sym (list_at-with_list (pair_total o) (gathered cs) (p, k) l q))

module _ {K V : Type 0} where
  item_count-before : (p : ℕ) (c : Content K V) (d : Content (ℕ × K) V) → item_count (tagged p c ++ d) ≡ item_count c + item_count d
  item_count-before p [] d = omega arith
  item_count-before p (e ∷ es) d =
      let rest = item_count-before p es d in
      let sum : length e.1 + item_count (tagged p es ++ d) ≡ (length e.1 + item_count es) + item_count d = omega (arith, rest) in sum

  key_count-before : (p : ℕ) (c : Content K V) (d : Content (ℕ × K) V) → key_count (tagged p c ++ d) ≡ key_count c + key_count d
  key_count-before p [] d = omega arith
  key_count-before p (e ∷ es) d = let rest = key_count-before p es d in omega (arith, rest)

  pub item_count-gathered_from : (p : ℕ) (cs : List (Content K V)) → item_count (gathered_from p cs) ≡ sum_by item_count cs
  item_count-gathered_from p [] = refl
  item_count-gathered_from p (c ∷ cs) =
      let one = item_count-before p c (gathered_from (suc p) cs) in
      let rest = item_count-gathered_from (suc p) cs in
      let sum = sum_by-cons item_count c cs in omega (arith, one, rest, sum)

  pub key_count-gathered_from : (p : ℕ) (cs : List (Content K V)) → key_count (gathered_from p cs) ≡ sum_by key_count cs
  key_count-gathered_from p [] = refl
  key_count-gathered_from p (c ∷ cs) =
      let one = key_count-before p c (gathered_from (suc p) cs) in
      let rest = key_count-gathered_from (suc p) cs in
      let sum = sum_by-cons key_count c cs in omega (arith, one, rest, sum)

  pub item_count-gathered : (cs : List (Content K V)) → item_count (gathered cs) ≡ sum_by item_count cs
  item_count-gathered cs = item_count-gathered_from 0 cs

  pub key_count-gathered : (cs : List (Content K V)) → key_count (gathered cs) ≡ sum_by key_count cs
  key_count-gathered cs = key_count-gathered_from 0 cs

  gathered_from-none : {X : Type 0} (f : X → Content K V) (p : ℕ) (xs : List X) → All (λ x. f x ≡ []) xs → gathered_from p (map f xs) ≡ []
  gathered_from-none f p [] h = refl
  gathered_from-none f p (x ∷ xs) h =
      ap (λ c. tagged p c ++ gathered_from (suc p) (map f xs)) (All-head (λ y. f y ≡ []) x xs h) ∙ gathered_from-none f (suc p) xs (All-tail (λ y. f y ≡ []) x xs h)
