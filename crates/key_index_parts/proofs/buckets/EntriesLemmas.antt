-- On the entries of one bucket in the content of them all.
--     item_count-entries_of_from  there are as many values as the bucket holds, of buckets that are numbered from n
--     item_count-entries_of       there are as many values as the bucket holds
use Rattle.std.proofs.Common.{◌≡◌, ℕ, zero, suc, ◌+◌, ◌<◌, cond, List, [], ◌∷◌, ◌++◌, get_or, length, add-zero, zero-add, refl, sym, ap, ◌∙◌, arith}
use Rattle.std.proofs.lemmas.Bool.{eq-eqb, ne_eqb}
use Rattle.key_index_flat.specs.Content.{Content, item_count}
use Rattle.key_index_parts.specs.Buckets.{bucket_at}
use Rattle.key_index_parts.specs.Gathered.{tagged, gathered_from, gathered, entries_of}

module _ {K V : Type 0} where
  count_own : (p : ℕ) (c : Content K V) (d : Content (ℕ × K) V) → item_count (entries_of (tagged p c ++ d) p) ≡ item_count c + item_count (entries_of d p)
  count_own p [] d = omega arith
  count_own p (e ∷ es) d =
      let own : item_count (entries_of (tagged p (e ∷ es) ++ d) p) ≡ length e.1 + item_count (entries_of (tagged p es ++ d) p) =
      ap (λ b. item_count (cond b (((p, e.0), e.1) ∷ entries_of (tagged p es ++ d) p) (entries_of (tagged p es ++ d) p))) (eq-eqb p p refl) in
      let rest = count_own p es d in
      let sum : item_count (entries_of (tagged p (e ∷ es) ++ d) p) ≡ (length e.1 + item_count es) + item_count (entries_of d p) = omega (arith, own, rest) in sum

  none_other : (p n : ℕ) (c : Content K V) (d : Content (ℕ × K) V) → (p ≡ n → ⊥) → entries_of (tagged p c ++ d) n ≡ entries_of d n
  none_other p n [] d other = refl
  none_other p n (e ∷ es) d other =
      ap (λ b. cond b (((p, e.0), e.1) ∷ entries_of (tagged p es ++ d) n) (entries_of (tagged p es ++ d) n)) (ne_eqb p n other) ∙ none_other p n es d other

  none_later : (q n : ℕ) (cs : List (Content K V)) → n < q → entries_of (gathered_from q cs) n ≡ []
  none_later q n [] h = refl
  none_later q n (c ∷ cs) h = none_other q n c (gathered_from (suc q) cs) (λ e. omega (arith, e, h)) ∙ none_later (suc q) n cs (omega (arith, h))

  pub item_count-entries_of_from : (n : ℕ) (cs : List (Content K V)) (p : ℕ) → item_count (entries_of (gathered_from n cs) (n + p)) ≡ item_count (get_or cs p [])
  item_count-entries_of_from n [] p = refl
  item_count-entries_of_from n (c ∷ cs) zero =
      let own = count_own n c (gathered_from (suc n) cs) in
      let none = ap (λ d. item_count d) (none_later (suc n) n cs (omega arith)) in
      ap (λ m. item_count (entries_of (tagged n c ++ gathered_from (suc n) cs) m)) (add-zero n) ∙ omega (arith, own, none)
  item_count-entries_of_from n (c ∷ cs) (suc p) =
      let one_on : n + suc p ≡ suc n + p = omega arith in
      ap (λ d. item_count d) (none_other n (n + suc p) c (gathered_from (suc n) cs) (λ e. omega (arith, e)))
      ∙ ap (λ m. item_count (entries_of (gathered_from (suc n) cs) m)) one_on ∙ item_count-entries_of_from (suc n) cs p

  pub item_count-entries_of : (buckets : List (Content K V)) (n : ℕ) → item_count (entries_of (gathered buckets) n) ≡ item_count (bucket_at buckets n)
  item_count-entries_of buckets n = ap (λ m. item_count (entries_of (gathered buckets) m)) (sym (zero-add n)) ∙ item_count-entries_of_from 0 buckets n
