-- What stands above and below a pair in the content of buckets: for the neighbours of a key in an ordered index over buckets.
--     gathered_from-parts    the earlier buckets, one bucket, and the later ones
--     filter-gathered        of a test by keys: what passes of each of these parts
--     above-gathered         what a pair's own bucket has above its key, and then the later buckets
--     below-gathered         the earlier buckets, and then what its own bucket has below its key
use Rattle.std.proofs.Common.{◌≡◌, ℕ, zero, suc, ◌+◌, ◌<◌, ◌≤◌, Bool, true, false, cond, List, [], ◌∷◌, ◌++◌, get_or, length, take, drop, All, add-zero, zero-add, append_assoc, append-nil, refl, sym, ap, ◌∙◌, arith}
use Rattle.std.proofs.lemmas.List.{length-take}
use Rattle.std.proofs.lemmas.List.Elements.{All-nil, All-cons, All-append, filter-append}
use Rattle.std.specs.List.{filter}
use Rattle.std.specs.declared.cmp.Ordering.{Ordering}
use Rattle.std.specs.Ordering.{ordering_then, is_lt}
use Rattle.key_index_flat.specs.Content.{Content}
use Rattle.key_index_flat.specs.Neighbours.{entries_above, entries_below}
use Rattle.key_index_parts.specs.Gathered.{pair_cmp, tagged, gathered_from, gathered}
use Rattle.key_index_flat.specs.laws.NumberOrder.{nat_self, nat_below, nat_above}
use Rattle.key_index_parts.proofs.pairs.PairLemmas.{filter-none, filter-all}

module _ {K V : Type 0} where
  All-tagged : (P : ℕ × K → Type 0) (q : ℕ) (c : Content K V) → ((k : K) → P (q, k)) → All (λ e. P e.0) (tagged q c)
  All-tagged P q [] h = All-nil (λ e. P e.0)
  All-tagged P q (e ∷ es) h = All-cons (λ e. P e.0) ((q, e.0), e.1) (tagged q es) (h e.0) (All-tagged P q es h)

  All-gathered_from : (P : ℕ × K → Type 0) (q : ℕ) (cs : List (Content K V)) → ((m : ℕ) (k : K) → q ≤ m → m < q + length cs → P (m, k)) → All (λ e. P e.0) (gathered_from q cs)
  All-gathered_from P q [] h = All-nil (λ e. P e.0)
  All-gathered_from P q (c ∷ cs) h =
      All-append (λ e. P e.0) (tagged q c) (gathered_from (suc q) cs) (All-tagged P q c (λ k. h q k (omega arith) (omega arith)))
      (All-gathered_from P (suc q) cs (λ m k from under. h m k (omega (arith, from)) (omega (arith, under))))

  gathered_from-parts : (n p : ℕ) (cs : List (Content K V)) → gathered_from n cs ≡ gathered_from n (take p cs) ++ (tagged (n + p) (get_or cs p []) ++ gathered_from (suc (n + p)) (drop (suc p) cs))
  gathered_from-parts n zero [] = refl
  gathered_from-parts n (suc p) [] = refl
  gathered_from-parts n zero (c ∷ cs) = ap (λ m. tagged m c ++ gathered_from (suc m) cs) (sym (add-zero n))
  gathered_from-parts n (suc p) (c ∷ cs) =
      let one_on : suc n + p ≡ n + suc p = omega arith in
      ap (λ d. tagged n c ++ d) (gathered_from-parts (suc n) p cs ∙ ap (λ m. gathered_from (suc n) (take p cs) ++ (tagged m (get_or cs p []) ++ gathered_from (suc m) (drop (suc p) cs))) one_on)
      ∙ sym (append_assoc (tagged n c) (gathered_from (suc n) (take p cs)) _)

  filter-tagged : (test : ℕ × K → Bool) (q : ℕ) (c : Content K V) → filter (λ e. test e.0) (tagged q c) ≡ tagged q (filter (λ e. test (q, e.0)) c)
  filter-tagged test q [] = refl
  filter-tagged test q (e ∷ es) =
      elim (test (q, e.0)) as (λ b. cond b (((q, e.0), e.1) ∷ filter (λ e. test e.0) (tagged q es)) (filter (λ e. test e.0) (tagged q es)) ≡ tagged q (cond b (e ∷ filter (λ e. test (q, e.0)) es) (filter (λ e. test (q, e.0)) es))) [
        | true ↦ ap (λ d. ((q, e.0), e.1) ∷ d) (filter-tagged test q es)
        | false ↦ filter-tagged test q es
      ]

  filter-gathered : (test : ℕ × K → Bool) (p : ℕ) (cs : List (Content K V)) → filter (λ e. test e.0) (gathered cs)
      ≡ filter (λ e. test e.0) (gathered (take p cs)) ++ (tagged p (filter (λ e. test (p, e.0)) (get_or cs p [])) ++ filter (λ e. test e.0) (gathered_from (suc p) (drop (suc p) cs)))
  filter-gathered test p cs =
      let own = get_or cs p [] in
      let later = gathered_from (suc p) (drop (suc p) cs) in
      ap (λ d. filter (λ e. test e.0) d) (gathered_from-parts 0 p cs ∙ ap (λ m. gathered (take p cs) ++ (tagged m own ++ gathered_from (suc m) (drop (suc p) cs))) (zero-add p))
      ∙ filter-append (λ e. test e.0) (gathered (take p cs)) (tagged p own ++ later)
      ∙ ap (λ d. filter (λ e. test e.0) (gathered (take p cs)) ++ d) (filter-append (λ e. test e.0) (tagged p own) later ∙ ap (λ d. d ++ filter (λ e. test e.0) later) (filter-tagged test p own))

module _ {K V : Type 0} (cmp : K → K → Ordering) (cs : List (Content K V)) (p : ℕ) (k : K) where
  abbrev own : Content K V
  own = get_or cs p []

  abbrev earlier : Content (ℕ × K) V
  earlier = gathered (take p cs)

  abbrev later : Content (ℕ × K) V
  later = gathered_from (suc p) (drop (suc p) cs)

  keys_earlier : (P : ℕ × K → Type 0) → ((m : ℕ) (x : K) → m < p → P (m, x)) → All (λ e. P e.0) earlier
  keys_earlier P h = All-gathered_from P 0 (take p cs) (λ m x _ under. h m x (omega (arith, under, length-take p cs)))

  keys_later : (P : ℕ × K → Type 0) → ((m : ℕ) (x : K) → p < m → P (m, x)) → All (λ e. P e.0) later
  keys_later P h = All-gathered_from P (suc p) (drop (suc p) cs) (λ m x from _. h m x (omega (arith, from)))

  pub above-gathered : entries_above (pair_cmp cmp) (gathered cs) (p, k) ≡ tagged p (entries_above cmp own k) ++ later
  above-gathered =
      let test : ℕ × K → Bool = λ x. is_lt (pair_cmp cmp (p, k) x) in
      let none = filter-none (λ e. test e.0) earlier (keys_earlier (λ x. test x ≡ false) (λ m x h. ap (λ r. is_lt (ordering_then r (cmp k x))) (nat_above p m h))) in
      let all = filter-all (λ e. test e.0) later (keys_later (λ x. test x ≡ true) (λ m x h. ap (λ r. is_lt (ordering_then r (cmp k x))) (nat_below p m h))) in
      filter-gathered test p cs ∙ (λ i. none i ++ (tagged p (filter (λ e. is_lt (ordering_then (nat_self p i) (cmp k e.0))) own) ++ all i))

  pub below-gathered : entries_below (pair_cmp cmp) (gathered cs) (p, k) ≡ earlier ++ tagged p (entries_below cmp own k)
  below-gathered =
      let test : ℕ × K → Bool = λ x. is_lt (pair_cmp cmp x (p, k)) in
      let all = filter-all (λ e. test e.0) earlier (keys_earlier (λ x. test x ≡ true) (λ m x h. ap (λ r. is_lt (ordering_then r (cmp x k))) (nat_below m p h))) in
      let none = filter-none (λ e. test e.0) later (keys_later (λ x. test x ≡ false) (λ m x h. ap (λ r. is_lt (ordering_then r (cmp x k))) (nat_above m p h))) in
      filter-gathered test p cs ∙ (λ i. all i ++ (tagged p (filter (λ e. is_lt (ordering_then (nat_self p i) (cmp e.0 k))) own) ++ none i))
      ∙ ap (λ d. earlier ++ d) (append-nil (tagged p (entries_below cmp own k)))
