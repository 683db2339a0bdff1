-- The content that pairs stand for, in whatever order they are.
--     list_at-grouped, item_count-grouped     its lists, and how many values it has
--     none_grouped                   it is empty exactly where there is no pair
--     filter-grouped                 the entries that pass a test of keys are those of the pairs that do
--     entries_above-grouped, ..      so are those above a key, and below
use Rattle.std.proofs.Common.{◌≡◌, Bool, true, false, not, nat_eq, cond, T, List, [], ◌∷◌, length, refl, sym, ap, subst, ◌∙◌, arith}
use Rattle.std.proofs.lemmas.Bool.{eq-eqb, ne_eqb}
use Rattle.std.proofs.lemmas.List.Elements.{filter_agree}
use Rattle.std.specs.List.{filter}
use Rattle.std.specs.Map.{values_of}
use Rattle.std.specs.Cmp.{IsTotalOrder, alike_right}
use Rattle.std.specs.FinMap.{put, is_sorted}
use Rattle.std.specs.FinMap.Entries.{below_all, by_order}
use Rattle.std.specs.declared.cmp.Ordering.{Ordering}
use Rattle.std.specs.declared.cmp.Ordering.TheVariants.{Less, Equal, Greater}
use Rattle.std.specs.Ordering.{is_lt, is_eq, eq_by_cmp}
use Rattle.key_index_flat.specs.Content.{Content, is_filled, all_filled, list_at, item_count}
use Rattle.key_index_flat.specs.laws.Laws.{T-and, T-and_first, T-and_second}
use Rattle.key_index_flat.specs.Neighbours.{entries_above, entries_below}
use Rattle.key_index_flat.proofs.content.ContentLemmas.{list_at-with_list, item_count-with_list, Equal-is_eq, Less-is_lt}
use Rattle.key_index_parts.specs.Pairs.{run_of, grouped}
use Rattle.key_index_parts.specs.laws.PairLaws.{IsLawful-grouped}
use Rattle.key_index_parts.proofs.buckets.CountLemmas.{keys_at_most}

module _ {K V : Type 0} {cmp : K → K → Ordering} (o : IsTotalOrder cmp) where
  -- equal keys have one run
  pub run_of-alike : (es : List (K × V)) (k q : K) → cmp k q ≡ Equal → run_of cmp es k ≡ run_of cmp es q
  run_of-alike es k q e = ap values_of (filter_agree _ _ (λ f. ap is_eq (o.congr k q f.0 e)) es)

  pub list_at-grouped : (es : List (K × V)) (q : K) → list_at cmp (grouped cmp es) q ≡ run_of cmp es q
  list_at-grouped [] q = refl
  list_at-grouped (e ∷ es) q =
      list_at-with_list o (grouped cmp es) e.0 (e.1 ∷ list_at cmp (grouped cmp es) e.0) q
      ∙ (λ i. cond (eq_by_cmp cmp q e.0) (e.1 ∷ list_at-grouped es e.0 i) (list_at-grouped es q i))
      ∙ elim (eq_by_cmp cmp q e.0) as (λ b. eq_by_cmp cmp q e.0 ≡ b → cond b (e.1 ∷ run_of cmp es e.0) (run_of cmp es q)
      ≡ values_of (cond b (e ∷ filter (λ f. eq_by_cmp cmp q f.0) es) (filter (λ f. eq_by_cmp cmp q f.0) es))) [
        | true ↦ λ p. ap (λ l. e.1 ∷ l) (sym (run_of-alike es q e.0 (Equal-is_eq _ p)))
        | false ↦ λ _. refl
      ] refl

  pub item_count-grouped : (es : List (K × V)) → item_count (grouped cmp es) ≡ length es
  item_count-grouped [] = refl
  item_count-grouped (e ∷ es) =
      omega (arith, item_count-grouped es, item_count-with_list o (grouped cmp es) e.0 (e.1 ∷ list_at cmp (grouped cmp es) e.0) (IsLawful-grouped o es))

  -- there is no pair exactly where there is no entry
  pub none_grouped : (es : List (K × V)) → nat_eq (length es) 0 ≡ not (is_filled (grouped cmp es))
  none_grouped es = empty_by_count (grouped cmp es) (IsLawful-grouped o es).1 (item_count-grouped es)
    where
      empty_by_count : (c : Content K V) → T (all_filled c) → item_count c ≡ length es → nat_eq (length es) 0 ≡ not (is_filled c)
      empty_by_count [] h e = eq-eqb (length es) 0 (sym e)
      empty_by_count (x ∷ xs) h e = ne_eqb (length es) 0 (λ none. absurd (omega (arith, keys_at_most (x ∷ xs) h, none, e)))

-- what passes a wider test first
filter-filter : {X : Type 0} (p q : X → Bool) → ((x : X) → q x ≡ true → p x ≡ true) → (xs : List X) → filter q (filter p xs) ≡ filter q xs
filter-filter p q wider [] = refl
filter-filter p q wider (x ∷ xs) =
    elim (p x) as (λ b. p x ≡ b → filter q (cond b (x ∷ filter p xs) (filter p xs)) ≡ cond (q x) (x ∷ filter q xs) (filter q xs)) [
      | true ↦ λ _. ap (λ l. cond (q x) (x ∷ l) l) (filter-filter p q wider xs)
      | false ↦ λ e. filter-filter p q wider xs ∙ elim (q x) as (λ b. q x ≡ b → filter q xs ≡ cond b (x ∷ filter q xs) (filter q xs)) [
        | true ↦ λ f. absurd (subst T (sym (wider x f) ∙ e) tt)
        | false ↦ λ _. refl
      ] refl
    ] refl

module _ {K X : Type 0} {cmp : K → K → Ordering} (o : IsTotalOrder cmp) where
  pub put-below : (k : K) (x : X) (c : List (K × X)) → T (below_all cmp k c) → put cmp k x c ≡ (k, x) ∷ c
  put-below k x [] h = refl
  put-below k x (e ∷ es) h = ap (λ r. by_order r ((k, x) ∷ e ∷ es) ((e.0, x) ∷ es) (e ∷ put cmp k x es)) (Less-is_lt _ (T-and_first (is_lt (cmp k e.0)) _ h))

  below_all-through : (k q : K) (c : List (K × X)) → cmp k q ≡ Less → T (below_all cmp q c) → T (below_all cmp k c)
  below_all-through k q [] l h = tt
  below_all-through k q (e ∷ es) l h =
      T-and (is_lt (cmp k e.0)) _ (subst (λ r. T (is_lt r)) (sym (o.trans k q e.0 l (Less-is_lt _ (T-and_first (is_lt (cmp q e.0)) _ h)))) tt) (below_all-through k q es l (T-and_second (is_lt (cmp q e.0)) _ h))

  below_all-filter : (p : K → Bool) (k : K) (c : List (K × X)) → T (below_all cmp k c) → T (below_all cmp k (filter (λ e. p e.0) c))
  below_all-filter p k [] h = tt
  below_all-filter p k (e ∷ es) h =
      let rest = below_all-filter p k es (T-and_second (is_lt (cmp k e.0)) _ h) in
      elim (p e.0) as (λ b. T (below_all cmp k (cond b (e ∷ filter (λ e. p e.0) es) (filter (λ e. p e.0) es)))) [
        | true ↦ T-and (is_lt (cmp k e.0)) _ (T-and_first (is_lt (cmp k e.0)) _ h) rest
        | false ↦ rest
      ]

  filter-put : (p : K → Bool) → ((k q : K) → cmp k q ≡ Equal → p k ≡ p q) → (k : K) (x : X) (c : List (K × X)) → T (is_sorted cmp c)
      → filter (λ e. p e.0) (put cmp k x c) ≡ cond (p k) (put cmp k x (filter (λ e. p e.0) c)) (filter (λ e. p e.0) c)
  filter-put p alike k x [] h = refl
  filter-put p alike k x (e ∷ es) h =
      let kept = filter (λ e. p e.0) es in
      let whole = filter (λ e. p e.0) (e ∷ es) in
      let after = filter (λ e. p e.0) (put cmp k x es) in
      let rest : after ≡ cond (p k) (put cmp k x kept) kept = filter-put p alike k x es (T-and_second (below_all cmp e.0 es) _ h) in
      elim (cmp k e.0) as (λ r. cmp k e.0 ≡ r → filter (λ e. p e.0) (by_order r ((k, x) ∷ e ∷ es) ((e.0, x) ∷ es) (e ∷ put cmp k x es)) ≡ cond (p k) (put cmp k x whole) whole) [
        | Less ↦ λ q.
            let lowest = T-and (is_lt (cmp k e.0)) (below_all cmp k es) (subst (λ r. T (is_lt r)) (sym q) tt) (below_all-through k e.0 es q (T-and_first (below_all cmp e.0 es) _ h)) in
            ap (λ l. cond (p k) l whole) (sym (put-below k x whole (below_all-filter p k (e ∷ es) lowest)))
        | Equal ↦ λ q.
            elim (p e.0) as (λ b. p k ≡ b → cond b ((e.0, x) ∷ kept) kept ≡ cond (p k) (put cmp k x (cond b (e ∷ kept) kept)) (cond b (e ∷ kept) kept)) [
              | true ↦ λ y. sym (ap (λ b. cond b (put cmp k x (e ∷ kept)) (e ∷ kept)) y ∙ ap (λ r. by_order r ((k, x) ∷ e ∷ kept) ((e.0, x) ∷ kept) (e ∷ put cmp k x kept)) q)
              | false ↦ λ y. sym (ap (λ b. cond b (put cmp k x kept) kept) y)
            ] (alike k e.0 q)
        | Greater ↦ λ q.
            elim (p e.0) as (λ b. cond b (e ∷ after) after ≡ cond (p k) (put cmp k x (cond b (e ∷ kept) kept)) (cond b (e ∷ kept) kept)) [
              | true ↦ ap (λ l. e ∷ l) rest ∙ elim (p k) as (λ b. e ∷ cond b (put cmp k x kept) kept ≡ cond b (put cmp k x (e ∷ kept)) (e ∷ kept)) [
                | true ↦ sym (ap (λ r. by_order r ((k, x) ∷ e ∷ kept) ((e.0, x) ∷ kept) (e ∷ put cmp k x kept)) q)
                | false ↦ refl
              ]
              | false ↦ rest
            ]
      ] refl

module _ {K V : Type 0} {cmp : K → K → Ordering} (o : IsTotalOrder cmp) where
  -- by a test that does not tell equal keys apart
  pub filter-grouped : (p : K → Bool) → ((k q : K) → cmp k q ≡ Equal → p k ≡ p q) → (es : List (K × V))
      → filter (λ e. p e.0) (grouped cmp es) ≡ grouped cmp (filter (λ e. p e.0) es)
  filter-grouped p alike [] = refl
  filter-grouped p alike (e ∷ es) =
      let kept = filter (λ e. p e.0) es in
      let list = e.1 ∷ list_at cmp (grouped cmp es) e.0 in
      filter-put o p alike e.0 list (grouped cmp es) (IsLawful-grouped o es).0
      ∙ ap (λ c. cond (p e.0) (put cmp e.0 list c) c) (filter-grouped p alike es)
      ∙ elim (p e.0) as (λ b. p e.0 ≡ b → cond b (put cmp e.0 list (grouped cmp kept)) (grouped cmp kept) ≡ grouped cmp (cond b (e ∷ kept) kept)) [
        | true ↦ λ y.
            let run : run_of cmp kept e.0 ≡ run_of cmp es e.0 =
            ap values_of (filter-filter (λ f. p f.0) (λ f. eq_by_cmp cmp e.0 f.0) (λ f t. sym (alike e.0 f.0 (Equal-is_eq _ t)) ∙ y) es) in
            ap (λ l. put cmp e.0 (e.1 ∷ l) (grouped cmp kept)) (list_at-grouped o es e.0 ∙ sym run ∙ sym (list_at-grouped o kept e.0))
        | false ↦ λ _. refl
      ] refl

  pub entries_above-grouped : (es : List (K × V)) (k : K) → entries_above cmp (grouped cmp es) k ≡ grouped cmp (entries_above cmp es k)
  entries_above-grouped es k = filter-grouped (λ x. is_lt (cmp k x)) (λ x y e. ap is_lt (alike_right o x y k e)) es

  pub entries_below-grouped : (es : List (K × V)) (k : K) → entries_below cmp (grouped cmp es) k ≡ grouped cmp (entries_below cmp es k)
  entries_below-grouped es k = filter-grouped (λ x. is_lt (cmp x k)) (λ x y e. ap is_lt (o.congr x y k e)) es
