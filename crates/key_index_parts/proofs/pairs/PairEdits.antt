-- What other values in the place of those of a key's run make of the content, and where a pair of the key may go in.
--     IsSorted-insert     a pair of the key may go in at each place of its run
--     grouped-set_run     other values in the place of the run's
use Rattle.std.proofs.Common.{◌≡◌, ℕ, ◌+◌, ◌≤◌, true, false, cond, T, List, [], ◌∷◌, ◌++◌, length, insert, append-nil, refl, sym, ap, subst, ◌∙◌, arith}
use Rattle.std.proofs.lemmas.List.{length-map}
use Rattle.std.proofs.lemmas.List.Elements.{All-map, filter-append, filter_passes}
use Rattle.std.specs.List.{filter}
use Rattle.std.specs.List.Sorted.{IsSorted}
use Rattle.std.specs.Map.{keys_of, values_of}
use Rattle.std.specs.Cmp.{IsTotalOrder, tied_itself}
use Rattle.std.specs.declared.cmp.Ordering.{Ordering}
use Rattle.std.specs.declared.cmp.Ordering.TheVariants.{Equal}
use Rattle.std.specs.Ordering.{is_lt, is_eq, eq_by_cmp, ordering_reverse}
use Rattle.key_index_flat.specs.Content.{with_list}
use Rattle.key_index_flat.specs.laws.Laws.{IsLawful-with_list}
use Rattle.key_index_flat.specs.Neighbours.{entries_below, entries_above}
use Rattle.key_index_flat.proofs.content.ContentLemmas.{same_content, list_at-with_list, Equal-is_eq, Less-is_lt}
use Rattle.key_index_parts.specs.Spread.{pairs_with}
use Rattle.key_index_parts.specs.Pairs.{run_of, grouped}
use Rattle.key_index_parts.proofs.pairs.SearchLemmas.{Rises, IsSorted-Rises, IsSorted-inserted, count_parts}
use Rattle.key_index_parts.proofs.pairs.PairLemmas.{filter-none, filter-all, length-filter-keys}
use Rattle.key_index_parts.proofs.pairs.RunLemmas.{pairs-below_at_above, pairs_at}
use Rattle.key_index_parts.specs.laws.PairLaws.{IsLawful-grouped}
use Rattle.key_index_parts.proofs.pairs.GroupLemmas.{list_at-grouped}

values_of-pairs_with : {K V : Type 0} (k : K) (vs : List V) → values_of (pairs_with k vs) ≡ vs
values_of-pairs_with k [] = refl
values_of-pairs_with k (v ∷ vs) = ap (λ l. v ∷ l) (values_of-pairs_with k vs)

module _ {K V : Type 0} {cmp : K → K → Ordering} (o : IsTotalOrder cmp) (es : List (K × V)) (k : K) (h : Rises cmp (keys_of es)) where
  abbrev below : List (K × V)
  below = entries_below cmp es k

  abbrev at : List (K × V)
  at = pairs_at o es k

  abbrev above : List (K × V)
  above = entries_above cmp es k

  pub IsSorted-insert : (i : ℕ) → i ≤ length (run_of cmp es k) → IsSorted cmp (insert (keys_of es) (length below + i) k)
  IsSorted-insert i l =
      let first = length-filter-keys (λ x. is_lt (cmp x k)) es in
      IsSorted-inserted o (keys_of es) k (length below + i) (IsSorted-Rises o (keys_of es) h) (omega (arith, first))
      (omega (arith, first, count_parts o (keys_of es) k, length-filter-keys (eq_by_cmp cmp k) es, length-map at (λ e. e.1), l))

  -- other values in the place of those of the run
  pub grouped-set_run : ((x y : K) → cmp x y ≡ Equal → x ≡ y) → (vs : List V) → grouped cmp (below ++ (pairs_with k vs ++ above)) ≡ with_list cmp (grouped cmp es) k vs
  grouped-set_run exact vs =
      let own = pairs_with k vs in
      let fs = below ++ (own ++ above) in
      let Q = λ (e : K × V). eq_by_cmp cmp k e.0 in
      let under : filter Q below ≡ [] = filter-none Q below (λ j d b. ap is_eq (o.antisymm k _ ∙ ap ordering_reverse (Less-is_lt _ (subst T (sym (filter_passes (λ e. is_lt (cmp e.0 k)) es j d b)) tt)))) in
      let over : filter Q above ≡ [] = filter-none Q above (λ j d b. ap is_eq (Less-is_lt _ (subst T (sym (filter_passes (λ e. is_lt (cmp k e.0)) es j d b)) tt))) in
      let runs : (q : K) → run_of cmp fs q ≡ cond (eq_by_cmp cmp q k) vs (run_of cmp es q) = λ q.
      let P = λ (e : K × V). eq_by_cmp cmp q e.0 in
      elim (eq_by_cmp cmp q k) as (λ b. eq_by_cmp cmp q k ≡ b → run_of cmp fs q ≡ cond b vs (run_of cmp es q)) [
        | true ↦ λ y. ap (λ z. run_of cmp fs z) (exact q k (Equal-is_eq _ y))
            ∙ ap values_of (filter-append Q below (own ++ above) ∙ (λ j. under j ++ (filter-append Q own above
            ∙ (λ i. filter-all Q own (All-map (λ e. Q e ≡ true) (λ v. (k, v)) vs (λ j d b. ap is_eq (tied_itself o k))) i ++ over i) ∙ append-nil own) j))
            ∙ values_of-pairs_with k vs
        | false ↦ λ n.
            let none : filter P own ≡ [] = filter-none P own (All-map (λ e. P e ≡ false) (λ v. (k, v)) vs (λ j d b. n)) in
            let other : filter P at ≡ [] = filter-none P at (λ j d b. ap (λ z. eq_by_cmp cmp q z) (sym (exact k _ (Equal-is_eq _ (filter_passes Q es j d b)))) ∙ n) in
            ap values_of (filter-append P below (own ++ above) ∙ ap (λ t. filter P below ++ t) (filter-append P own above ∙ ap (λ t. t ++ filter P above) (none ∙ sym other) ∙ sym (filter-append P at above))
            ∙ sym (filter-append P below (at ++ above)) ∙ ap (filter P) (sym (pairs-below_at_above o es k h)))
      ] refl in
      same_content o exact (grouped cmp fs) _ (IsLawful-grouped o fs) (IsLawful-with_list o (grouped cmp es) k vs (IsLawful-grouped o es)) (λ q.
      list_at-grouped o fs q ∙ runs q ∙ (λ i. cond (eq_by_cmp cmp q k) vs (sym (list_at-grouped o es q) i)) ∙ sym (list_at-with_list o (grouped cmp es) k vs q))
