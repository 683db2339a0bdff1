-- The first entry and the last list of the content of pairs whose keys never fall.
--     first_run_is, last_run_is              of pairs, by the run of the first key and that of the last
--     above_is, below_is                     the entries above a key and below it, by the places where they begin and end
use Rattle.std.proofs.Common.{◌≡◌, ℕ, ◌-◌, ◌<◌, cond, T, List, [], ◌∷◌, length, take, drop, get_or, Some, None, unwrap_or, slice_get, refl, sym, ap, ◌∙◌, arith}
use Rattle.std.proofs.lemmas.List.{take_rest, drop_all}
use Rattle.std.proofs.lemmas.Option.{get_or_from_slice_get, slice_get_within}
use Rattle.std.proofs.lemmas.Slice.{between_from_start}
use Rattle.std.specs.List.{zip, slice_range}
use Rattle.std.specs.Cmp.{IsTotalOrder}
use Rattle.std.specs.FinMap.{find}
use Rattle.std.specs.declared.cmp.Ordering.{Ordering}
use Rattle.std.specs.declared.cmp.Ordering.TheVariants.{Less, Equal, Greater}
use Rattle.std.specs.Ordering.{is_lt, is_eq}
use Rattle.key_index_flat.specs.Content.{Content, IsLawful, is_filled, list_at}
use Rattle.key_index_flat.specs.laws.Laws.{T-and_first, T-and_second}
use Rattle.key_index_flat.specs.Neighbours.{entries_above, entries_below, first_entry, last_list}
use Rattle.key_index_flat.proofs.content.ContentLemmas.{Less-is_lt}
use Rattle.key_index_parts.specs.Pairs.{count_below, count_upto, grouped, Paired}
use Rattle.key_index_parts.proofs.pairs.SearchLemmas.{Rises-IsSorted, last_uncounted, last_counted}
use Rattle.key_index_parts.proofs.pairs.ZipLemmas.{length-zip, values_of-zip, take-zip, drop-zip}
use Rattle.key_index_parts.proofs.pairs.DrainLemmas.{first_run}
use Rattle.key_index_parts.proofs.pairs.RunLemmas.{found_by, run_above, run_below, run_slice}
use Rattle.key_index_parts.specs.laws.PairLaws.{IsLawful-grouped}
use Rattle.key_index_parts.proofs.pairs.GroupLemmas.{list_at-grouped, entries_above-grouped, entries_below-grouped}

module _ {K V : Type 0} {cmp : K → K → Ordering} (o : IsTotalOrder cmp) where
  last_list-list_at : (c : Content K V) (k : K) → IsLawful cmp c → T (is_filled (list_at cmp c k)) → entries_above cmp c k ≡ [] → last_list c ≡ Some (list_at cmp c k)
  last_list-list_at [] k h filled none = absurd filled
  last_list-list_at (e ∷ []) k h filled none =
      elim (cmp k e.0) as (λ r. T (is_filled (unwrap_or (cond (is_eq r) (Some e.1) None) [])) → Some e.1 ≡ Some (unwrap_or (cond (is_eq r) (Some e.1) None) [])) [
        | Less ↦ λ f. absurd f
        | Equal ↦ λ _. refl
        | Greater ↦ λ f. absurd f
      ] filled
  last_list-list_at (e ∷ f ∷ fs) k h filled none =
      let above = entries_above cmp (f ∷ fs) k in
      let others = entries_above cmp fs k in
      elim (cmp k e.0) as (λ r. cmp k e.0 ≡ r → T (is_filled (unwrap_or (cond (is_eq r) (Some e.1) (find cmp k (f ∷ fs))) [])) → cond (is_lt r) (e ∷ above) above ≡ []
      → last_list (f ∷ fs) ≡ Some (unwrap_or (cond (is_eq r) (Some e.1) (find cmp k (f ∷ fs))) [])) [
        | Less ↦ λ _ _ n. cc
        | Equal ↦ λ q _ n.
            let held : f ∷ others ≡ [] = sym (ap (λ r. cond (is_lt r) (f ∷ others) others) (o.congr k e.0 f.0 q ∙ Less-is_lt _ (T-and_first _ _ (T-and_first _ _ h.0)))) ∙ n in cc
        | Greater ↦ λ _ t n. last_list-list_at (f ∷ fs) k (T-and_second _ _ h.0, T-and_second (is_filled e.1) _ h.1) t n
      ] refl filled none

  some_filled : (l : List V) (n : ℕ) → n ≡ length l → 0 < n → T (is_filled l)
  some_filled [] n e some = absurd (omega (arith, e, some))
  some_filled (v ∷ vs) n e some = tt

  module _ {ks : List K} {vs : List V} (paired : Paired cmp ks vs) where
    pub first_run_is : (k last : K) (n : ℕ) → slice_get ks 0 ≡ Some k → n ≡ count_upto cmp ks k → last ≡ get_or ks (n - 1) last
        → first_entry (grouped cmp (zip ks vs)) ≡ Some (last, take n vs)
    first_run_is k last n at ends stands =
        ap first_entry (first_run o ks vs paired.sized (Rises-IsSorted o ks paired.sorted) k last n (slice_get_within ks 0 k at) (sym (get_or_from_slice_get ks 0 k last at)) ends)
        ∙ ap (λ q. Some (q, take n vs)) (sym stands)

    pub last_run_is : (k : K) (n : ℕ) → slice_get ks (length ks - 1) ≡ Some k → n ≡ count_below cmp ks k → last_list (grouped cmp (zip ks vs)) ≡ Some (drop n vs)
    last_run_is k n at begins =
        let es = zip ks vs in
        let found = found_by o paired k n (length ks) begins (last_counted o ks k paired.sorted at) in
        let none : entries_above cmp es k ≡ [] = sym (run_above o found.sorted found.run) ∙ drop_all (length ks) es (omega (arith, length-zip ks vs paired.sized)) in
        let list = list_at-grouped o es k in
        last_list-list_at (grouped cmp es) k (IsLawful-grouped o es) (some_filled _ (length ks - n) (omega (arith, found.run.upto, ap length list)) (omega (arith, last_uncounted o ks k paired.sorted at, begins))) (entries_above-grouped o es k ∙ ap (grouped cmp) none)
        ∙ ap Some (list ∙ sym (run_slice o found.sorted found.run) ∙ (λ i. slice_range (values_of-zip ks vs paired.sized i) n (paired.sized i)) ∙ take_rest vs n)

    -- the entries above a key, and below it
    pub above_is : (k : K) (n : ℕ) → n ≡ count_upto cmp ks k → grouped cmp (zip (slice_range ks n (length ks)) (slice_range vs n (length vs))) ≡ entries_above cmp (grouped cmp (zip ks vs)) k
    above_is k n begins =
        let found = found_by o paired k _ n refl begins in
        (λ i. grouped cmp (zip (take_rest ks n i) (take_rest vs n i))) ∙ ap (grouped cmp) (sym (drop-zip n ks vs) ∙ run_above o found.sorted found.run) ∙ sym (entries_above-grouped o (zip ks vs) k)

    pub below_is : (k : K) (n : ℕ) → n ≡ count_below cmp ks k → grouped cmp (zip (slice_range ks 0 n) (slice_range vs 0 n)) ≡ entries_below cmp (grouped cmp (zip ks vs)) k
    below_is k n ends =
        let found = found_by o paired k n _ ends refl in
        (λ i. grouped cmp (zip (between_from_start ks n i) (between_from_start vs n i))) ∙ ap (grouped cmp) (sym (take-zip n ks vs) ∙ run_below o found.sorted found.run) ∙ sym (entries_below-grouped o (zip ks vs) k)
