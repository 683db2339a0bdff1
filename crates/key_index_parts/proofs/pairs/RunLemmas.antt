-- The run of a key in pairs whose keys never fall.
--     pairs-below_at_above       the pairs below a key, its own, and those above
--     run_below, run_above       those before the run, and those behind it
--     run_within, run_slice      it lies within, and has its values
--     found_in, found_by         two searches find it
use Rattle.std.proofs.Common.{◌≡◌, ℕ, ◌+◌, ◌≤◌, true, false, cond, List, [], ◌∷◌, ◌++◌, length, take, drop, All, refl, sym, ap, subst, ◌∙◌, arith}
use Rattle.std.proofs.lemmas.List.{length-map, length-append, append_assoc, take-map, drop-map, take_at, drop_at}
use Rattle.std.proofs.lemmas.Map.Made.{keys_of-zip}
use Rattle.std.proofs.lemmas.List.Elements.{All-weaker, All-nil, All-cons, All-head, All-tail}
use Rattle.std.proofs.lemmas.Slice.{between_is}
use Rattle.std.specs.List.{filter, slice_range, zip}
use Rattle.std.specs.List.Sorted.{IsSorted}
use Rattle.std.specs.Map.{keys_of, values_of}
use Rattle.std.specs.Cmp.{IsTotalOrder, alike_right}
use Rattle.std.specs.declared.cmp.Ordering.{Ordering}
use Rattle.std.specs.declared.cmp.Ordering.TheVariants.{Less, Equal, Greater}
use Rattle.std.specs.Ordering.{is_lt, is_eq, eq_by_cmp, ordering_reverse}
use Rattle.key_index_flat.specs.Neighbours.{entries_below, entries_above}
use Rattle.key_index_parts.specs.Pairs.{run_of, count_below, count_upto, IsRun, IsFound, Paired}
use Rattle.key_index_parts.proofs.pairs.SearchLemmas.{Rises, Rises-IsSorted, above_too, count_parts}
use Rattle.key_index_parts.proofs.pairs.PairLemmas.{filter-none, filter-all, length-filter-keys}

-- a fact of each key is one of each pair
pub all_keys : {K V : Type 0} (P : K → Type 0) (es : List (K × V)) → All P (keys_of es) → All (λ e. P e.0) es
all_keys P [] h = All-nil (λ e. P e.0)
all_keys P (e ∷ es) h = All-cons (λ e. P e.0) e es (All-head P e.0 (keys_of es) h) (all_keys P es (All-tail P e.0 (keys_of es) h))

module _ {K V : Type 0} {cmp : K → K → Ordering} (o : IsTotalOrder cmp) where
  abbrev pub pairs_at : List (K × V) → K → List (K × V)
  pairs_at es k = filter (λ e. eq_by_cmp cmp k e.0) es

  -- all above
  entries_below-all_greater : (es : List (K × V)) (k : K) → All (λ e. cmp k e.0 ≡ Less) es → entries_below cmp es k ≡ []
  entries_below-all_greater es k h = filter-none _ es (All-weaker (λ e. cmp k e.0 ≡ Less) (λ e. is_lt (cmp e.0 k) ≡ false) (λ e l. ap is_lt (o.antisymm e.0 k ∙ ap ordering_reverse l)) es h)

  pub pairs_at-all_greater : (es : List (K × V)) (k : K) → All (λ e. cmp k e.0 ≡ Less) es → pairs_at es k ≡ []
  pairs_at-all_greater es k h = filter-none _ es (All-weaker (λ e. cmp k e.0 ≡ Less) (λ e. eq_by_cmp cmp k e.0 ≡ false) (λ e l. ap is_eq l) es h)

  entries_above-all_greater : (es : List (K × V)) (k : K) → All (λ e. cmp k e.0 ≡ Less) es → entries_above cmp es k ≡ es
  entries_above-all_greater es k h = filter-all _ es (All-weaker (λ e. cmp k e.0 ≡ Less) (λ e. is_lt (cmp k e.0) ≡ true) (λ e l. ap is_lt l) es h)

  pub pairs-below_at_above : (es : List (K × V)) (k : K) → Rises cmp (keys_of es) → es ≡ entries_below cmp es k ++ (pairs_at es k ++ entries_above cmp es k)
  pairs-below_at_above [] k h = refl
  pairs-below_at_above (e ∷ es) k h =
      let below = entries_below cmp es k in
      let at = pairs_at es k in
      let above = entries_above cmp es k in
      let rest : es ≡ below ++ (at ++ above) = pairs-below_at_above es k h.1 in
      let least : All (λ f. is_lt (cmp f.0 e.0) ≡ false) es = all_keys (λ x. is_lt (cmp x e.0) ≡ false) es h.0 in
      elim (cmp k e.0) as (λ r. cmp k e.0 ≡ r → e ∷ es ≡ cond (is_lt (ordering_reverse r)) (e ∷ below) below ++ (cond (is_eq r) (e ∷ at) at ++ cond (is_lt r) (e ∷ above) above)) [
        | Less ↦ λ q.
            let over : All (λ f. cmp k f.0 ≡ Less) es = All-weaker (λ f. is_lt (cmp f.0 e.0) ≡ false) (λ f. cmp k f.0 ≡ Less) (λ f n. above_too o k e.0 f.0 n q) es least in
            (λ i. sym (entries_below-all_greater es k over) i ++ (sym (pairs_at-all_greater es k over) i ++ e ∷ sym (entries_above-all_greater es k over) i))
        | Equal ↦ λ q.
            let under : below ≡ [] = filter-none _ es (All-weaker (λ f. is_lt (cmp f.0 e.0) ≡ false) (λ f. is_lt (cmp f.0 k) ≡ false) (λ f n. ap is_lt (alike_right o k e.0 f.0 q) ∙ n) es least) in
            ap (λ l. e ∷ l) (rest ∙ ap (λ l. l ++ (at ++ above)) under) ∙ ap (λ l. l ++ (e ∷ at ++ above)) (sym under)
        | Greater ↦ λ q. ap (λ l. e ∷ l) rest
      ] refl
      ∙ ap (λ r. cond (is_lt r) (e ∷ below) below ++ (cond (is_eq (cmp k e.0)) (e ∷ at) at ++ cond (is_lt (cmp k e.0)) (e ∷ above) above)) (sym (o.antisymm e.0 k))

  module _ {es : List (K × V)} {k : K} {start end : ℕ} (sorted : IsSorted cmp (keys_of es)) (run : IsRun cmp es k start end) where
    abbrev below : List (K × V)
    below = entries_below cmp es k

    abbrev at : List (K × V)
    at = pairs_at es k

    abbrev above : List (K × V)
    above = entries_above cmp es k

    parts : es ≡ (below ++ at) ++ above
    parts = pairs-below_at_above es k (Rises-IsSorted o (keys_of es) sorted) ∙ sym (append_assoc below at above)

    upto : length (below ++ at) ≡ end
    upto = length-append below at ∙ sym (run.upto ∙ (λ j. run.from j + length-map at (λ e. e.1) j))

    -- the pairs below a key stand before its run, and those above it behind
    pub run_below : take start es ≡ below
    run_below = ap (take start) (parts ∙ append_assoc below at above) ∙ take_at below (at ++ above) start (sym run.from)

    pub run_above : drop end es ≡ above
    run_above = ap (drop end) parts ∙ drop_at (below ++ at) above end upto

    pub run_within : end ≤ length es
    run_within = omega (arith, ap length parts, length-append (below ++ at) above, upto)

    pub run_slice : slice_range (values_of es) start end ≡ run_of cmp es k
    run_slice =
        between_is (values_of es) start end ∙ ap (drop start) (take-map (λ e. e.1) end es) ∙ drop-map (λ e. e.1) start (take end es)
        ∙ ap values_of (ap (drop start) (ap (take end) parts ∙ take_at (below ++ at) above end upto) ∙ drop_at below at start (sym run.from))

  -- what two searches of the keys find
  pub found_in : {es : List (K × V)} → IsSorted cmp (keys_of es) → (k : K) (start end : ℕ) → start ≡ count_below cmp (keys_of es) k → end ≡ count_upto cmp (keys_of es) k → IsFound cmp es k start end
  found_in {es} sorted k start end begins ends =
      let below = begins ∙ sym (length-filter-keys (λ x. is_lt (cmp x k)) es) in
      let run : IsRun cmp es k start end =
      record { from = below; upto = omega (arith, begins, ends, length-filter-keys (eq_by_cmp cmp k) es, count_parts o (keys_of es) k, length-map (pairs_at es k) (λ e. e.1)) } in
      record { run = run; within = run_within sorted run; sorted = sorted }

  pub found_by : {ks : List K} {vs : List V} → Paired cmp ks vs → (k : K) (start end : ℕ) → start ≡ count_below cmp ks k → end ≡ count_upto cmp ks k → IsFound cmp (zip ks vs) k start end
  found_by {ks} {vs} paired k start end begins ends =
      let keys : ks ≡ keys_of (zip ks vs) = sym (keys_of-zip ks vs (sym paired.sized)) in
      found_in (subst (IsSorted cmp) keys paired.sorted) k start end (begins ∙ ap (λ l. count_below cmp l k) keys) (ends ∙ ap (λ l. count_upto cmp l k) keys)
