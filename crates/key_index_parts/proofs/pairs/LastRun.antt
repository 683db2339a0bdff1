-- The run of the last of sorted keys, where keys that tie are one.
--     IsPopped, popped         the pairs end with the last key's, one for each of its values; the others still never fall, and are below it
--     Rises-more               keys that never fall, and one that is below none of them so many times
use Rattle.std.proofs.Common.{◌≡◌, ℕ, zero, suc, ◌+◌, ◌-◌, false, T, List, [], ◌∷◌, ◌++◌, All, length, take, drop, replicate, slice_get, Some, refl, sym, ap, subst, ◌∙◌, arith, append_assoc, append-nil, length-append}
use Rattle.std.proofs.lemmas.List.{length-take-le, take-append-drop, take_at, drop_at, drop_all, take_rest}
use Rattle.std.proofs.lemmas.List.Elements.{All-head, All-tail, All-append, All-map, All-replicate, filter_passes}
use Rattle.std.specs.Cmp.{IsTotalOrder, tied_itself}
use Rattle.std.specs.List.{zip}
use Rattle.std.specs.Map.{keys_of}
use Rattle.std.specs.declared.cmp.Ordering.{Ordering}
use Rattle.std.specs.declared.cmp.Ordering.TheVariants.{Less, Equal}
use Rattle.std.specs.Ordering.{is_lt}
use Rattle.key_index_flat.specs.Neighbours.{entries_below}
use Rattle.key_index_flat.proofs.content.ContentLemmas.{Less-is_lt}
use Rattle.key_index_parts.specs.Pairs.{count_below, Paired}
use Rattle.key_index_parts.specs.Spread.{pairs_with}
use Rattle.key_index_parts.proofs.pairs.SearchLemmas.{Rises, Rises-IsSorted, Rises-take, IsSorted-Rises, last_uncounted, last_counted}
use Rattle.key_index_parts.proofs.pairs.ZipLemmas.{length-zip, take-zip}
use Rattle.key_index_parts.proofs.pairs.RunLemmas.{found_by, run_below}
use Rattle.key_index_parts.proofs.pairs.FoundRun.{own_pairs, run_of_pairs}

-- what is left once k was taken out, with its first value and its others, is `kept`, with the values `us`
pub record IsPopped {K V : Type 0} (cmp : K → K → Ordering) (ks : List K) (vs : List V) (k : K) (head : V) (ws : List V) (kept : List K) (us : List V) : Type 0 where
  pub pairs : zip ks vs ≡ zip kept us ++ pairs_with k (head ∷ ws)
  pub paired : Paired cmp kept us
  pub below : All (λ x. cmp x k ≡ Less) (keys_of (zip kept us))
  pub keys_left : length kept + (1 + length ws) ≡ length ks
  pub values_left : length us + (1 + length ws) ≡ length vs

module _ {K : Type 0} {cmp : K → K → Ordering} (o : IsTotalOrder cmp) where
  Rises-replicate : (n : ℕ) (k : K) → Rises cmp (replicate n k)
  Rises-replicate zero k = tt
  Rises-replicate (suc n) k = (All-replicate (λ x. is_lt (cmp x k) ≡ false) n k (ap is_lt (tied_itself o k)), Rises-replicate n k)

  pub Rises-more : (ks : List K) (n : ℕ) (k : K) → Rises cmp ks → All (λ x. is_lt (cmp k x) ≡ false) ks → Rises cmp (ks ++ replicate n k)
  Rises-more [] n k h above = Rises-replicate n k
  Rises-more (x ∷ xs) n k h above = (
    All-append (λ y. is_lt (cmp y x) ≡ false) xs (replicate n k) h.0 (All-replicate (λ y. is_lt (cmp y x) ≡ false) n k (All-head (λ x. is_lt (cmp k x) ≡ false) x xs above)),
    Rises-more xs n k h.1 (All-tail (λ x. is_lt (cmp k x) ≡ false) x xs above),
  )

  -- the values stand as `us`, the last key's first value and `ws`
  pub popped : (exact : (a b : K) → cmp a b ≡ Equal → a ≡ b) {V : Type 0} {ks : List K} {vs : List V} → Paired cmp ks vs → (k : K) (start : ℕ) → slice_get ks (length ks - 1) ≡ Some k → start ≡ count_below cmp ks k
      → (us ws : List V) (head : V) → take (start + 1) vs ≡ us ++ head ∷ [] → ws ≡ drop (start + 1) vs → IsPopped cmp ks vs k head ws (take start ks) us
  popped exact {V} {ks} {vs} p k start last begins us ws head left moved =
      let found = found_by o p k start (length ks) begins (last_counted o ks k p.sorted last) in
      let within = last_uncounted o ks k p.sorted last in
      let sized = p.sized in
      let cut : vs ≡ us ++ (head ∷ ws) = sym (take-append-drop (start + 1) vs) ∙ (λ i. left i ++ sym moved i) ∙ append_assoc us (head ∷ []) ws in
      let most = length-take-le (start + 1) vs (omega (arith, within, begins, sized)) in
      let values_front : length us ≡ start = omega (arith, ap (λ l. length l) left ∙ length-append us (head ∷ []), most) in
      let keys_front = length-take-le start ks (omega (arith, within, begins)) in
      let all = ap (λ l. length l) cut ∙ length-append us (head ∷ ws) in
      let front : take start (zip ks vs) ≡ zip (take start ks) us = take-zip start ks vs ∙ ap (zip (take start ks)) (ap (take start) cut ∙ take_at us (head ∷ ws) start values_front) in
      let values = sym (run_of_pairs o exact found refl p).values ∙ (ap (λ n. take (n - start) (drop start vs)) sized ∙ take_rest vs start) ∙ ap (drop start) cut ∙ drop_at us (head ∷ ws) start values_front in
      let none = drop_all (length ks) (zip ks vs) (omega (arith, length-zip ks vs sized)) in
      let under = filter_passes (λ e. is_lt (cmp e.0 k)) (zip ks vs) in
      record {
        pairs = own_pairs o exact found ∙ (λ i. front i ++ (pairs_with k (values i) ++ none i)) ∙ ap (λ l. zip (take start ks) us ++ l) (append-nil (pairs_with k (head ∷ ws)));
        paired = record { sized = keys_front ∙ sym values_front; sorted = IsSorted-Rises o (take start ks) (Rises-take o start ks (Rises-IsSorted o ks p.sorted)) };
        below = subst (λ l. All (λ x. cmp x k ≡ Less) (keys_of l)) (sym (run_below o found.sorted found.run) ∙ front)
            (All-map (λ x. cmp x k ≡ Less) (λ e. e.0) (entries_below cmp (zip ks vs) k) (λ j d b. Less-is_lt _ (subst T (sym (under j d b)) tt)));
        keys_left = omega (arith, keys_front, all, values_front, sized);
        values_left = omega (arith, all);
      }
