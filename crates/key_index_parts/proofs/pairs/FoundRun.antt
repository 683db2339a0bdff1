-- What edits at the places of a run that was found make of the content, whose list at the key it is.
--     run_count                                             so many values more
--     none_there                                            it is empty where the run is
--     place_within                                          a place of the list is one of the pairs
--     slice_get-values_of                                   the value there
--     may_insert, grouped-inserted, grouped-inserted_last   a value put in at a place of the list
--     grouped-set_in, grouped-removed, grouped-removed_all  one in the place of another, one taken out, and the whole run
--     IsReplaced, IsRunOf, run_of_pairs                     others in the place of the whole run, by the keys and the values
--     may_append                                            a key behind the last of the run
--     length-kept_of_run, few_of_run, asks_behind_run       what is left, where each value was asked on, and one more
use Rattle.std.proofs.Common.{◌≡◌, ℕ, zero, suc, ◌+◌, ◌-◌, ◌<◌, ◌≤◌, Bool, cond, true, false, not, nat_eq, List, [], ◌∷◌, ◌++◌, length, insert, remove, slice_set, slice_get, get_or, take, drop, replicate, All, append_assoc, length-append, refl, sym, ap, subst, ◌∙◌, arith}
use Rattle.std.proofs.lemmas.Bool.{eq-eqb, ne_eqb}
use Rattle.std.proofs.Math.Seq.{drop-cons, take-append-add, drop-append-add}
use Rattle.std.proofs.lemmas.List.{length-drop, length-take, length-take-le, length-map, length-replicate, map-append, take-map, drop-map, take-append-le, drop-append-le, replicate_more, set_split}
use Rattle.std.proofs.lemmas.Map.Made.{keys_of-zip}
use Rattle.std.proofs.lemmas.List.Edits.{insert_end}
use Rattle.std.proofs.lemmas.List.Elements.{All-head, All-tail, All-weaker, filter_passes}
use Rattle.std.specs.List.{items_where_true, remove_range, slice_range, zip}
use Rattle.std.specs.List.Sorted.{IsSorted}
use Rattle.std.specs.Map.{keys_of, values_of}
use Rattle.std.specs.Cmp.{IsTotalOrder}
use Rattle.std.specs.declared.cmp.Ordering.{Ordering}
use Rattle.std.specs.declared.cmp.Ordering.TheVariants.{Equal}
use Rattle.std.specs.Ordering.{eq_by_cmp}
use Rattle.key_index_flat.specs.Content.{is_filled, list_at, with_list, with_list_by}
use Rattle.key_index_flat.specs.View.{put_value}
use Rattle.key_index_flat.specs.Neighbours.{entries_above, entries_below}
use Rattle.key_index_flat.specs.Retention.{AsksBehind, AsksInTurn}
use Rattle.key_index_flat.proofs.closures.TurnLemmas.{held_answers, kept_few}
use Rattle.key_index_flat.proofs.content.ContentLemmas.{Equal-is_eq}
use Rattle.key_index_parts.specs.Spread.{pairs_with}
use Rattle.key_index_parts.specs.Pairs.{grouped, with_value, IsFound, Paired}
use Rattle.key_index_parts.proofs.buckets.SpreadLemmas.{zip-more}
use Rattle.key_index_parts.proofs.pairs.SearchLemmas.{Rises, Rises-IsSorted, IsSorted-remove_range}
use Rattle.key_index_parts.proofs.pairs.RunLemmas.{pairs_at, pairs-below_at_above, run_below, run_above, run_slice}
use Rattle.key_index_parts.proofs.pairs.ZipLemmas.{drop-zip, values_of-zip, zip-append, zip-parts}
use Rattle.key_index_parts.proofs.pairs.GroupLemmas.{list_at-grouped}
use Rattle.key_index_parts.proofs.pairs.PairEdits.{IsSorted-insert, grouped-set_run}

-- every pair of a key, by the values
pairs_with-all : {K V : Type 0} (k : K) (es : List (K × V)) → All (λ e. e.0 ≡ k) es → es ≡ pairs_with k (values_of es)
pairs_with-all k [] h = refl
pairs_with-all k (e ∷ es) h = λ i. (All-head (λ e. e.0 ≡ k) e es h i, e.1) ∷ pairs_with-all k es (All-tail (λ e. e.0 ≡ k) e es h) i

keys_of-pairs_with : {K V : Type 0} (k : K) (vs : List V) → keys_of (pairs_with k vs) ≡ replicate (length vs) k
keys_of-pairs_with k [] = refl
keys_of-pairs_with k (v ∷ vs) = ap (λ l. k ∷ l) (keys_of-pairs_with k vs)

zip-back : {K V : Type 0} (es : List (K × V)) → zip (keys_of es) (values_of es) ≡ es
zip-back [] = refl
zip-back (e ∷ es) = ap (λ l. e ∷ l) (zip-back es)

with_value-parts : {K V : Type 0} (es : List (K × V)) (i : ℕ) (k : K) (u v : V) (rest : List (K × V)) → drop i es ≡ (k, u) ∷ rest → with_value es i v ≡ take i es ++ (k, v) ∷ rest
with_value-parts es zero k u v rest is = ap (λ l. with_value l 0 v) is ∙ ap (λ l. (k, v) ∷ l) (zip-back rest)
with_value-parts [] (suc i) k u v rest is = cc
with_value-parts (f ∷ fs) (suc i) k u v rest is = ap (λ l. f ∷ l) (with_value-parts fs i k u v rest is)

slice_get-drop : {X : Type 0} (xs : List X) (i : ℕ) → slice_get xs i ≡ slice_get (drop i xs) 0
slice_get-drop [] zero = refl
slice_get-drop [] (suc i) = refl
slice_get-drop (x ∷ xs) zero = refl
slice_get-drop (x ∷ xs) (suc i) = slice_get-drop xs i

-- k's list is `kept` in what was es, now the keys ls and the values us
pub record IsReplaced {K V : Type 0} (cmp : K → K → Ordering) (es : List (K × V)) (k : K) (ls : List K) (us kept : List V) : Type 0 where
  pub paired : Paired cmp ls us
  pub content : grouped cmp (zip ls us) ≡ with_list cmp (grouped cmp es) k kept

-- the run of k by the keys and the values, and what it makes to have others in its place: no more than there were, and one more
pub record IsRunOf {K V : Type 0} (cmp : K → K → Ordering) (es : List (K × V)) (k : K) (ks : List K) (vs : List V) (start end : ℕ) : Type 0 where
  pub order : start ≤ end
  pub within : end ≤ length ks
  pub values : slice_range vs start end ≡ list_at cmp (grouped cmp es) k
  pub fewer : (n : ℕ) (kept : List V) → n ≤ end - start → n ≡ length kept → IsReplaced cmp es k (remove_range ks (start + n) end) (take start vs ++ kept ++ drop end vs) kept
  pub more : (kept : List V) → length kept ≡ end - start + 1 → IsReplaced cmp es k (insert ks end k) (take start vs ++ kept ++ drop end vs) kept

module _ {K V : Type 0} {cmp : K → K → Ordering} (o : IsTotalOrder cmp) (exact : (x y : K) → cmp x y ≡ Equal → x ≡ y) {es : List (K × V)} {k : K}
    {start end : ℕ} (found : IsFound cmp es k start end) where
  abbrev list : List V
  list = list_at cmp (grouped cmp es) k

  abbrev own : List (K × V)
  own = pairs_with k list

  abbrev above : List (K × V)
  above = entries_above cmp es k

  rises : Rises cmp (keys_of es)
  rises = Rises-IsSorted o (keys_of es) found.sorted

  pub run_count : end ≡ start + length list
  run_count = found.run.upto ∙ ap (λ l. start + length l) (sym (list_at-grouped o es k))

  pub none_there : nat_eq start end ≡ not (is_filled list)
  none_there = empty_by_count list run_count
    where
      empty_by_count : (l : List V) → end ≡ start + length l → nat_eq start end ≡ not (is_filled l)
      empty_by_count [] e = let same : start ≡ end = omega (arith, e) in eq-eqb start end same
      empty_by_count (v ∷ vs) e = ne_eqb start end (λ same. absurd (omega (arith, same, e)))

  pub place_within : (i : ℕ) → i < length list → start + i < length es
  place_within i l = omega (arith, found.within, run_count, l)

  pub place_upto : (i : ℕ) → i ≤ length list → start + i ≤ length es
  place_upto i l = omega (arith, found.within, run_count, l)

  -- the pairs below the key, its own, and those above
  split : es ≡ entries_below cmp es k ++ (own ++ above)
  split =
      let at = pairs_at o es k in
      let each = All-weaker (λ e. eq_by_cmp cmp k e.0 ≡ true) (λ e. e.0 ≡ k) (λ e t. sym (exact k e.0 (Equal-is_eq _ t))) at (filter_passes (λ e. eq_by_cmp cmp k e.0) es) in
      pairs-below_at_above o es k rises ∙ ap (λ l. entries_below cmp es k ++ (l ++ above)) (pairs_with-all k at each ∙ ap (pairs_with k) (sym (list_at-grouped o es k)))

  own_len : length own ≡ length list
  own_len = length-map list (λ v. (k, v))

  below_is : take start es ≡ entries_below cmp es k
  below_is = run_below o found.sorted found.run

  above_is : drop end es ≡ above
  above_is = run_above o found.sorted found.run

  pub own_pairs : es ≡ take start es ++ (own ++ drop end es)
  own_pairs = split ∙ (λ j. sym below_is j ++ (own ++ sym above_is j))

  -- up to a place of the run, and from it on
  front_is : (i : ℕ) → i ≤ length list → take (start + i) es ≡ take start es ++ pairs_with k (take i list)
  front_is i l =
      (λ j. take (found.run.from j + i) (split j)) ∙ take-append-add (entries_below cmp es k) (own ++ above) i
      ∙ (λ j. sym below_is j ++ (take-append-le i own above (omega (arith, own_len, l)) ∙ take-map (λ v. (k, v)) i list) j)

  back_is : (i : ℕ) → i ≤ length list → drop (start + i) es ≡ pairs_with k (drop i list) ++ above
  back_is i l =
      (λ j. drop (found.run.from j + i) (split j)) ∙ drop-append-add (entries_below cmp es k) (own ++ above) i
      ∙ drop-append-le i own above (omega (arith, own_len, l)) ∙ ap (λ l. l ++ above) (drop-map (λ v. (k, v)) i list)

  -- some values in the place of those from one place of the run up to another
  spliced : (i j : ℕ) (vs : List V) → i ≤ length list → j ≤ length list
      → grouped cmp (take (start + i) es ++ (pairs_with k vs ++ drop (start + j) es)) ≡ with_list cmp (grouped cmp es) k (take i list ++ (vs ++ drop j list))
  spliced i j vs l m =
      let front = pairs_with k (take i list) in
      let back = pairs_with k (drop j list) in
      let parts : pairs_with k (take i list ++ (vs ++ drop j list)) ≡ front ++ (pairs_with k vs ++ back) =
      map-append (λ v. (k, v)) (take i list) _ ∙ ap (λ l. front ++ l) (map-append (λ v. (k, v)) vs (drop j list)) in
      ap (grouped cmp)
      ((λ n. (front_is i l ∙ ap (λ t. t ++ front) below_is) n ++ (pairs_with k vs ++ back_is j m n))
      ∙ append_assoc (entries_below cmp es k) front (pairs_with k vs ++ (back ++ above))
      ∙ ap (λ t. entries_below cmp es k ++ t) (ap (λ t. front ++ t) (sym (append_assoc (pairs_with k vs) back above)) ∙ sym (append_assoc front (pairs_with k vs ++ back) above)
      ∙ ap (λ t. t ++ above) (sym parts)))
      ∙ grouped-set_run o es k rises exact (take i list ++ (vs ++ drop j list))

  pub slice_get-values_of : (i : ℕ) → i < length list → slice_get (values_of es) (start + i) ≡ slice_get list i
  slice_get-values_of i l =
      slice_get-drop (values_of es) (start + i) ∙ ap (λ l. slice_get l 0) (drop-map (λ e. e.1) (start + i) es ∙ ap values_of (back_is i (omega (arith, l))))
      ∙ first_of (drop i list) (omega (arith, length-drop i list, l)) ∙ sym (slice_get-drop list i)
    where
      first_of : (l : List V) → 0 < length l → slice_get (values_of (pairs_with k l ++ above)) 0 ≡ slice_get l 0
      first_of [] some = absurd (omega (arith, some))
      first_of (v ∷ vs) some = refl

  pub may_insert : (i : ℕ) → i ≤ length list → IsSorted cmp (insert (keys_of es) (start + i) k)
  may_insert i l =
      let same = ap (λ l. length l) (list_at-grouped o es k) in
      subst (λ n. IsSorted cmp (insert (keys_of es) (n + i) k)) (sym found.run.from) (IsSorted-insert o es k rises i (omega (arith, same, l)))

  pub may_append : IsSorted cmp (insert (keys_of es) end k)
  may_append = subst (λ n. IsSorted cmp (insert (keys_of es) n k)) (sym run_count) (may_insert (length list) (omega arith))

  pub grouped-inserted : (i : ℕ) (v : V) → i ≤ length list → grouped cmp (insert es (start + i) (k, v)) ≡ with_list_by cmp (grouped cmp es) k (λ l. insert l i v)
  grouped-inserted i v l = spliced i i (v ∷ []) l l

  pub grouped-inserted_last : (v : V) → grouped cmp (insert es end (k, v)) ≡ with_list_by cmp (grouped cmp es) k (put_value false v)
  grouped-inserted_last v =
      ap (λ n. grouped cmp (insert es n (k, v))) run_count ∙ grouped-inserted (length list) v (omega arith) ∙ ap (λ l. with_list cmp (grouped cmp es) k l) (insert_end list v)

  pub grouped-set_in : (i : ℕ) (v : V) → i < length list → grouped cmp (with_value es (start + i) v) ≡ with_list_by cmp (grouped cmp es) k (λ l. slice_set l i v)
  grouped-set_in i v l =
      let behind : drop (start + i) es ≡ (k, get_or list i v) ∷ drop (start + suc i) es =
      back_is i (omega (arith, l)) ∙ ap (λ l. pairs_with k l ++ above) (drop-cons list i v l) ∙ ap (λ t. (k, get_or list i v) ∷ t) (sym (back_is (suc i) l)) in
      ap (grouped cmp) (with_value-parts es (start + i) k (get_or list i v) v (drop (start + suc i) es) behind)
      ∙ spliced i (suc i) (v ∷ []) (omega (arith, l)) l ∙ ap (λ l. with_list cmp (grouped cmp es) k l) (sym (set_split list i v l))

  pub grouped-removed : (i : ℕ) → i < length list → grouped cmp (remove es (start + i)) ≡ with_list_by cmp (grouped cmp es) k (λ l. remove l i)
  grouped-removed i l =
      let next : suc (start + i) ≡ start + suc i = omega arith in
      ap (λ n. grouped cmp (take (start + i) es ++ drop n es)) next ∙ spliced i (suc i) [] (omega (arith, l)) l

  pub grouped-removed_all : grouped cmp (remove_range es start end) ≡ with_list cmp (grouped cmp es) k []
  grouped-removed_all = ap (grouped cmp) (λ j. below_is j ++ above_is j) ∙ grouped-set_run o es k rises exact []

  -- by the keys and the values
  module _ {ks : List K} {vs : List V} (is : zip ks vs ≡ es) (paired : Paired cmp ks vs) where
    keys_are : ks ≡ keys_of es
    keys_are = sym (keys_of-zip ks vs (sym paired.sized)) ∙ ap keys_of is

    within : end ≤ length ks
    within = omega (arith, ap (λ l. length l) keys_are, length-map es (λ e. e.0), found.within)

    order : start ≤ end
    order = omega (arith, run_count)

    -- the keys up to a place of the run
    keys_upto : (n : ℕ) → n ≤ length list → take (start + n) ks ≡ take start ks ++ replicate n k
    keys_upto n l =
        let part : (m : ℕ) → take m ks ≡ keys_of (take m es) = λ m. ap (take m) keys_are ∙ take-map (λ e. e.0) m es in
        part (start + n) ∙ ap keys_of (front_is n l) ∙ map-append (λ e. e.0) (take start es) (pairs_with k (take n list))
        ∙ (λ j. sym (part start) j ++ (keys_of-pairs_with k (take n list) ∙ ap (λ m. replicate m k) (length-take-le n list l)) j)

    -- other values in the place of the run, beside as many keys
    replaced : (ls own : List K) (kept : List V) → ls ≡ take start ks ++ (own ++ drop end ks) → own ≡ replicate (length kept) k → IsSorted cmp ls
        → IsReplaced cmp es k ls (take start vs ++ kept ++ drop end vs) kept
    replaced ls own kept keys one up =
        let beside : length own ≡ length kept = ap (λ l. length l) one ∙ length-replicate (length kept) k in
        let values = append_assoc (take start vs) kept (drop end vs) in
        let sized = paired.sized in
        let same : length (take start ks ++ (own ++ drop end ks)) ≡ length (take start vs ++ (kept ++ drop end vs)) =
        omega (arith, length-append {A = K}, length-append {A = V}, length-take {A = K}, length-take {A = V}, length-drop {A = K}, length-drop {A = V}, beside, sized) in
        record {
          paired = record { sized = ap (λ l. length l) keys ∙ same ∙ ap (λ l. length l) (sym values); sorted = up };
          content = ap (grouped cmp)
              ((λ j. zip (keys j) (values j)) ∙ zip-parts start ks (own ++ drop end ks) vs (kept ++ drop end vs) sized
              ∙ (λ j. (ap (take start) is ∙ below_is) j ++ (zip-append own (drop end ks) kept (drop end vs) beside
              ∙ (λ i. (ap (λ l. zip l kept) one ∙ zip-more [] [] refl k kept) i ++ (sym (drop-zip end ks vs) ∙ ap (drop end) is ∙ above_is) i)) j))
              ∙ grouped-set_run o es k rises exact kept;
        }

    pub run_of_pairs : IsRunOf cmp es k ks vs start end
    run_of_pairs = record {
      order = order;
      within = within;
      values = ap (λ l. slice_range l start end) (sym (values_of-zip ks vs paired.sized) ∙ ap (λ fs. values_of fs) is) ∙ run_slice o found.sorted found.run ∙ sym (list_at-grouped o es k);
      fewer = λ n kept l count.
          replaced (remove_range ks (start + n) end) (replicate n k) kept (ap (λ l. l ++ drop end ks) (keys_upto n (omega (arith, run_count, l))) ∙ append_assoc (take start ks) (replicate n k) (drop end ks))
          (ap (λ m. replicate m k) count) (IsSorted-remove_range o ks (start + n) end (omega (arith, run_count, l)) paired.sorted);
      more = λ kept count.
          replaced (insert ks end k) (replicate (length list) k ++ k ∷ []) kept
          (ap (λ l. l ++ k ∷ drop end ks) (ap (λ n. take n ks) run_count ∙ keys_upto (length list) (omega arith)) ∙ append_assoc (take start ks) (replicate (length list) k) (k ∷ drop end ks)
          ∙ ap (λ l. take start ks ++ l) (sym (append_assoc (replicate (length list) k) (k ∷ []) (drop end ks))))
          (replicate_more (length list) k ∙ ap (λ m. replicate m k) (omega (arith, run_count, count))) (subst (λ l. IsSorted cmp (insert l end k)) (sym keys_are) may_append);
    }

  -- each of its values and one more was asked on
  module _ {F : Type 0} (ask : F → V → Bool → F → Type 0) (f : F) (v : V) {kept : List V} {stays : Bool} (asked : AsksInTurn ask f true (list ++ v ∷ []) kept stays) where
    length-asked_run : length asked.0 ≡ length list + 1
    length-asked_run = asked.2 ∙ length-append list (v ∷ [])

    pub length-kept_of_run : length kept ≡ length (items_where_true asked.0 list) + cond stays 1 0
    length-kept_of_run = ap (λ l. length l) asked.4 ∙ held_answers true asked.0 list v length-asked_run ∙ ap (λ b. length (items_where_true asked.0 list) + cond b 1 0) (sym asked.5)

    pub few_of_run : length (items_where_true asked.0 list) ≤ length list
    few_of_run = kept_few asked.0 list

    pub asks_behind_run : (taken : ℕ) → taken + length (items_where_true asked.0 list) ≡ length list → AsksBehind ask f list v kept taken
    asks_behind_run taken is = record {
      answers = asked.0;
      last = asked.1;
      long = length-asked_run;
      asked = asked.3;
      kept = asked.4;
      taken = is;
    }
