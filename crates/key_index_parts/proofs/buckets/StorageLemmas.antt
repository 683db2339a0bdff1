-- On what the storage of an index over buckets keeps.
--     entries_for-filled, keys_for-length        how many entries a list takes, by how many values it has
--     at_most_three                              how many partitions there can be
--     none_held, none_counted                    buckets that hold nothing, together and with their counts
--     length-told                                a bucket is one of those that are told
--     bucket_got                                 one that was looked for in a slice of them
--     held_told, held_past                       the list at a slot is that of its bucket, and where there is none, empty
--     held_inside                                a slot that has values is of some bucket
--     IsLawful-kept                              the whole is lawful
--     keeps_all, counted_as                      and stays so, with its counts, where nothing was edited
--     keys_below                                 there are no more keys than values
--     items_within                               no list is longer than all of them
--     IsCounted-edited                           the whole, with its counts, after an edit of a list in a bucket
--     can_change, counted_change, counted_gain   by what was found and left there, and by one value more
--     KeepsBuckets-edited                        it is a map of lists that are not empty
--     view_edited, view_pruned                   and the index as it is seen
--     same_but                                   the buckets as before, however they stand
--     kept_twice                                 one change after another
--     retains_with                               a retention with a new value or none
use Rattle.std.proofs.Common.{◌≡◌, ℕ, zero, suc, ◌+◌, ◌-◌, ◌^◌, ◌<◌, ◌≤◌, Bool, true, false, not, nat_lt, List, [], ◌∷◌, map, set, replicate, length, slice_index_or, All, Option, Some, None, refl, sym, ap, subst, ◌∙◌, arith, lt_of_not-le}
use Rattle.std.proofs.lemmas.Bool.{lt-ltb, ltb-false, ltb-true}
use Rattle.std.proofs.lemmas.List.{length-map, length-set, length-replicate}
use Rattle.std.proofs.lemmas.List.Elements.{All-get_or, All-set, All-nil, All-cons}
use Rattle.std.specs.declared.cmp.Ordering.{Ordering}
use Rattle.std.specs.declared.cmp.Ordering.TheVariants.{Equal}
use Rattle.std.specs.Cmp.{IsTotalOrder}
use Rattle.key_index_flat.specs.Content.{Content, is_filled, IsLawful, list_at, with_list, with_list_by, item_count, key_count}
use Rattle.key_index_flat.specs.laws.Laws.{IsLawful-with_list}
use Rattle.key_index_flat.specs.Retention.{AsksWith}
use Rattle.key_index_flat.specs.View.{View, RetainsWith, pruned_after, run_at, with_pruned, with_run}
use Rattle.key_index_flat.proofs.content.ContentLemmas.{item_count-with_list, key_count-with_list, entries_for}
use Rattle.key_index_parts.specs.Counts.{one_if, keys_for, CanChange}
use Rattle.key_index_parts.specs.Buckets.{Kept, IsCounted, KeepsBuckets, Edits, Prunes, SameContent, bucket_at, held_at, view_of}
use Rattle.key_index_parts.specs.Gathered.{pair_cmp, gathered_from, gathered}
use Rattle.key_index_parts.specs.laws.GatheredLaws.{pair_total, IsLawful-gathered}
use Rattle.key_index_parts.specs.Prefix.{partition_count}
use Rattle.key_index_parts.specs.Standing.{Standings, new_standings}
use Rattle.key_index_parts.proofs.buckets.GatheredLemmas.{list_at-gathered, list_at-past, with_list-gathered}
use Rattle.key_index_parts.proofs.buckets.CountLemmas.{keys_at_most}
use Rattle.key_index_parts.proofs.buckets.BucketLemmas.{IsBucket, bucket_edited, list_told}

pub keys_for-length : {V : Type 0} (l : List V) → keys_for (length l) ≡ entries_for l
keys_for-length [] = refl
keys_for-length (v ∷ vs) = ap one_if (lt-ltb 0 (suc (length vs)) (omega arith))

pub entries_for-filled : {V : Type 0} (l : List V) → 0 < length l → entries_for l ≡ 1
entries_for-filled [] h = absurd (omega (arith, h))
entries_for-filled (v ∷ vs) h = refl

-- of a list that a value is about to be put into
entries_for-one_if_absent : {V : Type 0} (l : List V) (absent : Bool) → absent ≡ not (is_filled l) → one_if absent + entries_for l ≡ 1
entries_for-one_if_absent [] absent e = let one : one_if absent ≡ 1 = ap one_if e in omega (arith, one)
entries_for-one_if_absent (v ∷ vs) absent e = let none : one_if absent ≡ 0 = ap one_if e in omega (arith, none)

pub at_most_three : (p : ℕ) → p ≤ 3 → partition_count p ≤ 16777216
at_most_three zero h = omega arith
at_most_three (suc zero) h = omega arith
at_most_three (suc (suc zero)) h = omega arith
at_most_three (suc (suc (suc zero))) h = omega arith
at_most_three (suc (suc (suc (suc p)))) h = absurd (omega (arith, h))

module _ {K V : Type 0} where
  gathered_from-replicate : (p n : ℕ) → gathered_from p (replicate {A = Content K V} n []) ≡ []
  gathered_from-replicate p zero = refl
  gathered_from-replicate p (suc n) = gathered_from-replicate (suc p) n

  pub none_held : (buckets : List (Content K V)) (n : ℕ) → buckets ≡ replicate n [] → gathered buckets ≡ []
  none_held buckets n e = ap (λ cs. gathered cs) e ∙ gathered_from-replicate 0 n

  none_lawful : (cmp : K → K → Ordering) (n : ℕ) → All (IsLawful cmp) (replicate {A = Content K V} n [])
  none_lawful cmp zero = All-nil (IsLawful cmp)
  none_lawful cmp (suc n) = All-cons (IsLawful cmp) [] (replicate n []) (tt, tt) (none_lawful cmp n)

  pub none_counted : (cmp : K → K → Ordering) (p : ℕ) (buckets : List (Content K V)) (n : ℕ) → 1 ≤ p → p ≤ 3 → buckets ≡ replicate n [] → n ≤ partition_count p → IsCounted cmp p buckets 0 0
  none_counted cmp p buckets n least greatest e most =
      let none = none_held buckets n e in
      let size = ap (λ cs. length cs) e in
      let same = length-replicate {A = Content K V} n [] in
      record {
        least = least;
        greatest = greatest;
        sized = omega (arith, size, same, most);
        each = subst (λ cs. All (IsLawful cmp) cs) (sym e) (none_lawful cmp n);
        counted = ap (λ c. item_count c) (sym none);
        keyed = ap (λ c. key_count c) (sym none);
      }

module _ {X K V : Type 0} {f : X → Content K V} {xs : List X} where
  pub length-told : {n : ℕ} {x : X} → IsBucket f xs n x → n < length (map f xs)
  length-told bucket = let same = length-map xs f in let inside = bucket.inside in omega (arith, same, inside)

  -- a bucket that was looked for in a slice of them
  pub bucket_got : {ys : List X} {n : ℕ} {x : X} → ys ≡ xs → true ≡ nat_lt n (length ys) → x ≡ slice_index_or ys n x → IsBucket f xs n x
  bucket_got {n = n} {x = x} same inside at = record {
    inside = subst (λ zs. n < length zs) same (ltb-true n _ (sym inside));
    at = at ∙ ap (λ zs. slice_index_or zs n x) same;
  }

  pub held_told : (cmp : K → K → Ordering) {n : ℕ} {x : X} → IsBucket f xs n x → (k : K) → list_at cmp (f x) k ≡ held_at cmp (map f xs) (n, k)
  held_told cmp {n = n} bucket k = list_told cmp bucket k ∙ sym (list_at-gathered cmp (map f xs) n k)

module _ {X K V : Type 0} (cmp : K → K → Ordering) (f : X → Content K V) (xs : List X) where
  pub held_past : (n : ℕ) {ys : List X} → ys ≡ xs → false ≡ nat_lt n (length ys) → (k : K) → held_at cmp (map f xs) (n, k) ≡ []
  held_past n same past k =
      let as_many = length-map xs f in
      let sized = ap (λ zs. length zs) same in
      let far = ltb-false n _ (sym past) in
      list_at-past cmp (map f xs) n k (omega (arith, as_many, sized, far))

  pub held_inside : (slot : ℕ × K) (place : ℕ) → place < length (held_at cmp (map f xs) slot) → slot.0 < length xs
  held_inside slot place held = lt_of_not-le (λ past.
      let as_many = length-map xs f in
      let none : length (held_at cmp (map f xs) slot) ≡ 0 = ap (λ l. length l) (list_at-past cmp (map f xs) slot.0 slot.1 (omega (arith, past, as_many))) in
      omega (arith, held, none))

module _ {K V : Type 0} {cmp : K → K → Ordering} {p : ℕ} {buckets : List (Content K V)} {items keys : ℕ} (h : IsCounted cmp p buckets items keys) where
  pub IsLawful-kept : IsLawful (pair_cmp cmp) (gathered buckets)
  IsLawful-kept = IsLawful-gathered cmp buckets h.each

  pub keeps_all : (new : List (Content K V)) → new ≡ buckets → KeepsBuckets cmp buckets new
  keeps_all new same = record { lawful = subst (λ cs. IsLawful (pair_cmp cmp) (gathered cs)) (sym same) IsLawful-kept; sized = ap (λ cs. length cs) same }

  pub counted_as : (new : List (Content K V)) → new ≡ buckets → IsCounted cmp p new items keys
  counted_as new same = subst (λ cs. IsCounted cmp p cs items keys) (sym same) h

  pub keys_below : keys ≤ items
  keys_below = let at_most = keys_at_most (gathered buckets) IsLawful-kept.1 in let was = h.counted in let keyed = h.keyed in omega (arith, at_most, was, keyed)

-- a bucket, x, of which one list is edited, so that y is in its place
module _ {X K V : Type 0} {cmp : K → K → Ordering} {p : ℕ} {f : X → Content K V} {xs : List X} {items keys : ℕ} (h : IsCounted cmp p (map f xs) items keys)
    (o : IsTotalOrder cmp) {n : ℕ} {x : X} (bucket : IsBucket f xs n x) (k : K) where
  had : length (held_at cmp (map f xs) (n, k)) ≡ length (list_at cmp (f x) k)
  had = ap (λ l. length l) (sym (held_told cmp bucket k))

  had_entries : entries_for (held_at cmp (map f xs) (n, k)) ≡ entries_for (list_at cmp (f x) k)
  had_entries = ap (λ l. entries_for l) (sym (held_told cmp bucket k))

  pub items_within : length (list_at cmp (f x) k) ≤ items
  items_within =
      let sum = item_count-with_list (pair_total o) (gathered (map f xs)) (n, k) [] (IsLawful-kept h) in
      let was = h.counted in let same = had in omega (arith, sum, was, same)

  entries_within : entries_for (list_at cmp (f x) k) ≤ keys
  entries_within =
      let sum = key_count-with_list (pair_total o) (gathered (map f xs)) (n, k) [] (IsLawful-kept h) in
      let was = h.keyed in let same = had_entries in omega (arith, sum, was, same)

  module _ (exact : (a b : K) → cmp a b ≡ Equal → a ≡ b) (l : List V) (y : X) (is : f y ≡ with_list cmp (f x) k l) where
    abbrev after : List (Content K V)
    after = map f (set xs n y)

    told : after ≡ set (map f xs) n (with_list cmp (bucket_at (map f xs) n) k l)
    told = bucket_edited cmp bucket y k l is

    gathered-with_list : gathered after ≡ with_list (pair_cmp cmp) (gathered (map f xs)) (n, k) l
    gathered-with_list = ap (λ cs. gathered cs) told ∙ with_list-gathered cmp o exact (map f xs) n k l (length-told bucket) h.each

    each_edited : All (IsLawful cmp) after
    each_edited =
        let was = bucket_at (map f xs) n in
        subst (λ cs. All (IsLawful cmp) cs) (sym told)
        (All-set (IsLawful cmp) (map f xs) n (with_list cmp was k l) (IsLawful-with_list o was k l (All-get_or (IsLawful cmp) (map f xs) n [] (length-told bucket) h.each)) h.each)

    edited_lawful : IsLawful (pair_cmp cmp) (gathered after)
    edited_lawful = IsLawful-gathered cmp after each_edited

    edited_sized : length after ≡ length (map f xs)
    edited_sized = ap (λ cs. length cs) told ∙ length-set (map f xs) n (with_list cmp (bucket_at (map f xs) n) k l)

    item_sum : item_count (gathered after) + length (list_at cmp (f x) k) ≡ items + length l
    item_sum =
        let sum = item_count-with_list (pair_total o) (gathered (map f xs)) (n, k) l (IsLawful-kept h) in
        let was = h.counted in let now = ap (λ c. item_count c) gathered-with_list in let same = had in omega (arith, sum, was, now, same)

    key_sum : key_count (gathered after) + entries_for (list_at cmp (f x) k) ≡ keys + entries_for l
    key_sum =
        let sum = key_count-with_list (pair_total o) (gathered (map f xs)) (n, k) l (IsLawful-kept h) in
        let was = h.keyed in let now = ap (λ c. key_count c) gathered-with_list in let same = had_entries in omega (arith, sum, was, now, same)

    keys_fit : (a b : ℕ) → a + length (list_at cmp (f x) k) ≡ items + length l → b + entries_for (list_at cmp (f x) k) ≡ keys + entries_for l → b ≤ a
    keys_fit a b items_told keys_told =
        let of_items = item_sum in let of_keys = key_sum in let at_most = keys_at_most (gathered after) edited_lawful.1 in
        omega (arith, of_items, of_keys, at_most, items_told, keys_told)

    pub IsCounted-edited : (a b : ℕ) → a + length (list_at cmp (f x) k) ≡ items + length l → b + entries_for (list_at cmp (f x) k) ≡ keys + entries_for l → IsCounted cmp p after a b
    IsCounted-edited a b items_told keys_told =
        let of_items = item_sum in let of_keys = key_sum in let size = edited_sized in let sized = h.sized in
        record {
          least = h.least;
          greatest = h.greatest;
          sized = omega (arith, size, sized);
          each = each_edited;
          counted = omega (arith, of_items, items_told);
          keyed = omega (arith, of_keys, keys_told);
        }

    pub KeepsBuckets-edited : KeepsBuckets cmp (map f xs) after
    KeepsBuckets-edited = record { lawful = edited_lawful; sized = edited_sized }

    module _ (had_now left : ℕ) (had_told : had_now ≡ length (list_at cmp (f x) k)) (left_told : left ≡ length l) where
      had_keys : keys_for had_now ≡ entries_for (list_at cmp (f x) k)
      had_keys = ap (λ m. keys_for m) had_told ∙ keys_for-length (list_at cmp (f x) k)

      left_keys : keys_for left ≡ entries_for l
      left_keys = ap (λ m. keys_for m) left_told ∙ keys_for-length l

      pub can_change : items + left ≤ had_now + (2 ^ 64 - 1) → CanChange items keys had_now left
      can_change fits =
          let held = items_within in let keyed = entries_within in let more = had_keys in let fewer = left_keys in
          let fit = keys_fit (items + left - had_now) (keys + keys_for left - keys_for had_now) (omega (arith, held, had_told, left_told)) (omega (arith, keyed, more, fewer)) in
          record {
            held = omega (arith, held, had_told);
            keyed = omega (arith, keyed, more);
            items_fit = fits;
            keys_fit = omega (arith, fit, fits, held, had_told, keyed, more);
          }

      pub counted_change : (a b : ℕ) → a + had_now ≡ items + left → b + keys_for had_now ≡ keys + keys_for left → IsCounted cmp p after a b
      counted_change a b items_told keys_told =
          let more = had_keys in let fewer = left_keys in
          IsCounted-edited a b (omega (arith, items_told, had_told, left_told)) (omega (arith, keys_told, more, fewer))

    pub counted_gain : (a b : ℕ) (absent : Bool) → absent ≡ not (is_filled (list_at cmp (f x) k)) → length l ≡ length (list_at cmp (f x) k) + 1
        → a ≡ items + 1 → b ≡ keys + one_if absent → IsCounted cmp p after a b
    counted_gain a b absent absent_told more items_told keys_told =
        let list = list_at cmp (f x) k in let one = entries_for-filled l (omega (arith, more)) in let new_key = entries_for-one_if_absent list absent absent_told in
        IsCounted-edited a b (omega (arith, items_told, more)) (omega (arith, keys_told, one, new_key))

    -- of the index as it is seen, however its buckets stand
    module _ {T : Type 0} (translated : T → List ℕ → K) (t : T) (pruned more : ℕ) (F : List V → List V) (by_edit : l ≡ F (list_at cmp (f x) k)) where
      gathered-with_list_by : gathered after ≡ with_list_by (pair_cmp cmp) (gathered (map f xs)) (n, k) F
      gathered-with_list_by = gathered-with_list ∙ ap (λ m. with_list (pair_cmp cmp) (gathered (map f xs)) (n, k) m) (by_edit ∙ ap F (held_told cmp bucket k))

      abbrev pub old_kept : Kept T K V
      old_kept = record { translator = t; buckets = map f xs; pruned = pruned; standings = new_standings 0 0 }

      abbrev pub new_kept : Kept T K V
      new_kept = record { translator = t; buckets = after; pruned = more; standings = new_standings 0 0 }

      pub view_edited : more ≡ pruned → Edits cmp p translated old_kept (n, k) F new_kept
      view_edited same = λ i. record (view_of p translated old_kept) { content = gathered-with_list_by i; pruned = same i }

      pub view_pruned : (m : ℕ) → more ≡ pruned_after pruned m → Prunes cmp p translated old_kept (n, k) F m new_kept
      view_pruned m sum = λ i. record (view_of p translated old_kept) { content = gathered-with_list_by i; pruned = sum i }

-- the buckets as before, however they stand
pub same_but : {T K V : Type 0} {t : T} {pruned : ℕ} {old new : List (Content K V)} {b : Standings} (a : Standings) → new ≡ old
    → SameContent (record { translator = t; buckets = old; pruned = pruned; standings = a }) (record { translator = t; buckets = new; pruned = pruned; standings = b })
same_but {t = t} {pruned = pruned} {b = b} a same = λ i. record { translator = t; buckets = same i; pruned = pruned; standings = b }

pub kept_twice : {K V : Type 0} (cmp : K → K → Ordering) (old between new : List (Content K V)) → KeepsBuckets cmp old between → KeepsBuckets cmp between new → KeepsBuckets cmp old new
kept_twice cmp old between new a b = record { lawful = b.lawful; sized = b.sized ∙ a.sized }

-- a retention, by whether there is a new value
pub retains_with : {F K V : Type 0} (cmp : K → K → Ordering) (ask : F → V → Bool → F → Type 0) (f : F) (s t : View K V) (k : K) (new : Option V) (kept : List V) (taken : ℕ)
    → AsksWith ask f (run_at cmp s k) new kept taken → t ≡ with_pruned (with_run cmp s k kept) taken → RetainsWith cmp ask f s k new t
retains_with cmp ask f s t k None kept taken asks is =
    let all = asks.1 in
    (kept, asks.0, is ∙ ap (λ n. with_pruned (with_run cmp s k kept) n) (omega (arith, all)))
retains_with cmp ask f s t k (Some v) kept taken asks is = (taken, (kept, asks, is))
