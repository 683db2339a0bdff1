-- On buckets that are put in the place of others.
--     put_more, put_none                                        one bucket more, and none left
--     free_none, free_far, free_near                            whether so many buckets hold nothing, by the first that is filled
--     free_in, free_buckets                                     that they do, and that the whole is free of their keys
--     KeepsBuckets-installed, IsCounted-installed, seen_joined  the buckets after it, where the places held nothing, their counts, and the index as it is seen
--     refused_fault                                             why a range is refused
--     fits_inside, room_inside, free_inside                     the same of what two storages keep
use Rattle.std.proofs.Common.{◌≡◌, ℕ, suc, ◌+◌, ◌-◌, ◌^◌, ◌<◌, ◌≤◌, true, false, not, ◌&&◌, nat_lt, nat_eq, T, if◌then◌else◌, List, [], ◌∷◌, ◌++◌, get_or, set, take, drop, length, All, length-append, append_assoc, append-nil, add-zero, refl, sym, ap, subst, ◌∙◌, arith, lt_of_not-le, ◌⊎◌, inl, inr}
use Rattle.std.proofs.lemmas.Bool.{lt-ltb, ltb-true, ltb-false, eq-eqb, ne_eqb}
use Rattle.std.proofs.lemmas.List.{get_or_append_left, get_or-append-add, get_or-take, get_or-drop, get_or_past, length-take-le, length-drop, take_more_set, drop-set-lt, take-append-drop}
use Rattle.std.proofs.lemmas.List.Elements.{All-append, All-take, All-drop, All-get_or}
use Rattle.std.proofs.lemmas.Map.Lookups.{exact_pairs, exact_unsigned}
use Rattle.std.specs.declared.cmp.Ordering.{Ordering}
use Rattle.std.specs.declared.cmp.Ordering.TheVariants.{Equal}
use Rattle.std.specs.Ordering.{nat_cmp}
use Rattle.std.specs.Cmp.{IsTotalOrder}
use Rattle.key_index_flat.specs.declared.index.Fault.TheVariants.{Memory, Full}
use Rattle.key_index_flat.specs.Content.{Content, is_filled, IsLawful, list_at, item_count, key_count}
use Rattle.key_index_flat.proofs.content.ContentLemmas.{same_content}
use Rattle.key_index_flat.specs.View.{pruned_after}
use Rattle.key_index_parts.specs.Buckets.{Kept, IsCounted, KeepsBuckets, AreFree, bucket_at, with_items_from, filled_buckets, view_of, view_from}
use Rattle.key_index_parts.specs.Bitmap.{IsFirst, flag_at}
use Rattle.key_index_parts.specs.Standing.{new_standings}
use Rattle.key_index_parts.specs.Gathered.{pair_cmp, gathered_from, gathered}
use Rattle.key_index_parts.specs.laws.GatheredLaws.{pair_total, IsLawful-gathered}
use Rattle.key_index_parts.specs.Joined.{joined, joined_view, IsFree, is_between, install_fault}
use Rattle.key_index_parts.specs.laws.RangeLaws.{IsLawful-gathered_from, gathered_from-covers, is_between-within}
use Rattle.key_index_parts.proofs.buckets.BucketNeighbours.{flag_told, empty-is_filled}
use Rattle.key_index_parts.proofs.buckets.GatheredLemmas.{list_at-gathered, item_count-gathered_from, key_count-gathered_from, item_count-gathered, key_count-gathered}
use Rattle.key_index_parts.proofs.buckets.JoinedLemmas.{IsApart, apart_by, list_at-joined, IsLawful-joined, item_count-joined, key_count-joined}
use Rattle.key_index_parts.proofs.buckets.ShiftedLemmas.{list_from}

module _ {A : Type 0} where
  pub put_more : (buckets : List A) (n : ℕ) (c : A) (cs : List A) → n < length buckets
      → with_items_from (set buckets n c) (n + 1) cs ≡ with_items_from buckets n (c ∷ cs)
  put_more buckets n c cs h =
      let more : n + 1 + length cs ≡ n + length (c ∷ cs) = omega arith in
      (λ i. take_more_set buckets n c h i ++ (cs ++ drop-set-lt (n + 1 + length cs) buckets n c (omega arith) i))
      ∙ append_assoc (take n buckets) (c ∷ []) (cs ++ drop (n + 1 + length cs) buckets)
      ∙ ap (λ m. take n buckets ++ (c ∷ cs ++ drop m buckets)) more

  pub put_none : (buckets : List A) (n : ℕ) → with_items_from buckets n [] ≡ buckets
  put_none buckets n = ap (λ m. take n buckets ++ drop m buckets) (add-zero n) ∙ take-append-drop n buckets

module _ {K V : Type 0} where
  module _ (buckets : List (Content K V)) (start count : ℕ) where
    bucket_at-flag_unset : (n : ℕ) → flag_at (filled_buckets buckets) n ≡ false → bucket_at buckets n ≡ []
    bucket_at-flag_unset n h = empty-is_filled (bucket_at buckets n) (sym (flag_told buckets n) ∙ h)

    pub free_none : ((p : ℕ) → start ≤ p → flag_at (filled_buckets buckets) p ≡ false) → AreFree buckets start count
    free_none h n from upto = bucket_at-flag_unset n (h n from)

    module _ (n : ℕ) (first : IsFirst (flag_at (filled_buckets buckets)) start n) where
      pub free_far : count ≤ n - start → AreFree buckets start count
      free_far far p low high = let from = first.from in bucket_at-flag_unset p (first.before p low (omega (arith, high, far, from)))

      pub free_near : AreFree buckets start count → count ≤ n - start
      free_near free =
          let from = first.from in
          let far : count < suc (n - start) = lt_of_not-le (λ near.
          subst T (sym first.here ∙ flag_told buckets n ∙ ap is_filled (free n from (omega (arith, near, from)))) tt) in
          omega (arith, far)

pub is_between-bounds : (a b n : ℕ) → is_between a b n ≡ true → (a ≤ n) × (n < b)
is_between-bounds a b n =
    elim (nat_lt n a) as (λ u. nat_lt n a ≡ u → not u && nat_lt n b ≡ true → (a ≤ n) × (n < b)) [
      | true ↦ λ e f. absurd (subst T (sym f) tt)
      | false ↦ λ e f. (ltb-false n a e, ltb-true n b f)
    ] refl

-- one partition alone
pub is_between-one : (n m : ℕ) → is_between n (n + 1) m ≡ nat_eq m n
is_between-one n m =
    elim (nat_lt m n) as (λ u. nat_lt m n ≡ u → not u && nat_lt m (n + 1) ≡ nat_eq m n) [
      | true ↦ λ e. let below = ltb-true m n e in sym (ne_eqb m n (λ same. omega (arith, same, below)))
      | false ↦ λ e.
          let from = ltb-false m n e in
          elim (nat_lt m (n + 1)) as (λ v. nat_lt m (n + 1) ≡ v → v ≡ nat_eq m n) [
            | true ↦ λ f. let below = ltb-true m (n + 1) f in sym (eq-eqb m n (omega (arith, from, below)))
            | false ↦ λ f. let above = ltb-false m (n + 1) f in sym (ne_eqb m n (λ same. omega (arith, same, above)))
          ] refl
    ] refl

-- of an index key outside
is_between-outside : (a b n : ℕ) → is_between a b n ≡ false → (n < a) ⊎ (b ≤ n)
is_between-outside a b n =
    elim (nat_lt n a) as (λ u. nat_lt n a ≡ u → not u && nat_lt n b ≡ false → (n < a) ⊎ (b ≤ n)) [
      | true ↦ λ e f. inl (ltb-true n a e)
      | false ↦ λ e f. inr (ltb-false n b f)
    ] refl

module _ {K V : Type 0} {cmp : K → K → Ordering} (o : IsTotalOrder cmp) (exact : (x y : K) → cmp x y ≡ Equal → x ≡ y) where
  pub free_in : (buckets : List (Content K V)) (start count : ℕ) → AreFree buckets start count → IsFree (pair_cmp cmp) (λ slot. is_between start (start + count) slot.0) (gathered buckets)
  free_in buckets start count free slot h =
      let at = is_between-bounds start (start + count) slot.0 h in
      list_at-gathered cmp buckets slot.0 slot.1 ∙ ap (λ c. list_at cmp c slot.1) (free slot.0 at.0 at.1)

  each_at : (buckets : List (Content K V)) (m : ℕ) → All (IsLawful cmp) buckets → IsLawful cmp (bucket_at buckets m)
  each_at buckets m each =
      elim (nat_lt m (length buckets)) as (λ b. nat_lt m (length buckets) ≡ b → IsLawful cmp (bucket_at buckets m)) [
        | true ↦ λ e. All-get_or (IsLawful cmp) buckets m [] (ltb-true m (length buckets) e) each
        | false ↦ λ e. subst (λ c. IsLawful cmp c) (sym (get_or_past buckets m [] (ltb-false m (length buckets) e))) (tt, tt)
      ] refl

  pub free_buckets : (buckets : List (Content K V)) (start count : ℕ) → All (IsLawful cmp) buckets
      → IsFree (pair_cmp cmp) (λ slot. is_between start (start + count) slot.0) (gathered buckets) → AreFree buckets start count
  free_buckets buckets start count each free n from upto =
      same_content o exact (bucket_at buckets n) [] (each_at buckets n each) (tt, tt)
      (λ k. sym (list_at-gathered cmp buckets n k) ∙ free (n, k) (is_between-within start (start + count) n from upto))

  module _ {p : ℕ} {own other : List (Content K V)} {items keys more_items more_keys : ℕ} (h : IsCounted cmp p own items keys) (k : IsCounted cmp p other more_items more_keys)
      (start : ℕ) (fits : start + length other ≤ length own)
      (free : IsFree (pair_cmp cmp) (λ slot. is_between start (start + length other) slot.0) (gathered own)) where
    abbrev new : List (Content K V)
    new = with_items_from own start other

    abbrev behind : List (Content K V)
    behind = drop (start + length other) own

    front_size : length (take start own) ≡ start
    front_size = length-take-le start own (omega (arith, fits))

    length-with_items_from : length (with_items_from own start other) ≡ length own
    length-with_items_from =
        let front = front_size in
        let all = length-append (take start own) (other ++ behind) in
        let rest = length-append other behind in
        let last = length-drop (start + length other) own in omega (arith, front, all, rest, last, fits)

    each_new : All (IsLawful cmp) new
    each_new =
        All-append (IsLawful cmp) (take start own) (other ++ behind) (All-take (IsLawful cmp) start own h.each)
        (All-append (IsLawful cmp) other behind k.each (All-drop (IsLawful cmp) (start + length other) own h.each))

    IsLawful-with_items_from : IsLawful (pair_cmp cmp) (gathered (with_items_from own start other))
    IsLawful-with_items_from = IsLawful-gathered cmp new each_new

    lawful_own : IsLawful (pair_cmp cmp) (gathered own)
    lawful_own = IsLawful-gathered cmp own h.each

    lawful_other : IsLawful (pair_cmp cmp) (gathered_from start other)
    lawful_other = IsLawful-gathered_from cmp start other (IsLawful-gathered cmp other k.each)

    at_other : (j : ℕ) → j < length other → bucket_at new (start + j) ≡ bucket_at other j
    at_other j inside =
        let front = front_size in
        ap (λ n. get_or new (n + j) []) (sym front) ∙ get_or-append-add (take start own) (other ++ behind) j []
        ∙ get_or_append_left other behind [] j inside

    bucket_at-before_start : (n : ℕ) → n < start → bucket_at new n ≡ bucket_at own n
    bucket_at-before_start n below =
        let front = front_size in
        get_or_append_left (take start own) (other ++ behind) [] n (omega (arith, below, front)) ∙ get_or-take start own n [] below

    at_behind : (j : ℕ) → bucket_at new (start + (length other + j)) ≡ bucket_at own (start + length other + j)
    at_behind j =
        let front = front_size in
        ap (λ n. get_or new (n + (length other + j)) []) (sym front) ∙ get_or-append-add (take start own) (other ++ behind) (length other + j) []
        ∙ get_or-append-add other behind j [] ∙ get_or-drop (start + length other) own j []

    at_outside : (n : ℕ) → is_between start (start + length other) n ≡ false → bucket_at new n ≡ bucket_at own n
    at_outside n out = elim (is_between-outside start (start + length other) n out) [
      | inl below ↦ bucket_at-before_start n below
      | inr above ↦
          let j : (i : ℕ) × (start + length other + i ≡ n) = (n - (start + length other), omega (arith, above)) in
          let same : start + (length other + j.0) ≡ n = omega (arith, j.1) in
          ap (λ m. bucket_at new m) (sym same) ∙ at_behind j.0 ∙ ap (λ m. bucket_at own m) j.1
    ]

    list_other : (slot : ℕ × K) → is_between start (start + length other) slot.0 ≡ true → list_at (pair_cmp cmp) (gathered_from start other) slot ≡ list_at cmp (bucket_at new slot.0) slot.1
    list_other slot is =
        let at = is_between-bounds start (start + length other) slot.0 is in
        let j : (i : ℕ) × (start + i ≡ slot.0) = (slot.0 - start, omega (arith, at.0)) in
        ap (λ n. list_at (pair_cmp cmp) (gathered_from start other) (n, slot.1)) (sym j.1)
        ∙ list_from cmp start other (j.0, slot.1) ∙ list_at-gathered cmp other j.0 slot.1
        ∙ ap (λ c. list_at cmp c slot.1) (sym (at_other j.0 (omega (arith, at.1, j.1))) ∙ ap (λ n. bucket_at new n) j.1)

    pair_exact : (x y : ℕ × K) → pair_cmp cmp x y ≡ Equal → x ≡ y
    pair_exact = exact_pairs nat_cmp cmp exact_unsigned exact

    IsApart-gathered : IsApart (pair_cmp cmp) (gathered own) (gathered_from start other)
    IsApart-gathered = apart_by (pair_cmp cmp) (λ slot. is_between start (start + length other) slot.0) (gathered own) (gathered_from start other) free (gathered_from-covers cmp start other)

    joined_by : gathered (with_items_from own start other) ≡ joined (pair_cmp cmp) (gathered own) (gathered_from start other)
    joined_by =
        same_content (pair_total o) pair_exact _ _ IsLawful-with_items_from (IsLawful-joined (pair_total o) (gathered own) (gathered_from start other) lawful_other) (λ slot.
        list_at-gathered cmp new slot.0 slot.1
        ∙ elim (is_between start (start + length other) slot.0) as (λ b. is_between start (start + length other) slot.0 ≡ b
        → list_at cmp (bucket_at new slot.0) slot.1 ≡ list_at (pair_cmp cmp) (gathered own) slot ++ list_at (pair_cmp cmp) (gathered_from start other) slot) [
          | true ↦ λ is. sym (list_other slot is) ∙ ap (λ l. l ++ list_at (pair_cmp cmp) (gathered_from start other) slot) (sym (free slot is))
          | false ↦ λ is.
              ap (λ c. list_at cmp c slot.1) (at_outside slot.0 is) ∙ sym (list_at-gathered cmp own slot.0 slot.1) ∙ sym (append-nil (list_at (pair_cmp cmp) (gathered own) slot))
              ∙ ap (λ l. list_at (pair_cmp cmp) (gathered own) slot ++ l) (sym (gathered_from-covers cmp start other slot (ap (λ b. not b) is)))
        ] refl
        ∙ sym (list_at-joined (pair_total o) pair_exact (gathered own) (gathered_from start other) slot lawful_own))

    module _ (buckets : List (Content K V)) (is : buckets ≡ with_items_from own start other) where
      pub KeepsBuckets-installed : KeepsBuckets cmp own buckets
      KeepsBuckets-installed = record { lawful = subst (λ cs. IsLawful (pair_cmp cmp) (gathered cs)) (sym is) IsLawful-with_items_from; sized = ap (λ cs. length cs) is ∙ length-with_items_from }

      pub IsCounted-installed : (a b : ℕ) → a ≡ items + more_items → b ≡ keys + more_keys → IsCounted cmp p buckets a b
      IsCounted-installed a b items_told keys_told =
          let size = ap (λ cs. length cs) is ∙ length-with_items_from in
          let most = h.sized in
          let of_items = ap (λ cs. item_count (gathered cs)) is ∙ ap (λ c. item_count c) joined_by ∙ item_count-joined (pair_total o) (gathered own) (gathered_from start other) lawful_other in
          let of_keys = ap (λ cs. key_count (gathered cs)) is ∙ ap (λ c. key_count c) joined_by ∙ key_count-joined (pair_total o) pair_exact (gathered own) (gathered_from start other) lawful_own lawful_other IsApart-gathered in
          let other_items = item_count-gathered_from start other ∙ sym (item_count-gathered other) in
          let other_keys = key_count-gathered_from start other ∙ sym (key_count-gathered other) in
          let was = h.counted in let had = h.keyed in let was_other = k.counted in let had_other = k.keyed in
          record {
            least = h.least;
            greatest = h.greatest;
            sized = omega (arith, size, most);
            each = subst (λ cs. All (IsLawful cmp) cs) (sym is) each_new;
            counted = omega (arith, of_items, other_items, was, was_other, items_told);
            keyed = omega (arith, of_keys, other_keys, had, had_other, keys_told);
          }

      -- of the index as it is seen
      pub seen_joined : {T : Type 0} (translated : T → List ℕ → K) (t u : T) (pruned others more : ℕ) → more ≡ pruned_after pruned others
          → view_of p translated (record { translator = t; buckets = buckets; pruned = more; standings = new_standings 0 0 })
          ≡ joined_view (pair_cmp cmp) (view_of p translated (record { translator = t; buckets = own; pruned = pruned; standings = new_standings 0 0 }))
          (view_from p translated start (record { translator = u; buckets = other; pruned = others; standings = new_standings 0 0 }))
      seen_joined translated t u pruned others more sum =
          let content = ap (λ cs. gathered cs) is ∙ joined_by in
          λ i. record (view_of p translated (record { translator = t; buckets = own; pruned = pruned; standings = new_standings 0 0 })) { content = content i; pruned = sum i }

pub refused_fault : (m n : ℕ) → (m + n ≤ 2 ^ 64 - 1 → ⊥) → Full ≡ install_fault m n
refused_fault m n full =
    let more : 2 ^ 64 - 1 < m + n = lt_of_not-le full in ap (λ b. if b then Full else Memory) (sym (lt-ltb (2 ^ 64 - 1) (m + n) more))

-- of what two storages keep
module _ {T K V : Type 0} (cmp : K → K → Ordering) (start : ℕ) {s t r q : Kept T K V} (own : s ≡ t) (other : r ≡ q) where
  pub fits_inside : start + length q.buckets ≤ length t.buckets → start + length r.buckets ≤ length s.buckets
  fits_inside h = let a = ap (λ k. length k.buckets) own in let b = ap (λ k. length k.buckets) other in omega (arith, a, b, h)

  pub room_inside : item_count (gathered t.buckets) + item_count (gathered q.buckets) ≤ 2 ^ 64 - 1 → item_count (gathered s.buckets) + item_count (gathered r.buckets) ≤ 2 ^ 64 - 1
  room_inside h = let a = ap (λ k. item_count (gathered k.buckets)) own in let b = ap (λ k. item_count (gathered k.buckets)) other in omega (arith, a, b, h)

  pub free_inside : IsFree (pair_cmp cmp) (λ slot. is_between start (start + length q.buckets) slot.0) (gathered t.buckets)
      → IsFree (pair_cmp cmp) (λ slot. is_between start (start + length r.buckets) slot.0) (gathered s.buckets)
  free_inside h =
      subst (λ k. IsFree (pair_cmp cmp) (λ slot. is_between start (start + length k.buckets) slot.0) (gathered s.buckets)) (sym other)
      (subst (λ k. IsFree (pair_cmp cmp) (λ slot. is_between start (start + length q.buckets) slot.0) (gathered k.buckets)) (sym own) h)
