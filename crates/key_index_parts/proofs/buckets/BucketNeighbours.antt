-- The neighbours of a slot among the buckets, by which of them are filled.
--     flag_told, flag_at-within               the flag of a bucket, and a flag that is set is of one
--     at_number                               an entry of a bucket at its slot
--     first_of, first_none                    the first entry of the buckets from a number on, by the first of them that is filled, and where none is
--     last_of, last_list-no_flags             the last list of the buckets below a number, by the last of them that is filled, and where none is
--     above-in_parts, above-past              the first entry above a slot: in its own bucket, or in one beyond it; and none where it has no bucket
--     next_list-gathered                      the next list of a slot, by these
--     prev_list-gathered                      the previous list of a slot: in its own bucket, in one before it, or at the other end
use Rattle.std.proofs.Common.{◌≡◌, ℕ, zero, suc, ◌+◌, ◌-◌, ◌<◌, ◌≤◌, nat_lt, true, false, T, List, [], ◌∷◌, ◌++◌, get_or, take, drop, length, Option, Some, None, append-nil, refl, sym, ap, subst, ◌∙◌, add-one, arith}
use Rattle.std.proofs.lemmas.Bool.{ltb-true, ltb-false}
use Rattle.std.proofs.lemmas.List.{get_or-drop, get_or-take, get_or_past, length-take, drop_all}
use Rattle.std.specs.List.{last_or}
use Rattle.std.specs.Option.{option_map, option_or}
use Rattle.std.specs.declared.cmp.Ordering.{Ordering}
use Rattle.key_index_flat.specs.Content.{Content, is_filled}
use Rattle.key_index_flat.specs.Neighbours.{first_entry, last_entry, or_cycled, entries_above, entries_below, last_list, next_list, prev_list}
use Rattle.key_index_parts.specs.Buckets.{bucket_at, filled_buckets}
use Rattle.key_index_parts.specs.Bitmap.{IsFirst, IsLast, flag_at}
use Rattle.key_index_parts.specs.Gathered.{pair_cmp, tagged, gathered_from, gathered}
use Rattle.key_index_parts.proofs.buckets.GatheredNeighbours.{above-gathered, below-gathered}

last_or-append_more : {E : Type 0} (o : Option E) (xs : List E) (y : E) (ys : List E) → last_or o (xs ++ y ∷ ys) ≡ last_or None (y ∷ ys)
last_or-append_more o [] y ys = refl
last_or-append_more o (x ∷ xs) y ys = last_or-append_more (Some x) xs y ys

abbrev pub at_number : {K V : Type 0} → ℕ → K × List V → (ℕ × K) × List V
at_number p e = ((p, e.0), e.1)

first_entry-append : {K V : Type 0} (p : ℕ) (c : Content K V) (d : Content (ℕ × K) V) → first_entry (tagged p c ++ d) ≡ option_or (option_map (at_number p) (first_entry c)) (first_entry d)
first_entry-append p [] d = refl
first_entry-append p (e ∷ es) d = refl

module _ {K V : Type 0} where
  -- the flag of a bucket
  pub flag_told : (buckets : List (Content K V)) (n : ℕ) → flag_at (filled_buckets buckets) n ≡ is_filled (bucket_at buckets n)
  flag_told [] n = refl
  flag_told (c ∷ cs) zero = refl
  flag_told (c ∷ cs) (suc n) = flag_told cs n

  pub flag_at-within : (buckets : List (Content K V)) (n : ℕ) → flag_at (filled_buckets buckets) n ≡ true → n < length buckets
  flag_at-within [] n h = absurd (subst T (sym h) tt)
  flag_at-within (c ∷ cs) zero h = omega arith
  flag_at-within (c ∷ cs) (suc n) h = let l = flag_at-within cs n h in omega (arith, l)

  pub empty-is_filled : (c : Content K V) → is_filled c ≡ false → c ≡ []
  empty-is_filled [] h = refl
  empty-is_filled (e ∷ es) h = absurd (subst T h tt)

  -- ---- from a number on

  none_from : (m : ℕ) (cs : List (Content K V)) → ((i : ℕ) → is_filled (get_or cs i []) ≡ false) → gathered_from m cs ≡ []
  none_from m [] h = refl
  none_from m (c ∷ cs) h = ap (λ d. tagged m d ++ gathered_from (suc m) cs) (empty-is_filled c (h 0)) ∙ none_from (suc m) cs (λ i. h (suc i))

  first_from : (m n : ℕ) (cs : List (Content K V)) (j : ℕ) → m + j ≡ n → is_filled (get_or cs j []) ≡ true → ((i : ℕ) → i < j → is_filled (get_or cs i []) ≡ false)
      → first_entry (gathered_from m cs) ≡ option_map (at_number n) (first_entry (get_or cs j []))
  first_from m n [] j is h before = absurd (subst T (sym h) tt)
  first_from m n ([] ∷ cs) zero is h before = absurd (subst T (sym h) tt)
  first_from m n ((e ∷ es) ∷ cs) zero is h before = ap (λ p. Some (at_number p e)) (omega (arith, is))
  first_from m n (c ∷ cs) (suc j) is h before =
      ap (λ d. first_entry (tagged m d ++ gathered_from (suc m) cs)) (empty-is_filled c (before 0 (omega arith)))
      ∙ first_from (suc m) n cs j (omega (arith, is)) h (λ i l. before (suc i) (omega (arith, l)))

  module _ (buckets : List (Content K V)) (start : ℕ) where
    from_start : (i : ℕ) → get_or (drop start buckets) i [] ≡ bucket_at buckets (start + i)
    from_start i = get_or-drop start buckets i []

    pub first_of : (n : ℕ) → IsFirst (flag_at (filled_buckets buckets)) start n → first_entry (gathered_from start (drop start buckets)) ≡ option_map (at_number n) (first_entry (bucket_at buckets n))
    first_of n first =
        let from = first.from in
        let j : (i : ℕ) × (start + i ≡ n) = (n - start, omega (arith, from)) in
        let here = from_start j.0 ∙ ap (λ m. bucket_at buckets m) j.1 in
        first_from start n (drop start buckets) j.0 j.1 (ap is_filled here ∙ sym (flag_told buckets n) ∙ first.here)
        (λ i l. ap is_filled (from_start i) ∙ sym (flag_told buckets (start + i)) ∙ first.before (start + i) (omega arith) (omega (arith, l, j.1)))
        ∙ ap (λ c. option_map (at_number n) (first_entry c)) here

    pub first_none : ((p : ℕ) → start ≤ p → flag_at (filled_buckets buckets) p ≡ false) → first_entry (gathered_from start (drop start buckets)) ≡ None
    first_none h = ap (λ c. first_entry c) (none_from start (drop start buckets) (λ i. ap is_filled (from_start i) ∙ sym (flag_told buckets (start + i)) ∙ h (start + i) (omega arith)))

  -- ---- below a number

  last_list-filled : (c : Content K V) (o : Option (List V)) → is_filled c ≡ true → option_or (last_list c) o ≡ last_list c
  last_list-filled [] o h = absurd (subst T (sym h) tt)
  last_list-filled (e ∷ []) o h = refl
  last_list-filled (e ∷ f ∷ fs) o h = last_list-filled (f ∷ fs) o refl

  last_list-append : (c d : Content K V) → last_list (c ++ d) ≡ option_or (last_list d) (last_list c)
  last_list-append c [] = ap (λ d. last_list d) (append-nil c)
  last_list-append c (e ∷ es) = ap (λ o. option_map (λ f. f.1) o) (last_or-append_more None c e es) ∙ sym (last_list-filled (e ∷ es) (last_list c) refl)

  last-tagged_from : (p : ℕ) (o : Option (K × List V)) (q : Option ((ℕ × K) × List V)) (c : Content K V) → option_map (λ e. e.1) q ≡ option_map (λ e. e.1) o
      → option_map (λ e. e.1) (last_or q (tagged p c)) ≡ option_map (λ e. e.1) (last_or o c)
  last-tagged_from p o q [] h = h
  last-tagged_from p o q (e ∷ es) h = last-tagged_from p (Some e) (Some ((p, e.0), e.1)) es refl

  pub last-tagged : (p : ℕ) (c : Content K V) → last_list (tagged p c) ≡ last_list c
  last-tagged p c = last-tagged_from p None None c refl

module _ {K V : Type 0} where
  last_from : (m : ℕ) (cs : List (Content K V)) (j : ℕ) → is_filled (get_or cs j []) ≡ true → ((i : ℕ) → j < i → is_filled (get_or cs i []) ≡ false)
      → last_list (gathered_from m cs) ≡ last_list (get_or cs j [])
  last_from m [] j h behind = absurd (subst T (sym h) tt)
  last_from m (c ∷ cs) zero h behind =
      ap (λ d. last_list (tagged m c ++ d)) (none_from (suc m) cs (λ i. behind (suc i) (omega arith))) ∙ ap (λ d. last_list d) (append-nil (tagged m c)) ∙ last-tagged m c
  last_from m (c ∷ cs) (suc j) h behind =
      let rest = last_from (suc m) cs j h (λ i l. behind (suc i) (omega (arith, l))) in
      last_list-append (tagged m c) (gathered_from (suc m) cs) ∙ ap (λ o. option_or o (last_list (tagged m c))) rest ∙ last_list-filled (get_or cs j []) _ h

  module _ (buckets : List (Content K V)) (end : ℕ) where
    below_end : (i : ℕ) → ((i < end) → flag_at (filled_buckets buckets) i ≡ false) → is_filled (get_or (take end buckets) i []) ≡ false
    below_end i h =
        elim (nat_lt i end) as (λ b. nat_lt i end ≡ b → is_filled (get_or (take end buckets) i []) ≡ false) [
          | true ↦ λ e. let l = ltb-true i end e in ap is_filled (get_or-take end buckets i [] l) ∙ sym (flag_told buckets i) ∙ h l
          | false ↦ λ e. let past = ltb-false i end e in ap is_filled (get_or_past (take end buckets) i [] (omega (arith, past, length-take end buckets)))
        ] refl

    pub last_of : (n : ℕ) → IsLast (flag_at (filled_buckets buckets)) end n → last_list (gathered (take end buckets)) ≡ last_list (bucket_at buckets n)
    last_of n last =
        let here = get_or-take end buckets n [] last.below in
        last_from 0 (take end buckets) n (ap is_filled here ∙ sym (flag_told buckets n) ∙ last.here) (λ i l. below_end i (λ b. last.behind i l b))
        ∙ ap (λ c. last_list c) here

    pub last_list-no_flags : ((p : ℕ) → p < end → flag_at (filled_buckets buckets) p ≡ false) → last_list (gathered (take end buckets)) ≡ None
    last_list-no_flags h = ap (λ c. last_list c) (none_from 0 (take end buckets) (λ i. below_end i (h i)))

-- ---- neighbours

module _ {K V : Type 0} (cmp : K → K → Ordering) (buckets : List (Content K V)) where
  -- of a slot whose own bucket holds c: the entry that c has, or else the one that the buckets beyond have
  pub above-in_parts : (slot : ℕ × K) {c : Content K V} (told : c ≡ bucket_at buckets slot.0) {own : Option (K × List V)} {later : Option ((ℕ × K) × List V)}
      → own ≡ first_entry (entries_above cmp c slot.1) → later ≡ first_entry (gathered_from (slot.0 + 1) (drop (slot.0 + 1) buckets))
      → option_or (option_map (at_number slot.0) own) later ≡ first_entry (entries_above (pair_cmp cmp) (gathered buckets) slot)
  above-in_parts slot told of_own of_later =
      (λ i. option_or (option_map (at_number slot.0) ((of_own ∙ ap (λ d. first_entry (entries_above cmp d slot.1)) told) i)) ((of_later ∙ ap (λ n. first_entry (gathered_from n (drop n buckets))) (add-one slot.0)) i))
      ∙ sym (ap (λ d. first_entry d) (above-gathered cmp buckets slot.0 slot.1) ∙ first_entry-append slot.0 _ _)

  -- and the list next to it, where first is the entry that all buckets have
  pub next_list-gathered : (slot : ℕ × K) {c : Content K V} (told : c ≡ bucket_at buckets slot.0) {own : Option (K × List V)} {later first : Option ((ℕ × K) × List V)}
      → own ≡ first_entry (entries_above cmp c slot.1) → later ≡ first_entry (gathered_from (slot.0 + 1) (drop (slot.0 + 1) buckets)) → first ≡ first_entry (gathered buckets)
      → option_map (λ n. (n.0.1, n.1)) (or_cycled (option_or (option_map (at_number slot.0) own) later) first) ≡ next_list (pair_cmp cmp) (gathered buckets) slot
  next_list-gathered slot told of_own of_later of_first =
      λ i. option_map (λ n. (n.0.1, n.1)) (or_cycled (above-in_parts slot told of_own of_later i) (of_first i))

  pub above-past : (slot : ℕ × K) → length buckets ≤ slot.0 → entries_above (pair_cmp cmp) (gathered buckets) slot ≡ []
  above-past slot past =
      above-gathered cmp buckets slot.0 slot.1
      ∙ (λ i. tagged slot.0 (entries_above cmp (get_or_past buckets slot.0 [] past i) slot.1) ++ gathered_from (suc slot.0) (drop_all (suc slot.0) buckets (omega (arith, past)) i))

or_cycled-lists : {K V : Type 0} (o p : Option (K × List V)) → or_cycled (option_map (λ e. e.1) o) (option_map (λ e. e.1) p) ≡ option_map (λ n. (n.0.1, n.1)) (or_cycled o p)
or_cycled-lists (Some e) p = refl
or_cycled-lists None (Some e) = refl
or_cycled-lists None None = refl

-- of a slot whose own bucket holds c: the list that c has, or else the one that the buckets before have, or else the one at the other end
module _ {K V : Type 0} (cmp : K → K → Ordering) (buckets : List (Content K V)) (slot : ℕ × K) {c : Content K V} (told : c ≡ bucket_at buckets slot.0) {o p q : Option (List V)} where
  pub prev_list-gathered : o ≡ last_list (entries_below cmp c slot.1) → p ≡ last_list (gathered (take slot.0 buckets)) → q ≡ last_list (gathered buckets)
      → or_cycled (option_or o p) q ≡ prev_list (pair_cmp cmp) (gathered buckets) slot
  prev_list-gathered own earlier last =
      let own_below = entries_below cmp (bucket_at buckets slot.0) slot.1 in
      let of_own = own ∙ ap (λ d. last_list (entries_below cmp d slot.1)) told ∙ sym (last-tagged slot.0 own_below) in
      (λ i. or_cycled (option_or (of_own i) (earlier i)) (last i))
      ∙ ap (λ r. or_cycled r (last_list (gathered buckets))) (sym (ap (λ d. last_list d) (below-gathered cmp buckets slot.0 slot.1) ∙ last_list-append (gathered (take slot.0 buckets)) (tagged slot.0 own_below)))
      ∙ or_cycled-lists (last_entry (entries_below (pair_cmp cmp) (gathered buckets) slot)) (last_entry (gathered buckets))
