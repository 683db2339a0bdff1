-- Where a search of sorted keys ends.
--     length-filter-point                         a partition point is a count
--     above_too                                   above what is above
--     lower_partitions, upper_partitions          what a binary search asks for
--     Rises, Rises-IsSorted, IsSorted-Rises       that keys never fall, by recursion
--     IsSorted-remove_range                       it stays so without some of them
--     count_within                                a count is no more than all
--     filter-point                                it is the partition point
--     length-filter_above, length-filter_at_most  whether a place is below it
--     Decides-test, Decides-past                  by a test of what stands there, and where nothing does
--     count_behind, count_before                  by those from a place on, and by those up to one
--     point_in_part                               the partition point of a part that has that of all
--     answers_next                                what a closure answers that always answers so
--     count_parts, below_upto                     the counts of a key
--     last_uncounted, last_counted                those of the last
--     IsSorted-inserted                           a key goes in between these
use Rattle.std.proofs.Common.{◌≡◌, ℕ, suc, ◌+◌, ◌<◌, ◌≤◌, Bool, true, false, not, nat_lt, cond, T, List, [], ◌∷◌, length, All, take, drop, insert, refl, sym, ap, subst, ◌∙◌, arith, zero, get_or, ◌-◌, slice_get, Some}
use Rattle.std.specs.declared.cmp.Ordering.{Ordering}
use Rattle.std.specs.declared.cmp.Ordering.TheVariants.{Less, Equal, Greater}
use Rattle.std.specs.Ordering.{is_lt, is_le, is_gt, is_eq, eq_by_cmp, ordering_reverse}
use Rattle.std.specs.Cmp.{IsTotalOrder, tied_itself, eq_by_cmp_equiv}
use denote.Param.Members.{Mut}
use Rattle.std.specs.Bool.{Decides}
use Rattle.std.specs.Fn.{Called, AlwaysReturns}
use Rattle.std.specs.List.{filter, remove_range, slice_range, AllWithin}
use Rattle.std.specs.List.Sorted.{IsSorted, IsPartitionedBy, IsPartitionPoint}
use Rattle.std.proofs.lemmas.Bool.{ltb-true, ltb-false}
use Rattle.std.proofs.lemmas.Cmp.{upto}
use Rattle.std.proofs.lemmas.List.{get_or-take, get_or-drop, length-take, length-drop}
use Rattle.std.proofs.lemmas.List.Sorted.{ranks_by, sorted_far}
use Rattle.std.proofs.lemmas.List.Sums.{length-filter, count_by-le-length}
use Rattle.std.proofs.lemmas.Option.{get_or_from_slice_get, slice_get_within}
use Rattle.key_index_flat.proofs.content.ContentLemmas.{Less-is_lt}
use Rattle.key_index_parts.specs.Pairs.{count_below, count_upto}
use Rattle.std.proofs.lemmas.List.Elements.{All-nil, All-cons, All-head, All-tail, All-append, All-take, All-drop}
use Rattle.key_index_parts.proofs.pairs.PairLemmas.{filter-none}

-- a partition point is how many pass the test
pub length-filter-point : {X : Type 0} (p : X → Bool) (xs : List X) (i : ℕ) → i ≤ length xs → IsPartitionPoint (λ x. p x ≡ true) (λ x. p x ≡ false) xs i → i ≡ length (filter p xs)
length-filter-point p [] i h at = omega arith
length-filter-point p (x ∷ xs) zero h at =
    length-filter-point p xs 0 (omega arith) ((λ k d _ l. absurd (omega arith)), λ k d _ l. at.1 (suc k) d (omega arith) (omega arith))
    ∙ ap (λ b. length (cond b (x ∷ filter p xs) (filter p xs))) (sym (at.1 0 x (omega arith) (omega arith)))
length-filter-point p (x ∷ xs) (suc i) h at =
    ap suc (length-filter-point p xs i (omega arith) ((λ k d m l. at.0 (suc k) d (omega arith) (omega arith)), λ k d m l. at.1 (suc k) d (omega arith) (omega arith)))
    ∙ ap (λ b. length (cond b (x ∷ filter p xs) (filter p xs))) (sym (at.0 0 x (omega arith) (omega arith)))

-- what fails where another fails, and passes where it passes
unless : (b : Bool) → (b ≡ false → T false) → b ≡ true
unless true h = refl
unless false h = absurd (h refl)

module _ {K : Type 0} {cmp : K → K → Ordering} (o : IsTotalOrder cmp) where
  is_gt-turned : (x y : K) → is_gt (cmp x y) ≡ is_lt (cmp y x)
  is_gt-turned x y = ap is_gt (o.antisymm x y) ∙ elim (cmp y x) as (λ r. is_gt (ordering_reverse r) ≡ is_lt r) [ Less ↦ refl | Equal ↦ refl | Greater ↦ refl ]

  is_le-turned : (x y : K) → is_le (cmp x y) ≡ not (is_lt (cmp y x))
  is_le-turned x y = ap is_le (o.antisymm x y) ∙ elim (cmp y x) as (λ r. is_le (ordering_reverse r) ≡ not (is_lt r)) [ Less ↦ refl | Equal ↦ refl | Greater ↦ refl ]

  is_lt-turned : (x y : K) → is_lt (cmp x y) ≡ not (is_le (cmp y x))
  is_lt-turned x y = ap is_lt (o.antisymm x y) ∙ elim (cmp y x) as (λ r. is_lt (ordering_reverse r) ≡ not (is_le r)) [ Less ↦ refl | Equal ↦ refl | Greater ↦ refl ]

  -- not below what is not below
  never_falls : (x y z : K) → is_lt (cmp y x) ≡ false → is_lt (cmp z y) ≡ false → is_lt (cmp z x) ≡ false
  never_falls x y z h k = sym (is_gt-turned x z) ∙ upto o x y z (is_gt-turned x y ∙ h) (is_gt-turned y z ∙ k)

  -- below what is below, and above what is above
  below_too : (x y k : K) → is_lt (cmp y x) ≡ false → is_lt (cmp y k) ≡ true → is_lt (cmp x k) ≡ true
  below_too x y k h b = unless _ (λ f. subst T (sym b ∙ never_falls k x y f h) tt)

  pub above_too : (k x y : K) → is_lt (cmp y x) ≡ false → cmp k x ≡ Less → cmp k y ≡ Less
  above_too k x y h b = Less-is_lt (cmp k y) (subst T (sym (unless _ (λ f. subst T (sym (ap is_lt b) ∙ never_falls x y k h f) tt))) tt)

  far : (ks : List K) → IsSorted cmp ks → (i j : ℕ) (d : K) → i ≤ j → j < length ks → is_lt (cmp (get_or ks j d) (get_or ks i d)) ≡ false
  far ks h = sorted_far (λ x y. is_lt (cmp x y)) (ranks_by o (λ x. x)) ks h

  pub lower_partitions : (ks : List K) (k : K) → IsSorted cmp ks → IsPartitionedBy (λ x. is_lt (cmp x k)) ks
  lower_partitions ks k h i j d le l b = below_too _ _ k (far ks h i j d le l) b

  pub upper_partitions : (ks : List K) (k : K) → IsSorted cmp ks → IsPartitionedBy (λ x. is_le (cmp x k)) ks
  upper_partitions ks k h i j d le l b = is_le-turned _ k ∙ ap not (never_falls _ _ k (far ks h i j d le l) (is_lt-turned k _ ∙ ap not b))

abbrev pub Rises : {K : Type 0} → (K → K → Ordering) → List K → Type 0
Rises cmp [] = Unit {0}
Rises cmp (k ∷ ks) = All (λ x. is_lt (cmp x k) ≡ false) ks × Rises cmp ks

module _ {K : Type 0} {cmp : K → K → Ordering} (o : IsTotalOrder cmp) where
  pub Rises-IsSorted : (ks : List K) → IsSorted cmp ks → Rises cmp ks
  Rises-IsSorted [] h = tt
  Rises-IsSorted (k ∷ ks) h = ((λ j d b. far o (k ∷ ks) h 0 (suc j) d (omega arith) (omega arith)), Rises-IsSorted ks (λ i d m b. far o (k ∷ ks) h (suc i) (suc (i + 1)) d (omega arith) (omega arith)))

  pub IsSorted-Rises : (ks : List K) → Rises cmp ks → IsSorted cmp ks
  IsSorted-Rises [] h i d m b = absurd (omega arith)
  IsSorted-Rises (k ∷ ks) h zero d m b = h.0 0 d (omega arith)
  IsSorted-Rises (k ∷ ks) h (suc i) d m b =
      let place : suc (i + 1) ≡ suc i + 1 = omega arith in
      subst (λ n. is_lt (cmp (get_or (k ∷ ks) n d) (get_or ks i d)) ≡ false) place (IsSorted-Rises ks h.1 i d (omega arith) (omega arith))

  pub Rises-drop : (j : ℕ) (ks : List K) → Rises cmp ks → Rises cmp (drop j ks)
  Rises-drop zero ks h = h
  Rises-drop (suc j) [] h = tt
  Rises-drop (suc j) (k ∷ ks) h = Rises-drop j ks h.1

  Rises-remove_range : (i j : ℕ) (ks : List K) → i ≤ j → Rises cmp ks → Rises cmp (remove_range ks i j)
  Rises-remove_range zero j ks le h = Rises-drop j ks h
  Rises-remove_range (suc i) zero ks le h = absurd (omega arith)
  Rises-remove_range (suc i) (suc j) [] le h = tt
  Rises-remove_range (suc i) (suc j) (k ∷ ks) le h =
      let P : K → Type 0 = λ x. is_lt (cmp x k) ≡ false in
      (All-append P (take i ks) (drop j ks) (All-take P i ks h.0) (All-drop P j ks h.0), Rises-remove_range i j ks (omega arith) h.1)

  pub IsSorted-remove_range : (ks : List K) (i j : ℕ) → i ≤ j → IsSorted cmp ks → IsSorted cmp (remove_range ks i j)
  IsSorted-remove_range ks i j le h = IsSorted-Rises (remove_range ks i j) (Rises-remove_range i j ks le (Rises-IsSorted ks h))

  pub Rises-take : (n : ℕ) (ks : List K) → Rises cmp ks → Rises cmp (take n ks)
  Rises-take zero ks h = tt
  Rises-take (suc n) [] h = tt
  Rises-take (suc n) (k ∷ ks) h = (All-take (λ x. is_lt (cmp x k) ≡ false) n ks h.0, Rises-take n ks h.1)

-- ---- a test that the first elements pass, and no others

module _ {X : Type 0} (p : X → Bool) where
  abbrev Parted : List X → Type 0
  Parted xs = IsPartitionedBy p xs

  abbrev At : List X → ℕ → Type 0
  At xs n = IsPartitionPoint (λ x. p x ≡ true) (λ x. p x ≡ false) xs n

  pub count_within : (xs : List X) → length (filter p xs) ≤ length xs
  count_within xs = omega (arith, length-filter p xs, count_by-le-length p xs)

  within_cons : (x : X) (xs : List X) (n : ℕ) → p x ≡ true → AllWithin (λ x. p x ≡ true) xs 0 n → AllWithin (λ x. p x ≡ true) (x ∷ xs) 0 (suc n)
  within_cons x xs n h rest zero d _ l = h
  within_cons x xs n h rest (suc k) d _ l = rest k d (omega arith) (omega arith)

  behind_cons : (x : X) (xs : List X) (n : ℕ) → AllWithin (λ x. p x ≡ false) xs n (length xs) → AllWithin (λ x. p x ≡ false) (x ∷ xs) (suc n) (suc (length xs))
  behind_cons x xs n rest zero d m l = absurd (omega arith)
  behind_cons x xs n rest (suc k) d m l = rest k d (omega arith) (omega arith)

  filter-point : (xs : List X) → Parted xs → At xs (length (filter p xs))
  filter-point [] h = ((λ k d _ l. absurd (omega arith)), λ k d _ l. absurd (omega arith))
  filter-point (x ∷ xs) h =
      let rest = filter-point xs (λ i j d le l. h (suc i) (suc j) d (omega arith) (omega arith)) in
      elim (p x) as (λ b. p x ≡ b → At (x ∷ xs) (length (cond b (x ∷ filter p xs) (filter p xs)))) [
        | true ↦ λ e. (within_cons x xs (length (filter p xs)) e rest.0, behind_cons x xs (length (filter p xs)) rest.1)
        | false ↦ λ e.
            let none : All (λ y. p y ≡ false) (x ∷ xs) = λ j d l. elim (p (get_or (x ∷ xs) j d)) as (λ b. p (get_or (x ∷ xs) j d) ≡ b → b ≡ false) [ true ↦ λ q. sym (h 0 j d (omega arith) l q) ∙ e | false ↦ λ _. refl ] refl in
            let zeroth = ap length (filter-none p xs (λ j d l. none (suc j) d (omega arith))) in
            ((λ k d _ l. absurd (omega (arith, zeroth, l))), λ k d _ l. none k d l)
      ] refl

  -- an element that passes is counted, with all before it
  pub length-filter_above : (xs : List X) (i : ℕ) (d : X) → Parted xs → i < length xs → p (get_or xs i d) ≡ true → i < length (filter p xs)
  length-filter_above xs i d h l e = elim (nat_lt i (length (filter p xs))) as (λ b. nat_lt i (length (filter p xs)) ≡ b → i < length (filter p xs)) [
    | true ↦ λ q. ltb-true i _ q
    | false ↦ λ q. absurd (subst T (sym e ∙ (filter-point xs h).1 i d (ltb-false i _ q) l) tt)
  ] refl

  -- one that fails is not, nor any behind it
  pub length-filter_at_most : (xs : List X) (i : ℕ) (d : X) → Parted xs → i < length xs → p (get_or xs i d) ≡ false → length (filter p xs) ≤ i
  length-filter_at_most xs i d h l e = elim (nat_lt i (length (filter p xs))) as (λ b. nat_lt i (length (filter p xs)) ≡ b → length (filter p xs) ≤ i) [
    | true ↦ λ q. absurd (subst T (sym ((filter-point xs h).0 i d (omega arith) (ltb-true i _ q)) ∙ e) tt)
    | false ↦ λ q. ltb-false i _ q
  ] refl

  -- whether a place is below the count, by a test of what stands there, and where nothing does
  pub Decides-test : (xs : List X) (i : ℕ) (d : X) (r : Bool) → Parted xs → i < length xs → r ≡ p (get_or xs i d) → Decides r (i < length (filter p xs))
  Decides-test xs i d r h l e = (
    λ passed. length-filter_above xs i d h l (sym e ∙ passed),
    λ below. unless r (λ failed. absurd (omega (arith, length-filter_at_most xs i d h l (sym e ∙ failed), below))),
  )

  pub Decides-past : (xs : List X) (i : ℕ) → length xs ≤ i → Decides (nat_lt i (length xs)) (i < length (filter p xs))
  Decides-past xs i past = ((λ passed. absurd (omega (arith, ltb-true i (length xs) passed, past))), λ below. absurd (omega (arith, count_within xs, past, below)))

  -- the count from a place on, and up to a place
  pub count_behind : (xs : List X) (i : ℕ) → Parted xs → i ≤ length (filter p xs) → i + length (filter p (drop i xs)) ≡ length (filter p xs)
  count_behind xs i h l =
      let point = filter-point xs h in
      let left = length-drop i xs in
      let count = length-filter-point p (drop i xs) (length (filter p xs) - i) (omega (arith, count_within xs, left)) (
        (λ k d _ m. ap p (get_or-drop i xs k d) ∙ point.0 (i + k) d (omega arith) (omega (arith, m))),
        λ k d m n. ap p (get_or-drop i xs k d) ∙ point.1 (i + k) d (omega (arith, m)) (omega (arith, n, left)),
      ) in omega (arith, count, l)

  pub count_before : (xs : List X) (i : ℕ) → Parted xs → length (filter p xs) ≤ i → length (filter p (take i xs)) ≡ length (filter p xs)
  count_before xs i h l =
      let point = filter-point xs h in
      let size = length-take i xs in
      sym (length-filter-point p (take i xs) (length (filter p xs)) (omega (arith, count_within xs, size, l)) (
        (λ k d _ m. ap p (get_or-take i xs k d (omega (arith, m, l))) ∙ point.0 k d (omega arith) m),
        λ k d m n. ap p (get_or-take i xs k d (omega (arith, n, size))) ∙ point.1 k d m (omega (arith, n, size)),
      ))

  -- a search that goes on in a part of what it searches
  Parted-take : (n : ℕ) (xs : List X) → Parted xs → Parted (take n xs)
  Parted-take n xs h i j d le l e =
      let most = length-take n xs in
      ap p (get_or-take n xs i d (omega (arith, most, l, le))) ∙ h i j d le (omega (arith, most, l)) (ap p (sym (get_or-take n xs j d (omega (arith, most, l)))) ∙ e)

  Parted-drop : (n : ℕ) (xs : List X) → Parted xs → Parted (drop n xs)
  Parted-drop n xs h i j d le l e =
      ap p (get_or-drop n xs i d) ∙ h (n + i) (n + j) d (omega (arith, le)) (omega (arith, length-drop n xs, l)) (ap p (sym (get_or-drop n xs j d)) ∙ e)

  -- the partition point of a part is that of all where the part has it
  pub point_in_part : (xs : List X) (from left i : ℕ) → Parted xs → from ≤ length (filter p xs) → length (filter p xs) ≤ from + left
      → i ≤ length (slice_range xs from (from + left)) → (Parted (slice_range xs from (from + left)) → At (slice_range xs from (from + left)) i) → At xs (from + i)
  point_in_part xs from left i h low high bound at =
      let behind = Parted-drop from xs h in
      let all = count_behind xs from h low in
      let front = count_before (drop from xs) (from + left - from) behind (omega (arith, all, high)) in
      subst (At xs) (omega (arith, all, front, length-filter-point p _ i bound (at (Parted-take (from + left - from) (drop from xs) behind)))) (filter-point xs h)

module _ {F X R : Type 0} (g : Mut F X R) (P : X → R → Type 0) where
  -- what a closure answers, and that it goes on so
  pub answers_next : (f : F) (a : X) (r : R) (f' : F) → Called g f a r f' → AlwaysReturns g P f → P a r × AlwaysReturns g P f'
  answers_next f a r f' c h = ((h.at (a ∷ []) r f' c).0, record { at = λ xs. (h.at (a ∷ xs) r f' c).1 })

module _ {K : Type 0} {cmp : K → K → Ordering} (o : IsTotalOrder cmp) where
  -- of keys not above k, some are below it, and the others are equal
  pub count_parts : (ks : List K) (k : K) → count_upto cmp ks k ≡ count_below cmp ks k + length (filter (eq_by_cmp cmp k) ks)
  count_parts [] k = refl
  count_parts (x ∷ xs) k =
      let below = filter (λ y. is_lt (cmp y k)) xs in
      let upto = filter (λ y. is_le (cmp y k)) xs in
      let at = filter (eq_by_cmp cmp k) xs in
      let rest : length upto ≡ length below + length at = count_parts xs k in
      elim (cmp x k) as (λ r. length (cond (is_le r) (x ∷ upto) upto) ≡ length (cond (is_lt r) (x ∷ below) below) + length (cond (is_eq r) (x ∷ at) at)) [
        | Less ↦ let sum : suc (length upto) ≡ suc (length below) + length at = omega (arith, rest) in sum
        | Equal ↦ let sum : suc (length upto) ≡ length below + suc (length at) = omega (arith, rest) in sum
        | Greater ↦ rest
      ]
      ∙ ap (λ b. length (cond (is_lt (cmp x k)) (x ∷ below) below) + length (cond b (x ∷ at) at)) ((eq_by_cmp_equiv o).symm x k)

  pub below_upto : (ks : List K) (k : K) → count_below cmp ks k ≤ count_upto cmp ks k
  below_upto ks k = omega (arith, count_parts ks k)

  pub last_uncounted : (ks : List K) (k : K) → IsSorted cmp ks → slice_get ks (length ks - 1) ≡ Some k → count_below cmp ks k < length ks
  last_uncounted ks k h at =
      let within = slice_get_within ks (length ks - 1) k at in
      let test = ap (λ x. is_lt (cmp x k)) (get_or_from_slice_get ks (length ks - 1) k k at) ∙ ap is_lt (tied_itself o k) in
      omega (arith, within, length-filter_at_most (λ x. is_lt (cmp x k)) ks (length ks - 1) k (lower_partitions o ks k h) within test)

  pub last_counted : (ks : List K) (k : K) → IsSorted cmp ks → slice_get ks (length ks - 1) ≡ Some k → length ks ≡ count_upto cmp ks k
  last_counted ks k h at =
      let within = slice_get_within ks (length ks - 1) k at in
      let test = ap (λ x. is_le (cmp x k)) (get_or_from_slice_get ks (length ks - 1) k k at) ∙ ap is_le (tied_itself o k) in
      let least = length-filter_above (λ x. is_le (cmp x k)) ks (length ks - 1) k (upper_partitions o ks k h) within test in
      omega (arith, within, least, count_within (λ x. is_le (cmp x k)) ks)

  Rises-insert : (p : ℕ) (ks : List K) (k : K) → Rises cmp ks → All (λ x. is_lt (cmp k x) ≡ false) (take p ks) → All (λ x. is_lt (cmp x k) ≡ false) (drop p ks) → Rises cmp (insert ks p k)
  Rises-insert zero ks k h front back = (back, h)
  Rises-insert (suc p) [] k h front back = (All-nil _, tt)
  Rises-insert (suc p) (x ∷ ks) k h front back =
      let P : K → Type 0 = λ y. is_lt (cmp y x) ≡ false in
      let F : K → Type 0 = λ y. is_lt (cmp k y) ≡ false in
      (All-append P (take p ks) (k ∷ drop p ks) (All-take P p ks h.0) (All-cons P k (drop p ks) (All-head F x (take p ks) front) (All-drop P p ks h.0)), Rises-insert p ks k h.1 (All-tail F x (take p ks) front) back)

  -- a key goes in behind all that are below it, and in front of all that are above
  pub IsSorted-inserted : (ks : List K) (k : K) (n : ℕ) → IsSorted cmp ks → count_below cmp ks k ≤ n → n ≤ count_upto cmp ks k → IsSorted cmp (insert ks n k)
  IsSorted-inserted ks k n h low high =
      let lower = filter-point (λ x. is_lt (cmp x k)) ks (lower_partitions o ks k h) in
      let upper = filter-point (λ x. is_le (cmp x k)) ks (upper_partitions o ks k h) in
      IsSorted-Rises o (insert ks n k) (Rises-insert n ks k (Rises-IsSorted o ks h)
      (λ j d b. ap (λ x. is_lt (cmp k x)) (get_or-take n ks j d (omega (arith, length-take n ks, b))) ∙ is_lt-turned o k _ ∙ ap not (upper.0 j d (omega arith) (omega (arith, length-take n ks, b, high))))
      (λ j d b. ap (λ x. is_lt (cmp x k)) (get_or-drop n ks j d) ∙ lower.1 (n + j) d (omega (arith, low)) (omega (arith, length-drop n ks, b))))
