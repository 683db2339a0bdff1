-- Cells that are made anew, and how many positions cells have.
--     Copied                    the positions of the first cells stand in new ones, of which no other is used
--     Copied-past, Copied-put     before the first cell, past one without a position, and with a position more
--     copied_keeps              what the new cells keep of a map, with a position more
--     copied_files              once all are copied, the new cells file the same map
--     put_stored, put_count, put_used     what a position put in leaves, into an empty cell or another
--     put_copies, put_kept      the same of new cells
--     files_size                a map that cells file has as many positions as cells are full
use Rattle.std.proofs.Common.{◌≡◌, ◌≢◌, ℕ, suc, zero, ◌+◌, ◌<◌, ◌≤◌, Bool, true, false, cond, List, [], ◌∷◌, length, slice_index, slice_set, nat_lt, nat_eq, map, take, Option, Some, None, IsSome, refl, sym, ap, subst, ◌∙◌, inl, inr, arith, count_by, replicate, get_or-set_same, get_or-set_other}
use Rattle.std.specs.List.{find, filter, range_with_len, Contains, IsDistinct}
use Rattle.std.proofs.lemmas.Bool.{le-leb, leb-true, ltb-true, eqb-true, eqb-false}
use Rattle.std.proofs.lemmas.List.{length-set, length-map}
use Rattle.std.proofs.lemmas.List.Sums.{sum_by-cons, length-filter, count_by_more_yes, count_by_more_no}
use Rattle.key_index.specs.Table.{is_used, is_full, from_cell, home, control_of, Files, HasSize, IsPut, AreCells, with_hash}
use Rattle.key_index.proofs.tables.TableMaps.{Keeps, put_keeps, find_passes, full-put, used-put_empty, used-put_used, put_files, full_within, Contains-head, Contains-tail, Contains_cases, Contains_none, Contains-map, Contains-from_map, list_distinct, apart_from, range_has, range_distinct, no_full}

-- the positions of the first n cells cs, ps stand in the cells ds, qs
pub record Copied (cs ps ds qs : List ℕ) (n : ℕ) : Type 0 where
  pub sized : length qs ≡ length ds
  pub full : count_by is_full ds ≡ count_by is_full (take n cs)
  pub used : count_by is_used ds ≡ count_by is_full (take n cs)
  pub clean : (j : ℕ) → slice_index ds j ≢ 1
  pub copied_from : (j : ℕ) → 2 ≤ slice_index ds j → (i : ℕ) × (i < n) × (2 ≤ slice_index cs i) × (slice_index ps i ≡ slice_index qs j)
  pub target : (i : ℕ) → i < n → 2 ≤ slice_index cs i → (j : ℕ) × (2 ≤ slice_index ds j) × (slice_index qs j ≡ slice_index ps i)

slice_index-zeros : (n i : ℕ) → slice_index (replicate n 0) i ≡ 0
slice_index-zeros zero zero = refl
slice_index-zeros zero (suc i) = refl
slice_index-zeros (suc n) zero = refl
slice_index-zeros (suc n) (suc i) = slice_index-zeros n i

no_marks : (n : ℕ) → (count_by is_full (replicate n 0) ≡ 0) × (count_by is_used (replicate n 0) ≡ 0)
no_marks zero = (refl, refl)
no_marks (suc n) =
    let r = no_marks n in
    (omega (arith, r.0, sum_by-cons (λ x. cond {A = ℕ} (is_full x) 1 0) 0 (replicate n 0)), omega (arith, r.1, sum_by-cons (λ x. cond {A = ℕ} (is_used x) 1 0) 0 (replicate n 0)))

pub Copied-past : (cs ps ds qs : List ℕ) (n : ℕ) → n < length cs → slice_index cs n < 2 → Copied cs ps ds qs n → Copied cs ps ds qs (n + 1)
Copied-past cs ps ds qs n b f s =
    let same = count_by_more_no is_full cs n 0 b (no_full (slice_index cs n) f) in
    record {
      sized = s.sized;
      full = s.full ∙ sym same;
      used = s.used ∙ sym same;
      clean = s.clean;
      copied_from = λ j g. let r = s.copied_from j g in (r.0, omega arith, r.2, r.3);
      target = λ i l g. elim (nat_eq i n) as (λ t. nat_eq i n ≡ t → (j : ℕ) × (2 ≤ slice_index ds j) × (slice_index qs j ≡ slice_index ps i)) [
        | true ↦ λ t. let e = ap (slice_index cs) (eqb-true _ _ t) in absurd (omega (arith, e, f, g))
        | false ↦ λ t. let ne = eqb-false _ _ t in s.target i (omega (arith, ne)) g
      ] refl;
    }

module _ (cs ps ds qs : List ℕ) (n h p cell : ℕ) (s : Copied cs ps ds qs n) (b : n < length cs) (f : 2 ≤ slice_index cs n) (at : p ≡ slice_index ps n)
    (free : slice_index ds cell < 2) (within : cell < length ds) where
  cell_empty : slice_index ds cell ≡ 0
  cell_empty = let c = s.clean cell in omega arith

  control_at_cell : slice_index (slice_set ds cell (control_of h)) cell ≡ control_of h
  control_at_cell = get_or-set_same ds cell (control_of h) 0 within

  place_at_cell : slice_index (slice_set qs cell p) cell ≡ p
  place_at_cell = let z = s.sized in get_or-set_same qs cell p 0 (omega arith)

  pub Copied-put : Copied cs ps (slice_set ds cell (control_of h)) (slice_set qs cell p) (n + 1)
  Copied-put =
      let more = count_by_more_yes is_full cs n 0 b (le-leb 2 (slice_index cs n) f) in
      let full = full-put ds cell (control_of h) within free (omega arith) in
      let used = used-put_empty ds cell (control_of h) within cell_empty (omega arith) in
      record {
        sized = length-set qs cell p ∙ s.sized ∙ sym (length-set ds cell (control_of h));
        full = full ∙ ap (λ k. k + 1) s.full ∙ sym more;
        used = used ∙ ap (λ k. k + 1) s.used ∙ sym more;
        clean = λ j z. elim (nat_eq j cell) as (λ t. nat_eq j cell ≡ t → ⊥) [
          | true ↦ λ t. let e = ap (slice_index (slice_set ds cell (control_of h))) (eqb-true _ _ t) ∙ control_at_cell in omega (arith, e, z)
          | false ↦ λ t. s.clean j (sym (get_or-set_other ds cell j (control_of h) 0 (eqb-false _ _ t)) ∙ z)
        ] refl;
        copied_from = λ j g. elim (nat_eq j cell) as (λ t. nat_eq j cell ≡ t → (i : ℕ) × (i < n + 1) × (2 ≤ slice_index cs i) × (slice_index ps i ≡ slice_index (slice_set qs cell p) j)) [
          | true ↦ λ t. (n, omega arith, f, sym at ∙ sym place_at_cell ∙ ap (slice_index (slice_set qs cell p)) (sym (eqb-true _ _ t)))
          | false ↦ λ t.
              let ne = eqb-false _ _ t in
              let e = get_or-set_other ds cell j (control_of h) 0 ne in
              let r = s.copied_from j (omega (arith, e, g)) in
              (r.0, omega arith, r.2, r.3 ∙ sym (get_or-set_other qs cell j p 0 ne))
        ] refl;
        target = λ i l g. elim (nat_eq i n) as (λ t. nat_eq i n ≡ t → (j : ℕ) × (2 ≤ slice_index (slice_set ds cell (control_of h)) j) × (slice_index (slice_set qs cell p) j ≡ slice_index ps i)) [
          | true ↦ λ t. (cell, (let e = control_at_cell in omega (arith, e)), place_at_cell ∙ at ∙ ap (slice_index ps) (sym (eqb-true _ _ t)))
          | false ↦ λ t.
              let ne = eqb-false _ _ t in
              let r = s.target i (omega (arith, ne)) g in
              let apart : r.0 ≢ cell = λ e. let z = ap (slice_index ds) e in let y = r.1 in omega (arith, z, y, free) in
              (r.0, (let e = get_or-set_other ds cell r.0 (control_of h) 0 apart in let y = r.1 in omega (arith, e, y)), get_or-set_other qs cell r.0 p 0 apart ∙ r.2)
        ] refl;
      }

  pub copied_keeps : (m : ℕ → Option ℕ) → Files cs ps m → m p ≡ Some h
      → find (λ i. nat_lt (slice_index ds i) 2) (from_cell (length ds) (home (length ds) h)) ≡ Some cell
      → Keeps ds qs m → Keeps (slice_set ds cell (control_of h)) (slice_set qs cell p) m
  copied_keeps m a e first k =
      put_keeps ds qs h p cell s.sized first free within m m k e
      (λ j g z. let r = s.copied_from j g in let same = a.apart r.0 n r.2 f (r.3 ∙ z ∙ at) in let l = r.1 in omega (arith, same, l))
      (λ q _. refl)

pub copied_files : (cs ps ds qs : List ℕ) (m : ℕ → Option ℕ) → Files cs ps m → Copied cs ps ds qs (length cs) → Keeps ds qs m → Files ds qs m
copied_files cs ps ds qs m a s k = record {
  held = k.held;
  apart = k.apart;
  found = λ p is.
      let at = a.found p is in
      let to = s.target at.0 (full_within cs at.0 at.1) at.1 in
      (to.0, to.1, to.2 ∙ at.2);
}

-- ---- what putting a position in leaves

free_cell : (cs : List ℕ) (s cell : ℕ) → find (λ i. nat_lt (slice_index cs i) 2) (from_cell (length cs) s) ≡ Some cell → slice_index cs cell < 2
free_cell cs s cell e = ltb-true _ _ (find_passes (λ i. nat_lt (slice_index cs i) 2) (from_cell (length cs) s) cell e)

module _ (cs ps : List ℕ) (h p : ℕ) (es rs : List ℕ) (b : Bool) (put : IsPut cs ps h p es rs b) where
  free_put : slice_index cs put.cell < 2
  free_put = free_cell cs (home (length cs) h) put.cell put.first

  pub put_stored : (m : ℕ → Option ℕ) → length ps ≡ length cs → Files cs ps m → m p ≡ None → Files es rs (with_hash m p h)
  put_stored m sized s none =
      subst (λ l. Files l rs (with_hash m p h)) (sym put.controls)
      (subst (λ l. Files (slice_set cs put.cell (control_of h)) l (with_hash m p h)) (sym put.positions)
      (put_files cs ps h p put.cell sized put.first free_put put.within m s none))

  pub put_count : count_by is_full es ≡ count_by is_full cs + 1
  put_count = ap (count_by is_full) put.controls ∙ full-put cs put.cell (control_of h) put.within free_put (omega arith)

  put_sized : length ps ≡ length cs → length rs ≡ length es
  put_sized sized = ap length put.positions ∙ length-set ps put.cell p ∙ sized ∙ sym (length-set cs put.cell (control_of h)) ∙ sym (ap length put.controls)

  pub put_long : length es ≡ length cs
  put_long = ap length put.controls ∙ length-set cs put.cell (control_of h)

  pub put_used : (len used : ℕ) → AreCells cs ps len used → b ≡ false → AreCells es rs (len + 1) used
  put_used len used s t =
      let marked : slice_index cs put.cell ≢ 0 = eqb-false _ _ (sym put.was_empty ∙ t) in
      record {
        sized = put_sized s.sized;
        counted = omega (arith, s.counted, put_count);
        marked = omega (arith, s.marked, ap (count_by is_used) put.controls, used-put_used cs put.cell (control_of h) put.within marked (omega arith));
        room = let r = s.room in omega (arith, r, put_long);
      }

module _ (cs ps ds qs : List ℕ) (n h p : ℕ) (es rs : List ℕ) (b : Bool) (put : IsPut ds qs h p es rs b)
    (s : Copied cs ps ds qs n) (within : n < length cs) (f : 2 ≤ slice_index cs n) (at : p ≡ slice_index ps n) where
  pub put_copies : Copied cs ps es rs (n + 1)
  put_copies =
      subst (λ l. Copied cs ps l rs (n + 1)) (sym put.controls)
      (subst (λ l. Copied cs ps (slice_set ds put.cell (control_of h)) l (n + 1)) (sym put.positions)
      (Copied-put cs ps ds qs n h p put.cell s within f at (free_cell ds (home (length ds) h) put.cell put.first) put.within))

  pub put_kept : (m : ℕ → Option ℕ) → Files cs ps m → m p ≡ Some h → Keeps ds qs m → Keeps es rs m
  put_kept m a e k =
      subst (λ l. Keeps l rs m) (sym put.controls)
      (subst (λ l. Keeps (slice_set ds put.cell (control_of h)) l m) (sym put.positions)
      (copied_keeps cs ps ds qs n h p put.cell s within f at (free_cell ds (home (length ds) h) put.cell put.first) put.within m a e put.first k))

-- ---- how many positions

count_by-shifted_range : (q : ℕ → Bool) (a n : ℕ) → count_by q (range_with_len (a + 1) n) ≡ count_by (λ i. q (suc i)) (range_with_len a n)
count_by-shifted_range q a zero = refl
count_by-shifted_range q a (suc n) =
    let left = sum_by-cons (λ x. cond {A = ℕ} (q x) 1 0) (a + 1) (range_with_len (a + 1 + 1) n) in
    let right = sum_by-cons (λ x. cond {A = ℕ} (q (suc x)) 1 0) a (range_with_len (a + 1) n) in
    let first : cond {A = ℕ} (q (a + 1)) 1 0 ≡ cond {A = ℕ} (q (suc a)) 1 0 = ap (λ x. cond {A = ℕ} (q x) 1 0) (omega arith) in
    let rest = count_by-shifted_range q (a + 1) n in
    omega (arith, left, right, first, rest)

count_range : (q : ℕ → Bool) (cs : List ℕ) → count_by (λ i. q (slice_index cs i)) (range_with_len 0 (length cs)) ≡ count_by q cs
count_range q [] = refl
count_range q (c ∷ cs) =
    let left = sum_by-cons (λ i. cond {A = ℕ} (q (slice_index (c ∷ cs) i)) 1 0) 0 (range_with_len 1 (length cs)) in
    let right = sum_by-cons (λ x. cond {A = ℕ} (q x) 1 0) c cs in
    let rest = count_by-shifted_range (λ i. q (slice_index (c ∷ cs) i)) 0 (length cs) ∙ count_range q cs in
    omega (arith, left, right, rest)

module _ (cs ps : List ℕ) (m : ℕ → Option ℕ) (a : Files cs ps m) where
  full : ℕ → Bool
  full i = is_full (slice_index cs i)

  filter-has : (xs : List ℕ) (i : ℕ) → Contains xs i → is_full (slice_index cs i) ≡ true → Contains (filter (λ i. is_full (slice_index cs i)) xs) i
  filter-has [] i h t = absurd (Contains_none i h)
  filter-has (x ∷ xs) i h t =
      elim (Contains_cases x xs i h) [
        | inl e ↦ subst (λ b. Contains (cond b (x ∷ filter (λ i. is_full (slice_index cs i)) xs) (filter (λ i. is_full (slice_index cs i)) xs)) i) (sym (ap (λ j. is_full (slice_index cs j)) e ∙ t))
            (subst (Contains (x ∷ filter (λ i. is_full (slice_index cs i)) xs)) e (Contains-head x (filter (λ i. is_full (slice_index cs i)) xs)))
        | inr r ↦ elim (is_full (slice_index cs x)) as (λ b. Contains (cond b (x ∷ filter (λ i. is_full (slice_index cs i)) xs) (filter (λ i. is_full (slice_index cs i)) xs)) i) [
          | true ↦ Contains-tail x (filter (λ i. is_full (slice_index cs i)) xs) i (filter-has xs i r t)
          | false ↦ filter-has xs i r t
        ]
      ]

  filter_is : (xs : List ℕ) (i : ℕ) → Contains (filter (λ i. is_full (slice_index cs i)) xs) i → (2 ≤ slice_index cs i) × Contains xs i
  filter_is [] i h = absurd (Contains_none i h)
  filter_is (x ∷ xs) i h =
      elim (is_full (slice_index cs x)) as (λ b. is_full (slice_index cs x) ≡ b → Contains (cond b (x ∷ filter (λ i. is_full (slice_index cs i)) xs) (filter (λ i. is_full (slice_index cs i)) xs)) i → (2 ≤ slice_index cs i) × Contains (x ∷ xs) i) [
        | true ↦ λ t g. elim (Contains_cases x (filter (λ i. is_full (slice_index cs i)) xs) i g) [
          | inl e ↦ (leb-true _ _ (ap (λ j. is_full (slice_index cs j)) (sym e) ∙ t), subst (Contains (x ∷ xs)) e (Contains-head x xs))
          | inr r ↦ let q = filter_is xs i r in (q.0, Contains-tail x xs i q.1)
        ]
        | false ↦ λ _ g. let q = filter_is xs i g in (q.0, Contains-tail x xs i q.1)
      ] refl h

  distinct_full : (xs : List ℕ) → IsDistinct nat_eq xs → IsDistinct nat_eq (map (slice_index ps) (filter (λ i. is_full (slice_index cs i)) xs))
  unfolding IsDistinct
  distinct_full [] d = tt
  distinct_full (x ∷ xs) d =
      elim (is_full (slice_index cs x)) as (λ b. is_full (slice_index cs x) ≡ b → IsDistinct nat_eq (map (slice_index ps) (cond b (x ∷ filter (λ i. is_full (slice_index cs i)) xs) (filter (λ i. is_full (slice_index cs i)) xs)))) [
        | true ↦ λ t. (
          list_distinct (map (slice_index ps) (filter (λ i. is_full (slice_index cs i)) xs)) (slice_index ps x) (λ y h e.
              let r = Contains-from_map (slice_index ps) (filter (λ i. is_full (slice_index cs i)) xs) y h in
              let q = filter_is xs r.0 r.2 in
              apart_from xs x d.0 r.0 q.1 (a.apart x r.0 (leb-true _ _ t) q.0 (e ∙ sym r.1))),
          distinct_full xs d.1,
        )
        | false ↦ λ _. distinct_full xs d.1
      ] refl

  pub files_size : HasSize m (count_by is_full cs)
  files_size =
      let cells = range_with_len 0 (length cs) in
      let fulls = filter (λ i. is_full (slice_index cs i)) cells in (
        map (slice_index ps) fulls,
        distinct_full cells (range_distinct 0 (length cs)),
        length-map fulls (slice_index ps) ∙ length-filter (λ i. is_full (slice_index cs i)) cells ∙ count_range is_full cs,
        λ p. (
          (λ h. let r = Contains-from_map (slice_index ps) fulls p h in
              let has = a.held r.0 (filter_is cells r.0 r.2).0 in
              subst IsSome (sym (ap m (sym r.1) ∙ has.1)) refl),
          (λ is. let r = a.found p is in
              Contains-map (slice_index ps) fulls r.0 p r.2
              (filter-has cells r.0 (range_has 0 (length cs) r.0 (omega arith) (let b = full_within cs r.0 r.1 in omega arith)) (le-leb _ _ r.1))),
        ),
      )
