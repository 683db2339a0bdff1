-- On free cells.
--     empty_home        an empty one of the first group
--     first, second     the one that a search through the groups ahead found, and through those behind
--     never             it finds one where there are fewer pairs than cells
use Rattle.std.proofs.Common.{◌≡◌, ℕ, ◌+◌, ◌*◌, ◌<◌, ◌≤◌, Bool, List, length, slice_index, sym, ap, subst, ◌∙◌, ⊎_elim, arith}
use Rattle.std.proofs.lemmas.Bool.{cases_lt}
use Rattle.key_index_map.specs.Table.{Cells, AreCells, IsFree, IsFirstFree, NoneFree, held, pairs}
use Rattle.key_index_map.proofs.Held.{all_held}

module _ {K V : Type 0} (cells : Cells K V) (home : ℕ) where
  pub first : (cell : ℕ) → IsFree cells home cell → IsFirstFree cells home cell
  first cell f = record {
    within = f.within;
    free = f.free;
    reached = λ n sized group from to.
        let same : group ≡ f.group = omega (arith, from, to, f.in_group.0, f.in_group.1) in
        record {
          ahead = λ _ g start end. f.full g start (omega (arith, end, same));
          round = λ before. absurd (omega (arith, before, same, f.after));
          past = λ before. absurd (omega (arith, before, same, f.after));
        };
  }

  pub second : (groups : ℕ) → length cells.tags ≡ 16 * groups → NoneFree cells (16 * home) (16 * groups) → (cell : ℕ) → IsFree cells 0 cell → cell < 16 * home → IsFirstFree cells home cell
  second groups is none cell f below = record {
    within = f.within;
    free = f.free;
    reached = λ n sized group from to.
        let same : group ≡ f.group = omega (arith, from, to, f.in_group.0, f.in_group.1) in
        record {
          ahead = λ after. absurd (omega (arith, after, from, below));
          round = λ _ g start end place low high zero_tag. let two = none place (omega (arith, start, low)) (omega (arith, end, high, is, sized)) in omega (arith, two, zero_tag);
          past = λ _ g end. f.full g (omega arith) (omega (arith, end, same));
        };
  }

module _ {K V : Type 0} {eq : K → K → Bool} {input : K → List (List ℕ)} {tags : List ℕ} {items : List (K × V)} {filled : List Bool} {groups len left : ℕ}
    (are : AreCells eq input tags items filled groups len left) (spare : ℕ) (cells : Cells K V) (view : record { tags = tags; items = items; spare = spare } ≡ cells) where
  pub tags_long : length cells.tags ≡ 16 * groups
  tags_long = ap (λ (c : Cells K V). length c.tags) (sym view) ∙ are.sized

  -- an empty cell of the first group
  pub empty_home : (home place : ℕ) → home < groups → 16 * home ≤ place → place < 16 * home + 16 → slice_index cells.tags place ≡ 0 → IsFirstFree cells home place
  empty_home home place within low high empty =
      let shown : slice_index tags place ≡ 0 = subst (λ (c : Cells K V). slice_index c.tags place ≡ 0) (sym view) empty in
      let inside : place < length items =
      ⊎_elim (λ below. below) (λ past. let two = are.beyond place past (omega (arith, high, within)) in omega (arith, two, shown)) (cases_lt place (length items)) in
      first cells home place (record {
        within = subst (λ (c : Cells K V). place < length c.items) view inside;
        free = omega (arith, empty);
        group = home;
        in_group = (low, high);
        after = omega arith;
        full = λ g from to. absurd (omega (arith, from, to));
      })

  each : (home : ℕ) → NoneFree cells (16 * home) (16 * groups) → NoneFree cells 0 (16 * home) → (i : ℕ) → i < 16 * groups → 2 ≤ slice_index cells.tags i
  each home ahead behind i within = ⊎_elim (λ before. behind i (omega arith) before) (λ past. ahead i past within) (cases_lt i (16 * home))

  pub never : (home : ℕ) → NoneFree cells (16 * home) (16 * groups) → NoneFree cells 0 (16 * home) → length (pairs cells) < length cells.items → ⊥
  never home ahead behind fewer =
      let all : (i : ℕ) → i < length items → 3 ≤ slice_index tags i =
      λ i within.
      let two : 2 ≤ slice_index tags i = subst (λ (c : Cells K V). 2 ≤ slice_index c.tags i) (sym view) (each home ahead behind i (omega (arith, within, are.within))) in
      let other = are.cells i within in
      omega (arith, two, other) in
      let same = ap length (all_held tags items (omega (arith, are.sized, are.within)) all) in
      let less : length (held tags items) < length items = subst (λ (c : Cells K V). length (pairs c) < length c.items) (sym view) fewer in
      omega (arith, same, less)
