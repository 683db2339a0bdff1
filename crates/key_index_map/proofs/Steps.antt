-- On a table as its functions see it, when a pair comes or goes.
--     Putting, putting     a pair in the first free cell
--     Taking, taking       no pair in the cell of a key any more
use Rattle.std.proofs.Common.{◌≡◌, ℕ, ◌+◌, ◌-◌, ◌*◌, ◌/◌, ◌<◌, ◌≤◌, Bool, true, false, cond, nat_eq, slice_index, List, length, get_or, Some, None, slice_get, slice_set, refl, sym, ap, subst, ◌∙◌, ⊎_elim, arith}
use Rattle.std.specs.Cmp.{IsEquivalence}
use Rattle.std.specs.Map.{lookup}
use Rattle.std.specs.Option.{IsSome}
use Rattle.std.proofs.lemmas.Bool.{cases_lt}
use Rattle.std.proofs.lemmas.Option.{slice_get_read}
use Rattle.key_index_map.specs.Tags.{IsIn}
use Rattle.key_index_map.specs.Table.{Cells, AreCells, IsAt, IsFirstFree, IsFull, IsTagWithout, Updates, hash_of, tag_of, home, held, pairs, with_value}
use Rattle.key_index_map.proofs.Cells.{Edited, put, taken, turned, looked_at, counted_at}
use Rattle.key_index_map.proofs.Places.{element, set_value_at-set}

module _ {K V : Type 0} {eq : K → K → Bool} (laws : IsEquivalence eq) {input : K → List (List ℕ)} {tags : List ℕ} {items : List (K × V)} {filled : List Bool} {groups len left : ℕ}
    (are : AreCells eq input tags items filled groups len left) (cells : Cells K V) (view : record { tags = tags; items = items; spare = left } ≡ cells) (cell t left' : ℕ)
    (tags' : List ℕ) (items' : List (K × V)) (filled' : List Bool) where
  -- the cells in the table's own terms
  now_cells : (items'' : List (K × V)) (filled'' : List Bool) (len' : ℕ) → AreCells eq input (slice_set tags cell t) items'' filled'' groups len' left'
      → tags' ≡ slice_set tags cell t → items' ≡ items'' → filled' ≡ filled'' → AreCells eq input tags' items' filled' (length tags' / 16) len' left'
  now_cells items'' filled'' len' still tags_are items_are filled_are =
      let many : groups ≡ length tags' / 16 = omega (arith, ap length tags_are, still.sized) in
      subst (λ n. AreCells eq input tags' items' filled' n len' left') many
      (subst (λ l. AreCells eq input l items' filled' groups len' left') (sym tags_are)
      (subst (λ l. AreCells eq input (slice_set tags cell t) l filled' groups len' left') (sym items_are)
      (subst (λ l. AreCells eq input (slice_set tags cell t) items'' l groups len' left') (sym filled_are) still)))

  pub record Putting (k : K) (v : V) : Type 0 where
    pub still : AreCells eq input tags' items' filled' (length tags' / 16) (len + 1) left'
    pub updates : Updates eq (pairs cells) (held tags' items') k (Some v)
    pub longer : length (held tags' items') ≡ length (pairs cells) + 1

  module _ (k : K) (v : V) (start : ℕ) (at_home : start ≡ home groups (hash_of (input k))) (first : IsFirstFree cells start cell) (is : t ≡ tag_of (hash_of (input k)))
      (none : lookup (eq k) (pairs cells) ≡ None) (as_many : length items ≡ length filled) (fewer : left' + cond (nat_eq (slice_index cells.tags cell) 0) 1 0 ≡ left)
      (tags_are : tags' ≡ slice_set tags cell t) (items_are : items' ≡ slice_set items cell (k, v)) (filled_are : filled' ≡ slice_set filled cell true) where
    held_are : held tags' items' ≡ held (slice_set tags cell t) (slice_set items cell (k, v))
    held_are = ap (λ l. held l items') tags_are ∙ ap (held (slice_set tags cell t)) items_are

    pub putting : Putting k v
    putting =
        let now : Cells K V = record { tags = tags; items = items; spare = left } in
        let f : IsFirstFree now (home groups (hash_of (input k))) cell = subst (λ c. IsFirstFree c (home groups (hash_of (input k))) cell) (sym view) (subst (λ n. IsFirstFree cells n cell) at_home first) in
        let p = put laws are cell f.within t left' k v f.free is (omega (arith, is)) (f.reached groups are.sized) (ap (λ c. lookup (eq k) (pairs c)) view ∙ none) (omega (arith, f.within, as_many)) (subst (λ (c : Cells K V). left' + cond (nat_eq (slice_index c.tags cell) 0) 1 0 ≡ left) (sym view) fewer) in
        record {
          still = now_cells (slice_set items cell (k, v)) (slice_set filled cell true) (len + 1) p.cells tags_are items_are filled_are;
          updates = subst (λ c. Updates eq (pairs c) (held tags' items') k (Some v)) view (subst (λ l. Updates eq (held tags items) l k (Some v)) (sym held_are) p.updates);
          longer = ap length held_are ∙ sym p.cells.counted ∙ ap (λ n. n + 1) are.counted ∙ ap (λ c. length (pairs c) + 1) view;
        }

  pub record Taking (k : K) (v : V) : Type 0 where
    pub still : AreCells eq input tags' items' filled' (length tags' / 16) (len - 1) left'
    pub value : Some v ≡ lookup (eq k) (pairs cells)
    pub updates : Updates eq (pairs cells) (held tags' items') k None
    pub shorter : length (held tags' items') + 1 ≡ length (pairs cells)

  module _ (k : K) (stands : IsAt eq cells cell k) where
    in_cell : IsAt eq (record { tags = tags; items = items; spare = left }) cell k
    in_cell = subst (λ c. IsAt eq c cell k) (sym view) stands

    module _ (e : K × V) (read : e ≡ get_or items cell e) where
      at_it : slice_get items cell ≡ Some e
      at_it = slice_get_read items (length items) cell e refl in_cell.within read

      module _ (group : ℕ) (within : IsIn group cell) (without : IsTagWithout cells group t) (some : 1 ≤ len) (as_many : length items ≡ length filled) (more : left' ≡ left + cond (nat_eq t 0) 1 0)
          (tags_are : tags' ≡ slice_set tags cell t) (items_are : items' ≡ items) (filled_are : filled' ≡ slice_set filled cell false) where
        left_are : held tags' items' ≡ held (slice_set tags cell t) items
        left_are = ap (λ l. held l items') tags_are ∙ ap (held (slice_set tags cell t)) items_are

        pub taking : Taking k e.1
        taking =
            let keeps = subst (λ (c : Cells K V). IsTagWithout c group t) (sym view) without in
            let p = taken laws are cell in_cell.within t left' e at_it in_cell.holds k (in_cell.pair e at_it) keeps.0 (λ g from to full zero_tag. keeps.1 zero_tag (subst (IsFull tags) (let same : g ≡ group = omega (arith, from, to, within.0, within.1) in same) full)) (omega (arith, in_cell.within, as_many)) (len - 1) (omega (arith, some)) more in
            record {
              still = now_cells items (slice_set filled cell false) (len - 1) p.cells tags_are items_are filled_are;
              value = sym (looked_at laws are cell e at_it in_cell.holds k (in_cell.pair e at_it)) ∙ ap (λ c. lookup (eq k) (pairs c)) view;
              updates = subst (λ c. Updates eq (pairs c) (held tags' items') k None) view (subst (λ l. Updates eq (held tags items) l k None) (sym left_are) p.updates);
              shorter = ap (λ l. length l + 1) left_are ∙ (let less : length (held (slice_set tags cell t) items) + 1 ≡ length (held tags items) = omega (arith, some, p.cells.counted, are.counted) in less) ∙ ap (λ c. length (pairs c)) view;
            }

module _ {K V : Type 0} {eq : K → K → Bool} (laws : IsEquivalence eq) {input : K → List (List ℕ)} {tags : List ℕ} {items : List (K × V)} {filled : List Bool} {groups len left : ℕ}
    (are : AreCells eq input tags items filled groups len left) (cells : Cells K V) (view : record { tags = tags; items = items; spare = left } ≡ cells) (cell : ℕ) (k : K) (stands : IsAt eq cells cell k) where
  in_its_cell : IsAt eq (record { tags = tags; items = items; spare = left }) cell k
  in_its_cell = subst (λ c. IsAt eq c cell k) (sym view) stands

  -- a key that stands in a cell has a value
  pub some_value : IsSome (lookup (eq k) (pairs cells))
  some_value =
      let it = element items cell in_its_cell.within in
      subst IsSome (sym (looked_at laws are cell it.0 it.1 in_its_cell.holds k (in_its_cell.pair it.0 it.1)) ∙ ap (λ c. lookup (eq k) (pairs c)) view) refl

  -- so there is a pair
  pub some_pair : 1 ≤ len
  some_pair =
      let it = element items cell in_its_cell.within in
      let most = counted_at laws are cell it.0 it.1 in_its_cell.holds in omega (arith, most, are.counted)

module _ {K V : Type 0} {eq : K → K → Bool} (laws : IsEquivalence eq) {input : K → List (List ℕ)} {tags : List ℕ} {items : List (K × V)} {filled : List Bool} {groups len left : ℕ}
    (are : AreCells eq input tags items filled groups len left) (cells : Cells K V) (view : record { tags = tags; items = items; spare = left } ≡ cells) (cell : ℕ) (k : K) (stands : IsAt eq cells cell k)
    (e : K × V) (read : e ≡ get_or items cell e) where
  -- the cell of a key, whose value may be written
  pub record Lending : Type 0 where
    pub value : Some e.1 ≡ lookup (eq k) (pairs cells)
    pub written : (w : V) → Updates eq (pairs cells) (pairs (with_value cells cell w)) k (Some w)
    pub as_long : (w : V) → length (pairs (with_value cells cell w)) ≡ length (pairs cells)
    pub still : (w : V) → AreCells eq input tags (slice_set items cell (e.0, w)) filled groups len left
    pub shown : (w : V) → record { tags = tags; items = slice_set items cell (e.0, w); spare = left } ≡ with_value cells cell w

  it_stands : IsAt eq (record { tags = tags; items = items; spare = left }) cell k
  it_stands = subst (λ c. IsAt eq c cell k) (sym view) stands

  it_is_at : slice_get items cell ≡ Some e
  it_is_at = slice_get_read items (length items) cell e refl it_stands.within read

  pub lending : Lending
  lending =
      let same = it_stands.pair e it_is_at in
      let on : (w : V) → Edited eq input (held tags items) tags (slice_set items cell (e.0, w)) filled groups len left k (Some w) = turned laws are cell e it_is_at it_stands.holds k same in
      let is_set : (w : V) → record { tags = tags; items = slice_set items cell (e.0, w); spare = left } ≡ with_value cells cell w =
      λ w. ap (λ (l : List (K × V)). record { tags = tags; items = l; spare = left }) (set_value_at-set items cell e w it_is_at) ∙ ap (λ (x : Cells K V). with_value x cell w) view in
      record {
        value = sym (looked_at laws are cell e it_is_at it_stands.holds k same) ∙ ap (λ c. lookup (eq k) (pairs c)) view;
        written = λ w. subst (λ c. Updates eq (pairs cells) (pairs c) k (Some w)) (is_set w) (subst (λ c. Updates eq (pairs c) (held tags (slice_set items cell (e.0, w))) k (Some w)) view (on w).updates);
        as_long = λ w. sym (ap (λ c. length (pairs c)) (is_set w)) ∙ sym (on w).cells.counted ∙ are.counted ∙ ap (λ c. length (pairs c)) view;
        still = λ w. (on w).cells;
        shown = is_set;
      }

module _ {K V : Type 0} {eq : K → K → Bool} {input : K → List (List ℕ)} {tags : List ℕ} {items : List (K × V)} {filled : List Bool} {groups len left : ℕ}
    (are : AreCells eq input tags items filled groups len left) (cells : Cells K V) (view : record { tags = tags; items = items; spare = left } ≡ cells) (cell : ℕ) (k : K) where
  -- the pair that was read has the key
  pub stands_at : (e : K × V) → e ≡ get_or items cell e → eq k e.0 ≡ true → cell < 16 * groups → 3 ≤ slice_index tags cell → IsAt eq cells cell k
  stands_at e read same inside had =
      let below : cell < length items = ⊎_elim (λ is. is) (λ past. let two = are.beyond cell past inside in omega (arith, two, had)) (cases_lt cell (length items)) in
      let at = slice_get_read items (length items) cell e refl below read in
      subst (λ c. IsAt eq c cell k) view (record {
        within = below;
        holds = had;
        pair = λ f there. let is : e ≡ f = cc in subst (λ x. eq k x.0 ≡ true) is same;
      })
