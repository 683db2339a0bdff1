-- On a table whose cells are gone through one by one, and whose pairs go into another table.
--     held_past                      no pairs from behind the last cell on
--     none_left_from, first_from     where the cells between have no pair: none is left, or the first that is
--     Emptied                        the cells are gone through up to one: no pair stands before it any more
--     passed_one, emptied_one        after one more cell, without a pair, and with one
--     one_gone, all_emptied          after one more of either kind, and after the last
--     Through                        the same, and the pairs before it stand in another table
--     skipped, went                  after one more cell, without a pair, and with one
use Rattle.std.proofs.Common.{◌≡◌, ◌≢◌, ℕ, zero, suc, ◌+◌, ◌-◌, ◌<◌, ◌≤◌, Bool, false, cond, List, [], ◌∷◌, length, replicate, drop, get_or, slice_get, slice_set, slice_index, slice_index_or, Some, None, refl, sym, ap, subst, ◌∙◌, ⊎_elim, arith}
use Rattle.std.specs.Cmp.{IsEquivalence}
use Rattle.std.specs.Map.{lookup}
use Rattle.std.proofs.lemmas.Bool.{cases_eq, cases_lt, lt-leb}
use Rattle.std.proofs.lemmas.List.{get_or-set_same, get_or-set_other, get_or-replicate, length-replicate, ext_get_or, drop_all, at_drop_more}
use Rattle.std.proofs.lemmas.Option.{get_or_from_slice_get, slice_get_read, slice_get_within}
use Rattle.key_index_map.specs.Table.{AreTaken, Updates, held, is_held}
use Rattle.key_index_map.proofs.Held.{held_first, without_first}
use Rattle.key_index_map.proofs.Places.{element}
use Rattle.key_index_map.proofs.Transfer.{Moving, new_key, one_less, all_moved}

module _ {X : Type 0} (ts : List ℕ) (xs : List X) where
  -- the pairs from a cell on
  abbrev from_on : ℕ → List X
  from_on i = held (drop i ts) (drop i xs)

  no_items : (us : List ℕ) → held {X = X} us [] ≡ []
  no_items [] = refl
  no_items (u ∷ us) = refl

  pub held_past : (i : ℕ) → length xs ≤ i → held (drop i ts) (drop i xs) ≡ []
  held_past i past = ap (held (drop i ts)) (drop_all i xs past) ∙ no_items (drop i ts)

  module _ (long : length xs ≤ length ts) where
    at_cell : (i : ℕ) (x : X) → slice_get xs i ≡ Some x → from_on i ≡ cond (is_held (slice_index ts i)) (x ∷ from_on (i + 1)) (from_on (i + 1))
    at_cell i x at =
        let within = slice_get_within xs i x at in
        at_drop_more (λ l. held l (drop i xs)) ts i 0 (omega (arith, within, long))
        ∙ at_drop_more (λ l. held (slice_index ts i ∷ drop (i + 1) ts) l) xs i x within
        ∙ ap (λ y. cond (is_held (slice_index ts i)) (y ∷ from_on (i + 1)) (from_on (i + 1))) (get_or_from_slice_get xs i x x at)

    pub pair_at : (i : ℕ) (x : X) → slice_get xs i ≡ Some x → 3 ≤ slice_index ts i → held (drop i ts) (drop i xs) ≡ x ∷ held (drop (i + 1) ts) (drop (i + 1) xs)
    pair_at i x at had = at_cell i x at ∙ held_first (slice_index ts i) x (from_on (i + 1)) had

    pub none_at : (i : ℕ) → i < length xs → slice_index ts i < 3 → held (drop i ts) (drop i xs) ≡ held (drop (i + 1) ts) (drop (i + 1) xs)
    none_at i below low = let it = element xs i below in at_cell i it.0 it.1 ∙ without_first (slice_index ts i) it.0 (from_on (i + 1)) low

    skips : (d a : ℕ) → a + d ≤ length xs → ((i : ℕ) → a ≤ i → i < a + d → slice_index ts i < 3) → from_on a ≡ from_on (a + d)
    skips zero a within low = ap from_on (let e : a ≡ a + 0 = omega arith in e)
    skips (suc d) a within low =
        none_at a (omega (arith, within)) (low a (omega arith) (omega arith)) ∙ skips d (a + 1) (omega (arith, within)) (λ i from to. low i (omega (arith, from)) (omega (arith, to)))
        ∙ ap from_on (let e : a + 1 + d ≡ a + suc d = omega arith in e)

module _ {X : Type 0} (ts : List ℕ) (xs : List X) (from cell : ℕ) (long : length xs ≤ length ts) (after : from ≤ cell) (low : (i : ℕ) → from ≤ i → i < cell → slice_index ts i < 3) where
  passed : cell ≤ length xs → held (drop from ts) (drop from xs) ≡ held (drop cell ts) (drop cell xs)
  passed within =
      let sum : from + (cell - from) ≡ cell = omega (arith, after) in
      skips ts xs long (cell - from) from (omega (arith, sum, within)) (λ i start end. low i start (omega (arith, end, sum))) ∙ ap (λ n. held (drop n ts) (drop n xs)) sum

  pub none_left_from : (from ≤ length xs → cell ≤ length xs) → length xs ≤ cell → held (drop from ts) (drop from xs) ≡ []
  none_left_from within end =
      ⊎_elim (λ past. held_past ts xs from (omega (arith, past))) (λ start. passed (within start) ∙ held_past ts xs cell end) (cases_lt (length xs) from)

  pub first_from : (x : X) → slice_get xs cell ≡ Some x → 3 ≤ slice_index ts cell → held (drop from ts) (drop from xs) ≡ x ∷ held (drop (cell + 1) ts) (drop (cell + 1) xs)
  first_from x at had = let within = slice_get_within xs cell x at in passed (omega (arith, within)) ∙ pair_at ts xs long cell x at had

-- the cells are gone through up to one: no pair stands before it any more
pub record Emptied {X : Type 0} (tags : List ℕ) (items : List X) (filled : List Bool) (cell : ℕ) : Type 0 where
  pub before : (i : ℕ) → i < cell → slice_index_or filled i false ≡ false
  pub behind : AreTaken tags items filled cell

module _ {X : Type 0} (tags : List ℕ) (items : List X) (filled : List Bool) (cell : ℕ) (so_far : Emptied tags items filled cell) where
  one_further : (filled' : List Bool) → slice_index_or filled' cell false ≡ false → ((i : ℕ) → i ≢ cell → slice_index_or filled' i false ≡ slice_index_or filled i false) → Emptied tags items filled' (cell + 1)
  one_further filled' empty others = record {
    before = λ i below.
        ⊎_elim (λ at_it. ap (λ n. slice_index_or filled' n false) at_it ∙ empty) (λ other. others i other ∙ so_far.before i (omega (arith, below, other))) (cases_eq i cell);
    behind = record {
      long = so_far.behind.long;
      taken = λ i past within. others i (λ at_it. omega (arith, past, at_it)) ∙ so_far.behind.taken i (omega (arith, past)) within;
    };
  }

  pub passed_one : cell < length items → slice_index tags cell < 3 → Emptied tags items filled (cell + 1)
  passed_one below low = one_further filled (so_far.behind.taken cell (omega arith) below ∙ lt-leb 3 (slice_index tags cell) low) (λ i other. refl)

  pub emptied_one : cell < length filled → (filled' : List Bool) → filled' ≡ slice_set filled cell false → Emptied tags items filled' (cell + 1)
  emptied_one place filled' are =
      one_further filled' (ap (λ l. slice_index_or l cell false) are ∙ get_or-set_same filled cell false false place)
      (λ i other. ap (λ l. slice_index_or l i false) are ∙ get_or-set_other filled cell i false false other)

  pub one_gone : (items' : List X) (filled' : List Bool) → items' ≡ items → cell < length items → cell < length filled
      → (3 ≤ slice_index tags cell → filled' ≡ slice_set filled cell false) → (slice_index tags cell < 3 → filled' ≡ filled) → Emptied tags items' filled' (cell + 1)
  one_gone items' filled' same below place with_pair without =
      subst (λ l. Emptied tags l filled' (cell + 1)) (sym same)
      (⊎_elim
      (λ low. subst (λ l. Emptied tags items l (cell + 1)) (sym (without low)) (passed_one below low))
      (λ had. emptied_one place filled' (with_pair had))
      (cases_lt (slice_index tags cell) 3))

  pub all_emptied : (n : ℕ) → n ≡ length filled → n ≤ cell → filled ≡ replicate n false
  all_emptied n many past =
      ext_get_or false filled (replicate n false) (sym many ∙ sym (length-replicate n false))
      (λ i below. so_far.before i (omega (arith, below, many, past)) ∙ sym (get_or-replicate n i false false (omega (arith, below, many))))

-- the cells are gone through up to one: what stands in the row, and in the other table, which had some spare room at first
pub record Through {K V : Type 0} {eq : K → K → Bool} (laws : IsEquivalence eq) (tags : List ℕ) (items now : List (K × V)) (filled : List Bool) (cell : ℕ) (moved : List (K × V)) (spare' spare : ℕ) : Type 0 where
  pub same : now ≡ items
  pub emptied : Emptied tags items filled cell
  pub moving : Moving laws (held tags items) (held (drop cell tags) (drop cell items)) moved
  pub fits : length (held tags items) ≤ spare'
  pub room : spare' ≤ spare + length moved

module _ {K V : Type 0} {eq : K → K → Bool} (laws : IsEquivalence eq) (tags : List ℕ) (items now : List (K × V)) (filled : List Bool) (cell : ℕ) (moved : List (K × V)) (spare' spare : ℕ)
    (so_far : Through laws tags items now filled cell moved spare' spare) where
  pub skipped : cell < length items → slice_index tags cell < 3 → Through laws tags items now filled (cell + 1) moved spare' spare
  skipped below low = record {
    same = so_far.same;
    emptied = passed_one tags items filled cell so_far.emptied below low;
    moving = subst (λ l. Moving laws (held tags items) l moved) (none_at tags items so_far.emptied.behind.long cell below low) so_far.moving;
    fits = so_far.fits;
    room = so_far.room;
  }

  module _ (e : K × V) (read : e ≡ get_or now cell e) (below : cell < length items) (had : 3 ≤ slice_index tags cell) where
    at : slice_get items cell ≡ Some e
    at = ap (λ l. slice_get l cell) (sym so_far.same) ∙ slice_get_read now (length now) cell e refl (subst (λ l. cell < length l) (sym so_far.same) below) read

    with_first : Moving laws (held tags items) (e ∷ held (drop (cell + 1) tags) (drop (cell + 1) items)) moved
    with_first = subst (λ l. Moving laws (held tags items) l moved) (pair_at tags items so_far.emptied.behind.long cell e at had) so_far.moving

    pub key_is_new : lookup (eq e.0) moved ≡ None
    key_is_new = new_key laws (held tags items) (held (drop (cell + 1) tags) (drop (cell + 1) items)) moved e.0 e.1 with_first

    pub has_room : 0 < spare
    has_room = omega (arith, with_first.len, so_far.fits, so_far.room)

    pub went : (more : List (K × V)) (now' : List (K × V)) (filled' : List Bool) (spare'' : ℕ) → Updates eq moved more e.0 (Some e.1) → length more ≡ length moved + 1 → now' ≡ now → cell < length filled → filled' ≡ slice_set filled cell false → spare ≤ spare'' + 1
        → Through laws tags items now' filled' (cell + 1) more spare' spare''
    went more now' filled' spare'' updates longer same' place filled_are less = record {
      same = same' ∙ so_far.same;
      emptied = emptied_one tags items filled cell so_far.emptied place filled' filled_are;
      moving = one_less laws (held tags items) (held (drop (cell + 1) tags) (drop (cell + 1) items)) moved e.0 e.1 with_first more updates longer;
      fits = so_far.fits;
      room = omega (arith, so_far.room, longer, less);
    }

  pub none_are_left : length items ≤ cell → (q : K) → lookup (eq q) moved ≡ lookup (eq q) (held tags items)
  none_are_left past = all_moved laws (held tags items) (held (drop cell tags) (drop cell items)) moved so_far.moving (held_past tags items cell past)

  pub all_counted : length items ≤ cell → length moved ≡ length (held tags items)
  all_counted past = let none = ap length (held_past tags items cell past) in omega (arith, none, so_far.moving.len)
