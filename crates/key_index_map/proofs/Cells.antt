-- On the cells of a table: what stands in one, and after a pair has come, gone or another value.
--     looked_at    a look-up finds the pair of a cell
--     Edited       the cells after a change at a key
--     turned       another value in a cell
--     put          a pair in a free cell
--     taken        no pair in a cell any more
use Rattle.std.proofs.Common.{◌≡◌, ◌≢◌, ℕ, ◌+◌, ◌*◌, ◌<◌, ◌≤◌, Bool, true, false, cond, nat_eq, List, ◌∷◌, length, get_or, Option, Some, None, slice_get, slice_set, slice_index, slice_index_or, sym, ap, subst, ◌∙◌, ⊎_elim, arith}
use Rattle.std.specs.Cmp.{IsEquivalence}
use Rattle.std.specs.List.Sorted.{IsPermutation}
use Rattle.std.specs.Map.{lookup}
use Rattle.std.proofs.lemmas.Bool.{cases_eq, le-leb, lt-leb}
use Rattle.std.proofs.lemmas.List.{get_or-set_same, get_or-set_other, length-set}
use Rattle.std.proofs.lemmas.List.Sorted.{IsPermutation-sym, length_permutation}
use Rattle.std.proofs.lemmas.Option.{slice_get_within, slice_get-get_or}
use Rattle.key_index_map.specs.Table.{AreCells, IsFull, Reaches, Updates, hash_of, tag_of, home, held, is_held}
use Rattle.key_index_map.proofs.Between.{Changed, come, go, turn, found}
use Rattle.key_index_map.proofs.Held.{Cut, cut, standing, without, turned_to, was_free}
use Rattle.key_index_map.proofs.Marks.{removed_set, free_mark, held_mark}
use Rattle.key_index_map.proofs.Places.{at_set, key_stays}

pub record Edited {K V : Type 0} (eq : K → K → Bool) (input : K → List (List ℕ)) (old : List (K × V)) (tags : List ℕ) (items : List (K × V)) (filled : List Bool)
    (groups len left : ℕ) (k : K) (w : Option V) : Type 0 where
  pub cells : AreCells eq input tags items filled groups len left
  pub updates : Updates eq old (held tags items) k w

module _ {K V : Type 0} {eq : K → K → Bool} (laws : IsEquivalence eq) {input : K → List (List ℕ)} {tags : List ℕ} {items : List (K × V)} {filled : List Bool} {groups len left : ℕ}
    (are : AreCells eq input tags items filled groups len left) (cell : ℕ) where
  at_cell : cell < length items → Cut tags items cell
  at_cell below = cut tags items cell below (omega (arith, are.sized, are.within))

  module _ (e : K × V) (at : slice_get items cell ≡ Some e) where
    here : Cut tags items cell
    here = at_cell (slice_get_within items cell e at)

    module _ (is : 3 ≤ slice_index tags cell) where
      stands : IsPermutation (held tags items) (e ∷ here.others)
      stands = standing tags items cell here e at is

      pub counted_at : 1 ≤ length (held tags items)
      counted_at = omega (arith, length_permutation (held tags items) (e ∷ here.others) stands)

      module _ (k : K) (same : eq k e.0 ≡ true) where
        pub looked_at : lookup (eq k) (held tags items) ≡ Some e.1
        looked_at = found laws k e same (held tags items) here.others are.distinct stands

        pub turned : (w : V) → Edited eq input (held tags items) tags (slice_set items cell (e.0, w)) filled groups len left k (Some w)
        turned w =
            let new = slice_set items cell (e.0, w) in
            let long = length-set items cell (e.0, w) in
            let now = turned_to tags items cell here (e.0, w) is in
            let change = turn laws k e same (held tags items) here.others are.distinct stands w (held tags new) now in
            record {
              cells = record {
                some = are.some;
                sized = are.sized;
                within = omega (arith, long, are.within);
                any = omega (arith, long, are.any);
                beyond = λ i past. are.beyond i (omega (arith, long, past));
                cells = λ i within. are.cells i (omega (arith, long, within));
                taken = λ i within. are.taken i (omega (arith, long, within));
                tagged = λ i f there held_at. let had = key_stays items cell e w i f at there in
                    subst (λ x. slice_index tags i ≡ tag_of (hash_of (input x))) had.key (are.tagged i had.pair had.at held_at);
                reached = λ i f there held_at group from to. let had = key_stays items cell e w i f at there in
                    subst (λ x. Reaches tags groups (home groups (hash_of (input x))) group) had.key (are.reached i had.pair had.at held_at group from to);
                distinct = change.distinct;
                counted = omega (arith, are.counted, length_permutation (held tags items) (e ∷ here.others) stands, length_permutation (held tags new) ((e.0, w) ∷ here.others) now);
                room = omega (arith, long, are.room);
              };
              updates = change.updates;
            }

  -- another tag at the cell leaves the groups full that were so
  still_full : (t : ℕ) → ((g : ℕ) → 16 * g ≤ cell → cell < 16 * g + 16 → IsFull tags g → t ≢ 0) → cell < length tags → (g : ℕ) → IsFull tags g → IsFull (slice_set tags cell t) g
  still_full t keeps within g full place from to is =
      ⊎_elim
      (λ at_it. keeps g (omega (arith, at_it, from)) (omega (arith, at_it, to)) full (sym (get_or-set_same tags cell t 0 within) ∙ ap (λ i. slice_index (slice_set tags cell t) i) (sym at_it) ∙ is))
      (λ other. full place from to (sym (get_or-set_other tags cell place t 0 other) ∙ is))
      (cases_eq place cell)

  still_reached : (t : ℕ) → ((g : ℕ) → 16 * g ≤ cell → cell < 16 * g + 16 → IsFull tags g → t ≢ 0) → cell < length tags → (start group : ℕ) → Reaches tags groups start group → Reaches (slice_set tags cell t) groups start group
  still_reached t keeps within start group r = record {
    ahead = λ le g from to. still_full t keeps within g (r.ahead le g from to);
    round = λ lt g from to. still_full t keeps within g (r.round lt g from to);
    past = λ lt g to. still_full t keeps within g (r.past lt g to);
  }

  module _ (below : cell < length items) (t : ℕ) where
    abbrev tags' : List ℕ
    tags' = slice_set tags cell t

    in_tags : cell < length tags
    in_tags = omega (arith, below, are.sized, are.within)

    -- the tags that do not change, and the one that does
    same_tag : (i : ℕ) → i ≢ cell → slice_index (slice_set tags cell t) i ≡ slice_index tags i
    same_tag i other = get_or-set_other tags cell i t 0 other

    new_tag : (i : ℕ) → i ≡ cell → slice_index (slice_set tags cell t) i ≡ t
    new_tag i at_it = ap (λ n. slice_index (slice_set tags cell t) n) at_it ∙ get_or-set_same tags cell t 0 in_tags

    had_tag : (i : ℕ) → i ≢ cell → 3 ≤ slice_index (slice_set tags cell t) i → 3 ≤ slice_index tags i
    had_tag i other held_at = subst (λ n. 3 ≤ n) (same_tag i other) held_at

    -- the places that stay as they are, and the one that does not
    still_filled : (b : Bool) (i : ℕ) → i ≢ cell → i < length items → slice_index_or (slice_set filled cell b) i false ≡ is_held (slice_index (slice_set tags cell t) i)
    still_filled b i other within = get_or-set_other filled cell i b false other ∙ are.taken i within ∙ ap is_held (sym (same_tag i other))

    now_filled : (b : Bool) → cell < length filled → (i : ℕ) → i ≡ cell → slice_index_or (slice_set filled cell b) i false ≡ b
    now_filled b place i at_it = ap (λ n. slice_index_or (slice_set filled cell b) n false) at_it ∙ get_or-set_same filled cell b false place

    module _ (left' : ℕ) where
      -- a pair comes into a free cell
      module _ (k : K) (v : V) (free : slice_index tags cell < 2) (is : t ≡ tag_of (hash_of (input k))) (least : 3 ≤ t)
          (reach : (group : ℕ) → 16 * group ≤ cell → cell < 16 * group + 16 → Reaches tags groups (home groups (hash_of (input k))) group)
          (none : lookup (eq k) (held tags items) ≡ None) (place : cell < length filled) (fewer : left' + cond (nat_eq (slice_index tags cell) 0) 1 0 ≡ left) where
        abbrev items' : List (K × V)
        items' = slice_set items cell (k, v)

        keeps : (g : ℕ) → 16 * g ≤ cell → cell < 16 * g + 16 → IsFull tags g → t ≢ 0
        keeps g from to full zero_tag = omega (arith, least, zero_tag)

        one_more : IsPermutation ((k, v) ∷ held tags items) (held (slice_set tags cell t) (slice_set items cell (k, v)))
        one_more =
            let c = at_cell below in
            let was = was_free tags items cell c (get_or items cell (k, v)) (slice_get-get_or items cell (k, v) below) (omega (arith, free)) in
            IsPermutation-sym _ _ (subst (λ l. IsPermutation (held tags' items') ((k, v) ∷ l)) (sym was) (c.with_one t (k, v) least))

        change : Changed laws (held tags items) (held (slice_set tags cell t) (slice_set items cell (k, v))) k (Some v)
        change = come laws k v (held tags items) (held tags' items') one_more are.distinct none

        pub put : Edited eq input (held tags items) (slice_set tags cell t) (slice_set items cell (k, v)) (slice_set filled cell true) groups (len + 1) left' k (Some v)
        put =
            let long = length-set items cell (k, v) in
            record {
              cells = record {
                some = are.some;
                sized = length-set tags cell t ∙ are.sized;
                within = omega (arith, long, are.within);
                any = omega (arith, long, are.any);
                beyond = λ i past to. same_tag i (λ at_it. omega (arith, at_it, below, past, long)) ∙ are.beyond i (omega (arith, long, past)) to;
                cells = λ i within two.
                    ⊎_elim
                    (λ at_it. omega (arith, least, sym (new_tag i at_it) ∙ two))
                    (λ other. are.cells i (omega (arith, long, within)) (sym (same_tag i other) ∙ two))
                    (cases_eq i cell);
                taken = λ i within.
                    ⊎_elim
                    (λ at_it. now_filled true place i at_it ∙ sym (ap is_held (new_tag i at_it) ∙ le-leb 3 t least))
                    (λ other. still_filled true i other (omega (arith, long, within)))
                    (cases_eq i cell);
                tagged = λ i f there held_at.
                    at_set items cell i (k, v) f there
                    (λ at_it is_new. new_tag i at_it ∙ is ∙ ap (λ d. tag_of (hash_of (input d.0))) is_new)
                    (λ other at. same_tag i other ∙ are.tagged i f at (had_tag i other held_at));
                reached = λ i f there held_at group from to.
                    still_reached t keeps in_tags _ group
                    (at_set items cell i (k, v) f there
                    (λ at_it is_new. subst (λ (d : K × V). Reaches tags groups (home groups (hash_of (input d.0))) group) is_new (reach group (omega (arith, at_it, from)) (omega (arith, at_it, to))))
                    (λ other at. are.reached i f at (had_tag i other held_at) group from to));
                distinct = change.distinct;
                counted = omega (arith, are.counted, length_permutation ((k, v) ∷ held tags items) (held tags' items') one_more);
                room =
                    let marks = removed_set tags cell t in_tags in
                    let was = free_mark (slice_index tags cell) free in
                    let is_none = held_mark t least in
                    omega (arith, long, are.room, fewer, marks, was, is_none);
              };
              updates = change.updates;
            }

      -- a pair goes
      module _ (e : K × V) (at : slice_get items cell ≡ Some e) (had : 3 ≤ slice_index tags cell) (k : K) (same : eq k e.0 ≡ true) (low : t < 2)
          (keeps : (g : ℕ) → 16 * g ≤ cell → cell < 16 * g + 16 → IsFull tags g → t ≢ 0) (place : cell < length filled) (len' : ℕ) (one_less : len ≡ len' + 1) (more : left' ≡ left + cond (nat_eq t 0) 1 0) where
        one_fewer : IsPermutation (held tags items) (e ∷ held (slice_set tags cell t) items)
        one_fewer = subst (λ l. IsPermutation (held tags items) (e ∷ l)) (sym (without tags items cell (here e at) e at t (omega (arith, low)))) (stands e at had)

        gone : Changed laws (held tags items) (held (slice_set tags cell t) items) k None
        gone = go laws k e same (held tags items) (held tags' items) are.distinct one_fewer

        not_it : (i : ℕ) → 3 ≤ slice_index (slice_set tags cell t) i → i ≢ cell
        not_it i held_at at_it = let is_low = new_tag i at_it in omega (arith, held_at, is_low, low)

        pub taken : Edited eq input (held tags items) (slice_set tags cell t) items (slice_set filled cell false) groups len' left' k None
        taken = record {
          cells = record {
            some = are.some;
            sized = length-set tags cell t ∙ are.sized;
            within = are.within;
            any = are.any;
            beyond = λ i past to. same_tag i (λ at_it. omega (arith, at_it, below, past)) ∙ are.beyond i past to;
            cells = λ i within two.
                ⊎_elim (λ at_it. omega (arith, low, sym (new_tag i at_it) ∙ two)) (λ other. are.cells i within (sym (same_tag i other) ∙ two)) (cases_eq i cell);
            taken = λ i within.
                ⊎_elim
                (λ at_it. now_filled false place i at_it ∙ sym (ap is_held (new_tag i at_it) ∙ lt-leb 3 t (omega (arith, low))))
                (λ other. still_filled false i other within)
                (cases_eq i cell);
            tagged = λ i f there held_at. let other = not_it i held_at in same_tag i other ∙ are.tagged i f there (had_tag i other held_at);
            reached = λ i f there held_at group from to. still_reached t keeps in_tags _ group (are.reached i f there (had_tag i (not_it i held_at) held_at) group from to);
            distinct = gone.distinct;
            counted = omega (arith, are.counted, one_less, length_permutation (held tags items) (e ∷ held tags' items) one_fewer);
            room =
                let marks = removed_set tags cell t in_tags in
                let was = held_mark (slice_index tags cell) had in
                let is_free = free_mark t low in
                omega (arith, are.room, more, one_less, marks, was, is_free);
          };
          updates = gone.updates;
        }
