-- On the search of a key's place in a list that stands in the order of its keys, some of whose values are hidden.
--     hidden_keeps, hidden_join, hidden_one     of the places of a list: what was hidden stays;  those to a place and from it on;  a single one
--     place-Equal       the place of a value that has the key
--     Searched          what a search knows: before the first step (searched_none), after each one, and at the end (searched_all, searched_hidden)
--     count_with        how many keys are at most another one, where one is the same
--     value_there       the value at a place, with what holds of it
use Rattle.std.proofs.Common.{◌≡◌, ◌==◌, ◌⊎◌, ℕ, zero, suc, ◌+◌, ◌≤◌, ◌<◌, Bool, true, false, cond, not, List, [], ◌∷◌, length, Option, Some, None, is_some, slice_get, inl, inr, refl, sym, ap, subst, ◌∙◌, arith}
use Rattle.std.proofs.lemmas.Bool.{cases_lt, eqb-false, eqb-true, false≢true, not-false, not-true}
use Rattle.std.proofs.lemmas.Map.Lookups.{exact_bytes}
use Rattle.std.proofs.lemmas.Map.Text.{is_eq-slice_cmp}
use Rattle.std.proofs.lemmas.Option.{get_or_from_slice_get, slice_get_within}
use Rattle.std.specs.Cmp.Lexicographic.{nat_list_cmp_total}
use Rattle.std.specs.List.{filter, find}
use Rattle.std.specs.Option.{IsSomeAnd}
use Rattle.std.specs.Ordering.{is_eq, is_le, is_lt, ordering_reverse}
use Rattle.std.specs.Str.{bytes_eq}
use Rattle.std.specs.declared.cmp.Ordering.{Ordering}
use Rattle.std.specs.declared.cmp.Ordering.TheVariants.{Less, Equal, Greater}
use Rattle.key_index_flat.specs.FullKeys.{below, byte_cmp, first_with}
use Rattle.key_index_flat.specs.Places.{AreHidden, IsHiddenIn, IsInOrder, IsPlace, at_most}
use Rattle.key_index_flat.proofs.entries.EntryLemmas.{some_injective, some_not_none}

-- ---- hidden values of a list

module _ {V : Type 0} where
  pub hidden_keeps : (before after : V → Type 0) (l : List V) (from to : ℕ) → ((v : V) → before v → after v) → AreHidden before l from to → AreHidden after l from to
  hidden_keeps before after l from to keeps were i v above below at = keeps v (were i v above below at)

  pub hidden_join : (hides : V → Type 0) (l : List V) (from middle to : ℕ) → AreHidden hides l from middle → AreHidden hides l middle to → AreHidden hides l from to
  hidden_join hides l from middle to front back i v above below at = elim (cases_lt i middle) [
    | inl less ↦ front i v above less at
    | inr le ↦ back i v le below at
  ]

  pub hidden_one : (hides : V → Type 0) (l : List V) (place : ℕ) (v : V) → slice_get l place ≡ Some v → hides v → AreHidden hides l place (place + 1)
  hidden_one hides l place v stands is i w above below at =
      let same : i ≡ place = omega (arith, above, below) in
      subst hides (some_injective v w (sym stands ∙ ap (slice_get l) (sym same) ∙ at)) is

  -- ---- how many values of a list pass a test

  count_front : (p : V → Bool) (l : List V) (i : ℕ) → ((j : ℕ) (v : V) → j < i → slice_get l j ≡ Some v → p v ≡ true) → i ≤ length l → i ≤ length (filter p l)
  count_front p l zero pass within = omega arith
  count_front p [] (suc i) pass within = absurd (omega (arith, within))
  count_front p (x ∷ xs) (suc i) pass within =
      let rest : i ≤ length (filter p xs) = count_front p xs i (λ j v less at. pass (suc j) v (omega (arith, less)) at) (omega (arith, within)) in
      subst (λ (b : Bool). suc i ≤ length (cond b (x ∷ filter p xs) (filter p xs))) (sym (pass 0 x (omega arith) refl)) (omega (arith, rest))

  count_behind : (p : V → Bool) (l : List V) (i : ℕ) → ((j : ℕ) (v : V) → i ≤ j → slice_get l j ≡ Some v → p v ≡ false) → length (filter p l) ≤ i
  count_behind p [] i fail = omega arith
  count_behind p (x ∷ xs) zero fail =
      let rest : length (filter p xs) ≤ 0 = count_behind p xs zero (λ j v le at. fail (suc j) v (omega arith) at) in
      subst (λ (b : Bool). length (cond b (x ∷ filter p xs) (filter p xs)) ≤ 0) (sym (fail 0 x (omega arith) refl)) rest
  count_behind p (x ∷ xs) (suc i) fail =
      let rest : length (filter p xs) ≤ i = count_behind p xs i (λ j v le at. fail (suc j) v (omega (arith, le)) at) in
      elim (p x) as (λ b. length (cond b (x ∷ filter p xs) (filter p xs)) ≤ suc i) [ true ↦ omega (arith, rest) | false ↦ omega (arith, rest) ]

  found_at : (p : V → Bool) (l : List V) (i : ℕ) (v : V) → slice_get l i ≡ Some v → p v ≡ true → is_some (find p l) ≡ true
  found_at p [] i v at is = absurd (some_not_none v (sym at))
  found_at p (x ∷ xs) zero v at is = ap (λ (b : Bool). is_some (cond b (Some x) (find p xs))) (ap p (some_injective x v at) ∙ is)
  found_at p (x ∷ xs) (suc i) v at is =
      let rest = found_at p xs i v at is in
      elim (p x) as (λ b. is_some (cond b (Some x) (find p xs)) ≡ true) [ true ↦ refl | false ↦ rest ]

  -- the value at a place, with what holds of it
  pub value_there : (P : V → Type 0) (o : Option V) → IsSomeAnd o P → (v : V) × (o ≡ Some v) × P v
  value_there P None h = absurd h
  value_there P (Some v) h = (v, refl, h)

-- ---- the place of a key

turned : (a b : List ℕ) (r : Ordering) → byte_cmp a b ≡ r → byte_cmp b a ≡ ordering_reverse r
turned a b r is = nat_list_cmp_total.antisymm b a ∙ ap ordering_reverse is

module _ {V : Type 0} (keys : V → List ℕ) (key : List ℕ) where
  pub count_with : (l : List V) → length (below keys key l) + cond (is_some (first_with keys key l)) 1 0 ≤ length (at_most keys key l)
  count_with [] = omega arith
  count_with (x ∷ xs) =
      let rest = count_with xs in
      let others = find (λ v. bytes_eq (keys v) key) xs in
      elim (byte_cmp (keys x) key) as (λ r. is_eq r ≡ bytes_eq (keys x) key
      → length (cond (is_lt r) (x ∷ below keys key xs) (below keys key xs)) + cond (is_some (cond (bytes_eq (keys x) key) (Some x) others)) 1 0
      ≤ length (cond (is_le r) (x ∷ at_most keys key xs) (at_most keys key xs))) [
        | Less ↦ λ e. subst (λ (b : Bool). length (x ∷ below keys key xs) + cond (is_some (cond b (Some x) others)) 1 0 ≤ length (x ∷ at_most keys key xs)) e (omega (arith, rest))
        | Equal ↦ λ e. subst (λ (b : Bool). length (below keys key xs) + cond (is_some (cond b (Some x) others)) 1 0 ≤ length (x ∷ at_most keys key xs)) e (omega (arith, rest))
        | Greater ↦ λ e. subst (λ (b : Bool). length (below keys key xs) + cond (is_some (cond b (Some x) others)) 1 0 ≤ length (at_most keys key xs)) e rest
      ] (is_eq-slice_cmp (keys x) key)

  place_none : (l : List V) (low : ℕ) → low ≤ length (below keys key l) → length (at_most keys key l) ≤ low → IsPlace keys key l low false
  place_none l low after before = of (is_some (first_with keys key l)) refl
    where
      of : (t : Bool) → is_some (first_with keys key l) ≡ t → IsPlace keys key l low false
      of t e =
          let counted : length (below keys key l) + cond t 1 0 ≤ length (at_most keys key l) = subst (λ (b : Bool). length (below keys key l) + cond b 1 0 ≤ length (at_most keys key l)) e (count_with l) in
          elim t as (λ b. is_some (first_with keys key l) ≡ b → length (below keys key l) + cond b 1 0 ≤ length (at_most keys key l) → IsPlace keys key l low false) [
            | true ↦ λ _ more. absurd (omega (arith, more, after, before))
            | false ↦ λ none more. record { below = omega (arith, more, after, before); held = sym none }
          ] e counted

  module _ (l : List V) (ordered : IsInOrder keys l) where
    in_order : (i j : ℕ) (v w : V) → i < j → slice_get l i ≡ Some v → slice_get l j ≡ Some w → byte_cmp (keys v) (keys w) ≡ Less
    in_order i j v w less at there =
        let own = get_or_from_slice_get l i v v at in
        let other = get_or_from_slice_get l j w v there in
        (λ k. byte_cmp (keys (sym own k)) (keys (sym other k))) ∙ ordered i j v less (slice_get_within l j w there)

    module _ (i : ℕ) (v : V) (at : slice_get l i ≡ Some v) where
      same_value : (j : ℕ) (w : V) → j ≡ i → slice_get l j ≡ Some w → w ≡ v
      same_value j w same there = some_injective w v (sym there ∙ ap (slice_get l) same ∙ at)

      -- those in front of a value that is not above the key are below it
      front_below : (j : ℕ) (w : V) → j < i → slice_get l j ≡ Some w → (byte_cmp (keys v) key ≡ Less) ⊎ (keys v ≡ key) → is_lt (byte_cmp (keys w) key) ≡ true
      front_below j w less there side =
          let before = in_order j i w v less there at in
          elim side [
            | inl under ↦ ap is_lt (nat_list_cmp_total.trans (keys w) (keys v) key before under)
            | inr own ↦ ap is_lt (ap (byte_cmp (keys w)) (sym own) ∙ before)
          ]

      -- those behind a value that is not below the key are above it
      back_above : (j : ℕ) (w : V) → i < j → slice_get l j ≡ Some w → (byte_cmp key (keys v) ≡ Less) ⊎ (keys v ≡ key) → byte_cmp (keys w) key ≡ Greater
      back_above j w less there side =
          let after = in_order i j v w less at there in
          turned key (keys w) Less (elim side [
            | inl over ↦ nat_list_cmp_total.trans key (keys v) (keys w) over after
            | inr own ↦ ap (λ k. byte_cmp k (keys w)) (sym own) ∙ after
          ])

      pub above-Less : byte_cmp (keys v) key ≡ Less → i + 1 ≤ length (below keys key l)
      above-Less less =
          let within = slice_get_within l i v at in
          count_front (λ w. is_lt (byte_cmp (keys w) key)) l (i + 1) (λ j w under there. elim (cases_lt j i) [
            | inl front ↦ front_below j w front there (inl less)
            | inr le ↦ ap (λ u. is_lt (byte_cmp (keys u) key)) (same_value j w (omega (arith, le, under)) there) ∙ ap is_lt less
          ]) (omega (arith, within))

      pub below-Greater : byte_cmp (keys v) key ≡ Greater → length (at_most keys key l) ≤ i
      below-Greater over = count_behind (λ w. is_le (byte_cmp (keys w) key)) l i (λ j w le there. elim (cases_lt i j) [
        | inl back ↦ ap is_le (back_above j w back there (inl (turned (keys v) key Greater over)))
        | inr ge ↦ ap (λ u. is_le (byte_cmp (keys u) key)) (same_value j w (omega (arith, le, ge)) there) ∙ ap is_le over
      ])

      pub place-Equal : byte_cmp (keys v) key ≡ Equal → IsPlace keys key l i true
      place-Equal tied =
          let own = exact_bytes (keys v) key tied in
          let within = slice_get_within l i v at in
          let front = count_front (λ w. is_lt (byte_cmp (keys w) key)) l i (λ j w less there. front_below j w less there (inr own)) (omega (arith, within)) in
          let back = count_behind (λ w. is_lt (byte_cmp (keys w) key)) l i (λ j w le there. elim (cases_lt i j) [
            | inl less ↦ ap is_lt (back_above j w less there (inr own))
            | inr ge ↦ ap (λ u. is_lt (byte_cmp (keys u) key)) (same_value j w (omega (arith, le, ge)) there) ∙ ap is_lt tied
          ]) in
          record {
            below = omega (arith, front, back);
            held = sym (found_at (λ w. bytes_eq (keys w) key) l i v at (sym (is_eq-slice_cmp (keys v) key) ∙ ap is_eq tied));
          }

-- ---- what a search knows

-- the place of the key is not in front of low, nor behind `behind`, and from high to there the values are hidden
pub record Searched {V : Type 0} (hides : V → Type 0) (keys : V → List ℕ) (key : List ℕ) (l : List V) (low high : ℕ) (is_hidden : Bool) : Type 0 where
  pub behind : ℕ
  pub above : high ≤ behind
  pub within : behind ≤ length l
  pub unread : AreHidden hides l high behind
  pub after : low ≤ length (below keys key l)
  pub before : length (at_most keys key l) ≤ behind
  pub hidden : is_hidden ≡ true → high < behind
  pub exact : is_hidden ≡ false → behind ≡ high

pub searched_keeps : {V : Type 0} (before after : V → Type 0) (keys : V → List ℕ) (key : List ℕ) (l : List V) (low high : ℕ) (is_hidden : Bool) → ((v : V) → before v → after v)
    → Searched before keys key l low high is_hidden → Searched after keys key l low high is_hidden
searched_keeps before after keys key l low high is_hidden keeps s = record {
  behind = s.behind;
  above = s.above;
  within = s.within;
  unread = hidden_keeps before after l high s.behind keeps s.unread;
  after = s.after;
  before = s.before;
  hidden = s.hidden;
  exact = s.exact;
}

module _ {V : Type 0} (hides : V → Type 0) (keys : V → List ℕ) (key : List ℕ) (l : List V) where
  pub searched_none : Searched hides keys key l 0 (length l) false
  searched_none = record {
    behind = length l;
    above = omega arith;
    within = omega arith;
    unread = λ i v above below at. absurd (omega (arith, above, below));
    after = omega arith;
    before = count_behind (λ v. is_le (byte_cmp (keys v) key)) l (length l) (λ j v le at. absurd (omega (arith, le, slice_get_within l j v at)));
    hidden = λ e. absurd (false≢true e);
    exact = λ e. refl;
  }

  module _ (low high : ℕ) (is_hidden : Bool) (s : Searched hides keys key l low high is_hidden) where
    module _ (ordered : IsInOrder keys l) (place : ℕ) (v : V) (at : slice_get l place ≡ Some v) where
      pub searched-Less : byte_cmp (keys v) key ≡ Less → Searched hides keys key l (place + 1) high is_hidden
      searched-Less less = record {
        behind = s.behind;
        above = s.above;
        within = s.within;
        unread = s.unread;
        after = above-Less keys key l ordered place v at less;
        before = s.before;
        hidden = s.hidden;
        exact = s.exact;
      }

      pub searched-Greater : (middle : ℕ) → middle ≤ place → AreHidden hides l middle place → byte_cmp (keys v) key ≡ Greater
          → Searched hides keys key l low middle (not (place == middle))
      searched-Greater middle above unread over = record {
        behind = place;
        above = above;
        within = (let within = slice_get_within l place v at in omega (arith, within));
        unread = unread;
        after = s.after;
        before = below-Greater keys key l ordered place v at over;
        hidden = λ e. (let other : ¬ (place ≡ middle) = eqb-false place middle (not-true _ e) in omega (arith, other, above));
        exact = λ e. eqb-true place middle (not-false _ e);
      }

    pub searched_past : (middle : ℕ) → middle < high → AreHidden hides l middle high → Searched hides keys key l low middle true
    searched_past middle below unread = record {
      behind = s.behind;
      above = omega (arith, below, s.above);
      within = s.within;
      unread = hidden_join hides l middle high s.behind unread s.unread;
      after = s.after;
      before = s.before;
      hidden = λ e. omega (arith, below, s.above);
      exact = λ e. absurd (false≢true (sym e));
    }

    module _ (end : high ≡ low) where
      pub searched_all : is_hidden ≡ false → IsPlace keys key l low false
      searched_all seen = place_none keys key l low s.after (subst (λ n. length (at_most keys key l) ≤ n) (s.exact seen ∙ end) s.before)

      pub searched_hidden : is_hidden ≡ true → IsHiddenIn keys hides key l low
      searched_hidden hidden = record {
        behind = s.behind;
        some = omega (arith, s.hidden hidden, end);
        within = s.within;
        unread = subst (λ from. AreHidden hides l from s.behind) end s.unread;
        low = s.after;
        high = s.before;
      }
