-- On groups of places, and on the cells that a search passes.
use Rattle.std.proofs.Common.{◌≡◌, ◌≢◌, ℕ, ◌+◌, ◌*◌, ◌/◌, ◌<◌, ◌≤◌, Bool, true, false, List, length, Some, slice_get, slice_index, None, refl, sym, ap, subst, ◌∙◌, ⊎_elim, arith}
use Rattle.std.proofs.lemmas.Bool.{cases_lt, false_from_ne_true}
use Rattle.std.proofs.lemmas.Option.{slice_get_within}
use Rattle.key_index_map.specs.declared.table.Search.{Search}
use Rattle.key_index_map.specs.declared.table.Search.TheVariants.{Found as Here, Absent, Onward}
use Rattle.key_index_map.specs.Table.{Cells, AreCells, NoneIn, Reaches, Stopped, Found, hash_of, tag_of, home, home_in, pairs}
use Rattle.std.specs.Map.{lookup}
use Rattle.key_index_map.proofs.Held.{none_held}

module _ {K V : Type 0} {eq : K → K → Bool} {input : K → List (List ℕ)} {tags : List ℕ} {items : List (K × V)} {filled : List Bool} {groups len left : ℕ}
    (are : AreCells eq input tags items filled groups len left) where
  -- by another name of their number
  pub in_so_many : (n : ℕ) → n ≡ groups → AreCells eq input tags items filled n len left
  in_so_many n is = subst (λ m. AreCells eq input tags items filled m len left) (sym is) are

  pub in_groups : (i : ℕ) (e : K × V) → slice_get items i ≡ Some e → i < 16 * groups
  in_groups i e at = let within = slice_get_within items i e at in omega (arith, within, are.within)

  -- the group at which a search begins, by what the table shows
  pub begins : (spare : ℕ) (cells : Cells K V) → record { tags = tags; items = items; spare = spare } ≡ cells → (hash : ℕ) → home_in cells hash ≡ home groups hash
  begins spare cells view hash =
      let long = ap (λ (c : Cells K V). length c.tags) (sym view) ∙ are.sized in
      let many : length cells.tags / 16 ≡ groups = omega (arith, long) in
      ap (λ n. home n hash) many

  module _ (respects : (x y : K) → eq x y ≡ true → input x ≡ input y) (k : K) (spare : ℕ) where
    abbrev start : ℕ
    start = home groups (hash_of (input k))

    abbrev now : Cells K V
    now = record { tags = tags; items = items; spare = spare }

    -- where a search for the key comes to
    reach : (i : ℕ) (e : K × V) → slice_get items i ≡ Some e → 3 ≤ slice_index tags i → eq k e.0 ≡ true → Reaches tags groups (home groups (hash_of (input k))) (i / 16)
    reach i e at is same =
        subst (λ x. Reaches tags groups (home groups (hash_of x)) (i / 16)) (sym (respects k e.0 same)) (are.reached i e at is (i / 16) (omega arith) (omega arith))

    none_ahead : (p : ℕ) → Stopped eq now (home groups (hash_of (input k))) groups k p → (i : ℕ) (e : K × V) → slice_get items i ≡ Some e → 3 ≤ slice_index tags i → eq k e.0 ≡ false
    none_ahead p s i e at is =
        false_from_ne_true (eq k e.0) (λ same.
        let r = reach i e at is same in
        ⊎_elim
        (λ before. r.round (omega (arith, before)) s.group s.after s.before p s.in_group.0 s.in_group.1 s.empty)
        (λ behind. ⊎_elim
        (λ seen. let other = s.none i e behind seen at is in let both : true ≡ false = sym same ∙ other in cc)
        (λ past. r.ahead (omega (arith, behind)) s.group s.after (omega (arith, past)) p s.in_group.0 s.in_group.1 s.empty)
        (cases_lt i (16 * s.group + 16)))
        (cases_lt i (16 * start)))

    none_round : NoneIn eq now (16 * home groups (hash_of (input k))) (16 * groups) k → (p : ℕ) → Stopped eq now 0 (home groups (hash_of (input k))) k p → (i : ℕ) (e : K × V) → slice_get items i ≡ Some e → 3 ≤ slice_index tags i → eq k e.0 ≡ false
    none_round ahead p s i e at is =
        false_from_ne_true (eq k e.0) (λ same.
        let r = reach i e at is same in
        ⊎_elim
        (λ before. ⊎_elim
        (λ seen. let other = s.none i e (omega arith) seen at is in let both : true ≡ false = sym same ∙ other in cc)
        (λ past. r.past (omega (arith, before)) s.group (omega (arith, past)) p s.in_group.0 s.in_group.1 s.empty)
        (cases_lt i (16 * s.group + 16)))
        (λ behind. let other = ahead i e behind (in_groups i e at) at is in let both : true ≡ false = sym same ∙ other in cc)
        (cases_lt i (16 * start)))

    none_at_all : NoneIn eq now (16 * home groups (hash_of (input k))) (16 * groups) k → NoneIn eq now 0 (16 * home groups (hash_of (input k))) k → (i : ℕ) (e : K × V) → slice_get items i ≡ Some e → 3 ≤ slice_index tags i → eq k e.0 ≡ false
    none_at_all ahead round i e at is =
        ⊎_elim (λ before. round i e (omega arith) before at is) (λ behind. ahead i e behind (in_groups i e at) at is) (cases_lt i (16 * start))

    -- where the second search found nothing either
    none_elsewhere : NoneIn eq now (16 * home groups (hash_of (input k))) (16 * groups) k → (r : Search) → ((x : ℕ) → r ≡ Here x → ⊥) → Found eq now 0 (home groups (hash_of (input k))) k r
        → (i : ℕ) (e : K × V) → slice_get items i ≡ Some e → 3 ≤ slice_index tags i → eq k e.0 ≡ false
    none_elsewhere ahead (Here x) h f = absurd (h x refl)
    none_elsewhere ahead (Absent p) h f = none_round ahead p f
    none_elsewhere ahead Onward h f = none_at_all ahead f

    -- what that means to a look-up
    module _ (cells : Cells K V) (view : now ≡ cells) (at : ℕ) (at_home : at ≡ home groups (hash_of (input k))) where
      none_of : ((i : ℕ) (e : K × V) → slice_get items i ≡ Some e → 3 ≤ slice_index tags i → eq k e.0 ≡ false) → lookup (eq k) (pairs cells) ≡ None
      none_of none = ap (λ x. lookup (eq k) (pairs x)) (sym view) ∙ none_held (eq k) tags items none

      pub absent_ahead : (p : ℕ) → Stopped eq cells at groups k p → lookup (eq k) (pairs cells) ≡ None
      absent_ahead p s = none_of (none_ahead p (subst (λ x. Stopped eq x start groups k p) (sym view) (subst (λ n. Stopped eq cells n groups k p) at_home s)))

      pub absent_elsewhere : NoneIn eq cells (16 * at) (16 * groups) k → (r : Search) → ((x : ℕ) → r ≡ Here x → ⊥) → Found eq cells 0 at k r → lookup (eq k) (pairs cells) ≡ None
      absent_elsewhere ahead r h f =
          none_of (none_elsewhere
          (subst (λ x. NoneIn eq x (16 * start) (16 * groups) k) (sym view) (subst (λ n. NoneIn eq cells (16 * n) (16 * groups) k) at_home ahead)) r h
          (subst (λ x. Found eq x 0 start k r) (sym view) (subst (λ n. Found eq cells 0 n k r) at_home f)))

      -- where the first group has an empty cell, and no tag of the key
      pub absent_at_home : (t p : ℕ) → t ≡ tag_of (hash_of (input k)) → at < groups → ((place : ℕ) → 16 * at ≤ place → place < 16 * at + 16 → slice_index tags place ≢ t)
          → 16 * at ≤ p → p < 16 * at + 16 → slice_index tags p ≡ 0 → lookup (eq k) (pairs cells) ≡ None
      absent_at_home t p is within nowhere low high empty =
          none_of (none_ahead p (subst (λ n. Stopped eq now n groups k p) at_home (record {
            group = at;
            after = omega arith;
            before = within;
            in_group = (low, high);
            empty = empty;
            none = λ i e from to there had. false_from_ne_true (eq k e.0) (λ same. nowhere i from to (are.tagged i e there had ∙ ap (λ x. tag_of (hash_of x)) (sym (respects k e.0 same)) ∙ sym is));
          })))
