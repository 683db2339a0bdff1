-- On the place of a key in a list of positions, as the look-up of the library tells it, by the entries there.
--     same_place, same_hidden   by other keys that are the same on the list
--     in_order                  the keys of a list whose entries are sorted
--     at_below, at_held         how many entries are below the key, and whether one is the key's; place_by from these
--     at_most-held              where the key is there, one more entry is at most it than is below it
--     read_keys                 the keys that were read of live records are the entries' own
--     side_told, side_none      on which side a record's key is, where it reads;  where it doesn't, the record is damaged
--     found_in                  the place of a key that was looked up
use Rattle.std.proofs.Common.{◌≡◌, ◌⊎◌, ℕ, ◌+◌, ◌≤◌, Bool, true, false, cond, T, List, [], ◌∷◌, length, map, All, Option, Some, None, is_some, slice_get, inl, inr, refl, sym, ap, subst, ◌∙◌, arith}
use Rattle.std.proofs.lemmas.List.Elements.{All-cons, All-head, All-nil, All-tail}
use Rattle.std.proofs.lemmas.List.Kept.{AllPairs-cons}
use Rattle.std.proofs.lemmas.Cmp.{eq_by_cmp_equiv}
use Rattle.std.proofs.lemmas.Map.Text.{is_eq-slice_cmp}
use Rattle.std.proofs.lemmas.Option.{slice_get_within}
use Rattle.std.specs.Cmp.Lexicographic.{nat_list_cmp_total}
use Rattle.std.specs.FinMap.{find, is_sorted}
use Rattle.std.specs.FinMap.Entries.{below_all}
use Rattle.std.specs.Option.{IfSome, option_map, unwrap_or}
use Rattle.std.specs.Ordering.{is_eq, is_le, is_lt}
use Rattle.std.specs.Str.{bytes_eq}
use Rattle.std.specs.declared.cmp.Ordering.{Ordering}
use Rattle.std.specs.declared.cmp.Ordering.TheVariants.{Less}
use Rattle.key_index_flat.specs.FullKeys.{below, byte_cmp, first_with}
use Rattle.key_index_flat.specs.Neighbours.{entries_below}
use Rattle.key_index_flat.specs.Places.{IsInOrder, at_most}
use Rattle.key_index_flat.specs.Places as places
use Rattle.key_index_flat.specs.laws.Laws.{T-and_first, T-and_second}
use Rattle.key_index_flat.proofs.content.ContentLemmas.{Less-is_lt}
use Rattle.key_index_flat.proofs.entries.EntryLemmas.{some_injective, some_not_none}
use Rattle.key_index_flat.proofs.neighbours.PlaceLemmas.{count_with}
use Rattle.key_index_store.specs.Indexed.{IsIn, IsLive, IsPlace, key_at, key_read}
use Rattle.key_index_store.specs.Record.{key_in}
use Rattle.key_index_store.specs.declared.store.find.Front.{Front}
use Rattle.key_index_store.proofs.ReadLemmas.{key_in-live}

-- ---- keys that are the same on a list

module _ (f g : ℕ → List ℕ) (key : List ℕ) where
  same_below : (ps : List ℕ) → map f ps ≡ map g ps → below f key ps ≡ below g key ps
  same_below [] e = refl
  same_below (p ∷ ps) e =
      let head : f p ≡ g p = cc in
      let rest = same_below ps (cc) in
      λ i. cond (is_lt (byte_cmp (head i) key)) (p ∷ rest i) (rest i)

  same_at_most : (ps : List ℕ) → map f ps ≡ map g ps → at_most f key ps ≡ at_most g key ps
  same_at_most [] e = refl
  same_at_most (p ∷ ps) e =
      let head : f p ≡ g p = cc in
      let rest = same_at_most ps (cc) in
      λ i. cond (is_le (byte_cmp (head i) key)) (p ∷ rest i) (rest i)

  same_first : (ps : List ℕ) → map f ps ≡ map g ps → first_with f key ps ≡ first_with g key ps
  same_first [] e = refl
  same_first (p ∷ ps) e =
      let head : f p ≡ g p = cc in
      let rest = same_first ps (cc) in
      λ i. cond (bytes_eq (head i) key) (Some p) (rest i)

  module _ (ps : List ℕ) (same : map f ps ≡ map g ps) (place : ℕ) where
    pub same_place : (is_held : Bool) → places.IsPlace f key ps place is_held → places.IsPlace g key ps place is_held
    same_place is_held at = record {
      below = at.below ∙ ap (λ l. length l) (same_below ps same);
      held = at.held ∙ ap is_some (same_first ps same);
    }

    pub same_hidden : (before after : ℕ → Type 0) → ((i p : ℕ) → slice_get ps i ≡ Some p → before p → after p) → places.IsHiddenIn f before key ps place → places.IsHiddenIn g after key ps place
    same_hidden before after keeps hides = record {
      behind = hides.behind;
      some = hides.some;
      within = hides.within;
      unread = λ i p above below at. keeps i p at (hides.unread i p above below at);
      low = subst (λ n. place ≤ n) (ap (λ l. length l) (same_below ps same)) hides.low;
      high = subst (λ n. n ≤ hides.behind) (ap (λ l. length l) (same_at_most ps same)) hides.high;
    }

-- ---- the entries of a list

module _ (entry : ℕ → List ℕ × List ℕ) where
  abbrev own : ℕ → List ℕ
  own p = (entry p).0

  module _ (f : ℕ → List ℕ) where
    all_above : (x y : List ℕ) → x ≡ y → (ps : List ℕ) → map f ps ≡ map own ps → T (below_all byte_cmp y (map entry ps)) → All (λ q. byte_cmp x (f q) ≡ Less) ps
    all_above x y is [] e above = All-nil (λ q. byte_cmp x (f q) ≡ Less)
    all_above x y is (p ∷ ps) e above =
        let head : f p ≡ own p = cc in
        All-cons (λ q. byte_cmp x (f q) ≡ Less) p ps ((λ i. byte_cmp (is i) (head i)) ∙ Less-is_lt _ (T-and_first _ _ above)) (all_above x y is ps (cc) (T-and_second _ _ above))

    pub in_order : (ps : List ℕ) → map f ps ≡ map own ps → T (is_sorted byte_cmp (map entry ps)) → IsInOrder f ps
    in_order [] e sorted = λ i j d less within. absurd (omega (arith, within))
    in_order (p ∷ ps) e sorted =
        let head : f p ≡ own p = cc in
        AllPairs-cons (λ v w. byte_cmp (f v) (f w) ≡ Less) p ps (all_above (f p) (own p) head ps (cc) (T-and_first _ _ sorted)) (in_order ps (cc) (T-and_second _ _ sorted))

  module _ (key : List ℕ) where
    below-entries : (ps : List ℕ) → length (below own key ps) ≡ length (entries_below byte_cmp (map entry ps) key)
    below-entries [] = refl
    below-entries (p ∷ ps) =
        let rest = below-entries ps in
        elim (is_lt (byte_cmp (own p) key)) as (λ b. length (cond b (p ∷ below own key ps) (below own key ps))
        ≡ length (cond b (entry p ∷ entries_below byte_cmp (map entry ps) key) (entries_below byte_cmp (map entry ps) key))) [ true ↦ omega (arith, rest) | false ↦ rest ]

    found-entries : (ps : List ℕ) → is_some (first_with own key ps) ≡ is_some (find byte_cmp key (map entry ps))
    found-entries [] = refl
    found-entries (p ∷ ps) =
        let rest = found-entries ps in
        let ties : bytes_eq (own p) key ≡ is_eq (byte_cmp key (own p)) = sym (is_eq-slice_cmp (own p) key) ∙ (eq_by_cmp_equiv nat_list_cmp_total).symm (own p) key in
        (λ i. is_some (cond (ties i) (Some p) (first_with own key ps)))
        ∙ elim (is_eq (byte_cmp key (own p))) as (λ b. is_some (cond b (Some p) (first_with own key ps)) ≡ is_some (cond b (Some (entry p).1) (find byte_cmp key (map entry ps)))) [ true ↦ refl | false ↦ rest ]

    module _ (ps : List ℕ) where
      -- one more entry is at most the key than is below it, where it is there
      pub at_most-held : is_some (find byte_cmp key (map entry ps)) ≡ true → length (entries_below byte_cmp (map entry ps) key) + 1 ≤ length (at_most own key ps)
      at_most-held held =
          let counted : length (below own key ps) + 1 ≤ length (at_most own key ps) =
          subst (λ (b : Bool). length (below own key ps) + cond b 1 0 ≤ length (at_most own key ps)) (found-entries ps ∙ held) (count_with own key ps) in
          omega (arith, counted, below-entries ps)

      pub low_below : (place : ℕ) → place ≤ length (below own key ps) → place ≤ length (entries_below byte_cmp (map entry ps) key)
      low_below place low = omega (arith, low, below-entries ps)

      module _ (place : ℕ) (is_held : Bool) where
        pub place_by : place ≡ length (entries_below byte_cmp (map entry ps) key) → is_held ≡ is_some (find byte_cmp key (map entry ps)) → IsPlace entry key ps place is_held
        place_by under held = record { below = under ∙ sym (below-entries ps); held = held ∙ sym (found-entries ps) }

        pub at_below : IsPlace entry key ps place is_held → place ≡ length (entries_below byte_cmp (map entry ps) key)
        at_below at = at.below ∙ below-entries ps

        pub at_held : IsPlace entry key ps place is_held → is_held ≡ is_some (find byte_cmp key (map entry ps))
        at_held at = at.held ∙ found-entries ps

-- ---- keys that are read

pub read_keys : (log ps : List ℕ) → All (IsLive log) ps → map (key_read log) ps ≡ map (key_at log) ps
read_keys log [] live = refl
read_keys log (p ∷ ps) live =
    let own = ap (λ o. unwrap_or o []) (key_in-live log p (All-head (IsLive log) p ps live)) in
    let rest = read_keys log ps (All-tail (IsLive log) p ps live) in
    λ i. own i ∷ rest i

-- how a key compares with that of a record that was read
module _ (damaged : ℕ → Type 0) (p : ℕ) (v x key : List ℕ) (read : (key_in p v ≡ key_in p x) ⊎ (damaged p × (key_in p v ≡ None))) (o : Option Ordering) (is : o ≡ option_map (λ l. byte_cmp l key) (key_in p v)) where
  pub side_told : (side : Ordering) → o ≡ Some side → side ≡ byte_cmp (unwrap_or (key_in p x) []) key
  side_told side some = elim read [
    | inl same ↦ of (key_in p v) (sym some ∙ is) ∙ ap (λ k. byte_cmp (unwrap_or k []) key) same
    | inr other ↦ absurd (some_not_none side (sym some ∙ is ∙ ap (option_map (λ l. byte_cmp l key)) other.1))
  ]
    where
      of : (k : Option (List ℕ)) → Some side ≡ option_map (λ l. byte_cmp l key) k → side ≡ byte_cmp (unwrap_or k []) key
      of None e = absurd (some_not_none side e)
      of (Some k) e = some_injective side (byte_cmp k key) e

  pub side_none : (k : List ℕ) → key_in p x ≡ Some k → o ≡ None → damaged p
  side_none k own none = elim read [
    | inl same ↦ absurd (some_not_none (byte_cmp k key) (sym (sym none ∙ is ∙ ap (option_map (λ l. byte_cmp l key)) (same ∙ own))))
    | inr other ↦ other.0
  ]

-- ---- a key that was looked up

pub found_in : (ps : List ℕ) (place : ℕ) (front : Option Front) → IfSome front (λ r. slice_get ps place ≡ Some r.position) → place ≤ length ps → IsIn ps place (is_some front)
found_in ps place (Some r) stands within = slice_get_within ps place r.position stands
found_in ps place None stands within = within
