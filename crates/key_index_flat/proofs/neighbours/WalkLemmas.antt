-- On a walk over the lists of a content, in the order of the keys.
--     first_next        a content is its first entry and what is above that one
--     above_next        and so is what is above a key
--     from_own          from a key on stand its own list, if it has one, and those above it
use Rattle.std.proofs.Common.{◌≡◌, Bool, true, false, cond, not, T, List, [], ◌∷◌, Some, unwrap_or, refl, sym, ap, ◌∙◌}
use Rattle.std.specs.List.{filter}
use Rattle.std.specs.declared.cmp.Ordering.{Ordering}
use Rattle.std.specs.declared.cmp.Ordering.TheVariants.{Less, Equal, Greater}
use Rattle.std.specs.Ordering.{is_eq, is_lt, is_le, ordering_reverse}
use Rattle.std.specs.Cmp.{IsTotalOrder, tied_itself}
use Rattle.std.specs.FinMap.{find, is_sorted}
use Rattle.std.specs.FinMap.Entries.{below_all}
use Rattle.key_index_flat.specs.Content.{Content, IsLawful, is_filled, list_at}
use Rattle.key_index_flat.specs.Neighbours.{first_entry, entries_above}
use Rattle.key_index_flat.specs.Walk.{entries_from, lists_of}
use Rattle.key_index_flat.specs.laws.Laws.{T-and_first, T-and_second}
use Rattle.key_index_flat.proofs.content.ContentLemmas.{Less-is_lt, list_at-below_all}

filled_is : (b : Bool) → T b → b ≡ true
filled_is true t = refl
filled_is false t = absurd t

module _ {K V : Type 0} {cmp : K → K → Ordering} (o : IsTotalOrder cmp) where
  all_above : (k x : K) (es : Content K V) → ((y : K) → cmp x y ≡ Less → cmp k y ≡ Less) → T (below_all cmp x es) → entries_above cmp es k ≡ es
  all_above k x [] through_x h = refl
  all_above k x (e ∷ es) through_x h =
      ap (λ r. cond (is_lt r) (e ∷ entries_above cmp es k) (entries_above cmp es k)) (through_x e.0 (Less-is_lt _ (T-and_first _ _ h)))
      ∙ ap (λ l. e ∷ l) (all_above k x es through_x (T-and_second _ _ h))

  pub first_next : (c : Content K V) (e : K × List V) → T (is_sorted cmp c) → first_entry c ≡ Some e → c ≡ e ∷ entries_above cmp c e.0
  first_next [] e h is = cc
  first_next (d ∷ ds) e h is =
      let same : d ≡ e = cc in
      let behind : entries_above cmp (d ∷ ds) d.0 ≡ ds =
      ap (λ r. cond (is_lt r) (d ∷ entries_above cmp ds d.0) (entries_above cmp ds d.0)) (tied_itself o d.0)
      ∙ all_above d.0 d.0 ds (λ y less. less) (T-and_first _ _ h) in
      ap (λ l. d ∷ l) (sym behind) ∙ (λ i. same i ∷ entries_above cmp (d ∷ ds) (same i).0)

  -- the first one that passes a test is above a key that is below all
  first_past : (x : K) (p : K × List V → Bool) (es : Content K V) (e : K × List V) → T (below_all cmp x es) → first_entry (filter p es) ≡ Some e → cmp x e.0 ≡ Less
  first_past x p [] e h is = cc
  first_past x p (f ∷ fs) e h is =
      elim (p f) as (λ b. first_entry (cond b (f ∷ filter p fs) (filter p fs)) ≡ Some e → cmp x e.0 ≡ Less) [
        | true ↦ λ found. let same : f ≡ e = cc in ap (λ d. cmp x d.0) (sym same) ∙ Less-is_lt _ (T-and_first _ _ h)
        | false ↦ first_past x p fs e (T-and_second _ _ h)
      ] is

  pub above_next : (c : Content K V) (k : K) (e : K × List V) → T (is_sorted cmp c) → first_entry (entries_above cmp c k) ≡ Some e → entries_above cmp c k ≡ e ∷ entries_above cmp c e.0
  above_next [] k e h is = cc
  above_next (d ∷ ds) k e h is =
      let rest = entries_above cmp ds k in
      let past : first_entry rest ≡ Some e → rest ≡ e ∷ entries_above cmp (d ∷ ds) e.0 = λ found.
      let less = first_past d.0 (λ e. is_lt (cmp k e.0)) ds e (T-and_first _ _ h) found in
      above_next ds k e (T-and_second _ _ h) found
      ∙ sym (ap (λ r. e ∷ cond (is_lt r) (d ∷ entries_above cmp ds e.0) (entries_above cmp ds e.0)) (o.antisymm e.0 d.0 ∙ ap ordering_reverse less)) in
      elim (cmp k d.0) as (λ r. cmp k d.0 ≡ r → first_entry (cond (is_lt r) (d ∷ rest) rest) ≡ Some e → cond (is_lt r) (d ∷ rest) rest ≡ e ∷ entries_above cmp (d ∷ ds) e.0) [
        | Less ↦ λ q found. ap (λ l. d ∷ l) (all_above k d.0 ds (λ y less. o.trans k d.0 y q less) (T-and_first _ _ h)) ∙ first_next (d ∷ ds) e h found
        | Equal ↦ λ _. past
        | Greater ↦ λ _. past
      ] refl is

  from_held : (c : Content K V) (k : K) → IsLawful cmp c
      → lists_of (entries_from cmp c k) ≡ cond (not (is_filled (list_at cmp c k))) (lists_of (entries_above cmp c k)) (list_at cmp c k ∷ lists_of (entries_above cmp c k))
  from_held [] k h = refl
  from_held (e ∷ es) k h =
      let from = entries_from cmp es k in
      let above = entries_above cmp es k in
      let rest = from_held es k (T-and_second _ _ h.0, T-and_second (is_filled e.1) _ h.1) in
      -- where the key is not above the first entry's
      let same : list_at cmp es k ≡ [] → lists_of from ≡ lists_of above = λ none. rest ∙ ap (λ l. cond (not (is_filled l)) (lists_of above) (l ∷ lists_of above)) none in
      elim (cmp k e.0) as (λ r. cmp k e.0 ≡ r → lists_of (cond (is_le r) (e ∷ from) from)
      ≡ cond (not (is_filled (unwrap_or (cond (is_eq r) (Some e.1) (find cmp k es)) [])))
      (lists_of (cond (is_lt r) (e ∷ above) above)) (unwrap_or (cond (is_eq r) (Some e.1) (find cmp k es)) [] ∷ lists_of (cond (is_lt r) (e ∷ above) above))) [
        | Less ↦ λ q.
            let none = list_at-below_all o k e.0 es (λ y less. o.trans k e.0 y q less) (T-and_first _ _ h.0) in
            ap (λ m. e.1 ∷ m) (same none) ∙ sym (ap (λ l. cond (not (is_filled l)) (e.1 ∷ lists_of above) (l ∷ e.1 ∷ lists_of above)) none)
        | Equal ↦ λ q.
            let none = list_at-below_all o k e.0 es (λ y less. o.congr k e.0 y q ∙ less) (T-and_first _ _ h.0) in
            ap (λ m. e.1 ∷ m) (same none) ∙ sym (ap (λ b. cond (not b) (lists_of above) (e.1 ∷ lists_of above)) (filled_is _ (T-and_first (is_filled e.1) _ h.1)))
        | Greater ↦ λ _. rest
      ] refl

  pub from_own : (c : Content K V) (k : K) → IsLawful cmp c → (absent : Bool) → absent ≡ not (is_filled (list_at cmp c k))
      → lists_of (entries_from cmp c k) ≡ cond absent (lists_of (entries_above cmp c k)) (list_at cmp c k ∷ lists_of (entries_above cmp c k))
  from_own c k h absent is = from_held c k h ∙ ap (λ b. cond b (lists_of (entries_above cmp c k)) (list_at cmp c k ∷ lists_of (entries_above cmp c k))) (sym is)
