-- On all values of a content, and on a closure that is called on them.
--     in_turn                       the values of entries, each first one with its tail
--     visits_more                   the calls on these, and on those of one entry more
--     all_values                    these are those of the content that the entries stand for
use Rattle.std.proofs.Common.{◌≡◌, ◌≤◌, cond, List, [], ◌∷◌, ◌++◌, length, unwrap_or, Some, T, append_assoc, append-nil, refl, sym, ap, subst, ◌∙◌, arith}
use Rattle.std.proofs.lemmas.List.Sorted.{IsPermutation-refl, IsPermutation-trans, IsPermutation-append_left, IsPermutation-append_right, IsPermutation-append_comm}
use Rattle.std.specs.List.Sorted.{IsPermutation}
use Rattle.std.specs.declared.cmp.Ordering.{Ordering}
use Rattle.std.specs.declared.cmp.Ordering.TheVariants.{Less, Equal, Greater}
use Rattle.std.specs.Cmp.{IsTotalOrder}
use Rattle.std.specs.Ordering.{is_eq}
use Rattle.std.specs.FinMap.{find, put}
use Rattle.std.specs.FinMap.Entries.{by_order}
use Rattle.key_index_flat.specs.Content.{Content, is_filled, all_filled, list_at, key_count}
use Rattle.key_index_flat.specs.laws.Laws.{IsLawful-content_of, T-and_first, T-and_second}
use Rattle.key_index_flat.specs.Storage.{content_of}
use Rattle.key_index_flat.specs.Values.{values_of, VisitsInTurn}
use Rattle.key_index_flat.proofs.closures.VisitLemmas.{folds_append}
use Rattle.key_index_flat.proofs.content.ContentLemmas.{key_count-with_list, entries_for}

module _ {K V : Type 0} (tail : K → List V) where
  abbrev pub in_turn : List (K × V) → List V
  in_turn [] = []
  in_turn (e ∷ es) = (e.1 ∷ tail e.0) ++ in_turn es

  in_turn-more : (es : List (K × V)) (e : K × V) → in_turn (es ++ e ∷ []) ≡ in_turn es ++ e.1 ∷ tail e.0
  in_turn-more [] e = append-nil (e.1 ∷ tail e.0)
  in_turn-more (d ∷ ds) e =
      ap (λ l. (d.1 ∷ tail d.0) ++ l) (in_turn-more ds e) ∙ sym (append_assoc (d.1 ∷ tail d.0) (in_turn ds) (e.1 ∷ tail e.0))

  pub visits_more : {F : Type 0} (visit : F → V → Unit {0} → F → Type 0) (f g h : F) (es : List (K × V)) (e : K × V)
      → VisitsInTurn visit f (in_turn es) g → VisitsInTurn visit g (e.1 ∷ tail e.0) h → VisitsInTurn visit f (in_turn (es ++ e ∷ [])) h
  visits_more visit f g h es e before more =
      subst (λ l. VisitsInTurn visit f l h) (sym (in_turn-more es e)) (folds_append (λ p v q. visit p v tt q) f g h (in_turn es) (e.1 ∷ tail e.0) before more)

entries_for-zero : {V : Type 0} (l : List V) → entries_for l ≡ 0 → l ≡ []
entries_for-zero [] e = refl
entries_for-zero (v ∷ vs) e = absurd (omega (arith, e))

module _ {K V : Type 0} (cmp : K → K → Ordering) where
  -- a list under a key that has none
  values-put : (c : Content K V) (k : K) (l : List V) → T (all_filled c) → list_at cmp c k ≡ [] → IsPermutation (values_of (put cmp k l c)) (l ++ values_of c)
  values-put [] k l h none = IsPermutation-refl (l ++ [])
  values-put (e ∷ es) k l h none =
      elim (cmp k e.0) as (λ r. unwrap_or (cond (is_eq r) (Some e.1) (find cmp k es)) [] ≡ []
      → IsPermutation (values_of (by_order r ((k, l) ∷ e ∷ es) ((e.0, l) ∷ es) (e ∷ put cmp k l es))) (l ++ (e.1 ++ values_of es))) [
        | Less ↦ λ n. IsPermutation-refl (l ++ (e.1 ++ values_of es))
        | Equal ↦ λ n. absurd (subst (λ x. T (is_filled x)) n (T-and_first (is_filled e.1) _ h))
        | Greater ↦ λ n.
            let rest = values-put es k l (T-and_second (is_filled e.1) _ h) n in
            let under = IsPermutation-append_right e.1 _ _ rest in
            let swapped = IsPermutation-append_left (values_of es) _ _ (IsPermutation-append_comm e.1 l) in
            IsPermutation-trans _ _ _ under (subst (λ x. IsPermutation x (l ++ (e.1 ++ values_of es))) (append_assoc e.1 l (values_of es))
            (subst (λ x. IsPermutation ((e.1 ++ l) ++ values_of es) x) (append_assoc l e.1 (values_of es)) swapped))
      ] none

module _ {K V : Type 0} {cmp : K → K → Ordering} (o : IsTotalOrder cmp) (tail : K → List V) where
  keys_most : (es : List (K × V)) → key_count (content_of cmp es tail) ≤ length es
  keys_most [] = omega arith
  keys_most (e ∷ es) =
      let rest = keys_most es in
      let counts = key_count-with_list o (content_of cmp es tail) e.0 (e.1 ∷ tail e.0) (IsLawful-content_of o es tail) in
      omega (arith, rest, counts)

  pub all_values : (es : List (K × V)) → length es ≡ key_count (content_of cmp es tail) → IsPermutation (values_of (content_of cmp es tail)) (in_turn tail es)
  all_values [] sized = IsPermutation-refl []
  all_values (e ∷ es) sized =
      let c = content_of cmp es tail in
      let lawful = IsLawful-content_of o es tail in
      let most = keys_most es in
      let counts = key_count-with_list o c e.0 (e.1 ∷ tail e.0) lawful in
      let none = entries_for-zero (list_at cmp c e.0) (omega (arith, sized, most, counts)) in
      let rest = all_values es (omega (arith, sized, most, counts)) in
      IsPermutation-trans _ _ _ (values-put cmp c e.0 (e.1 ∷ tail e.0) lawful.1 none) (IsPermutation-append_right (e.1 ∷ tail e.0) _ _ rest)
