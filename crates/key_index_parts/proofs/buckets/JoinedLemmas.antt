-- On joined contents, over any keys and any order of them.
--     list_at-joined              at each key the one list and then the other
--     IsLawful-joined             lawful where the second is
--     item_count-joined, key_count-joined     the counts add, that of keys where no key is in both
--     joined-with_list, with_list-joined      a list put on one side
--     joined-empty
--     IsFree-with_list            a list put at a key that is not among those
use Rattle.std.proofs.Common.{◌≡◌, ◌+◌, Bool, true, false, cond, not, T, List, [], ◌∷◌, ◌++◌, Some, unwrap_or, append-nil, length-append, refl, sym, ap, subst, ◌∙◌, ◌⊎◌, inl, inr, arith}
use Rattle.std.specs.declared.cmp.Ordering.{Ordering}
use Rattle.std.specs.declared.cmp.Ordering.TheVariants.{Equal}
use Rattle.std.specs.Ordering.{eq_by_cmp}
use Rattle.std.specs.Cmp.{IsTotalOrder, eq_by_cmp_equiv}
use Rattle.std.specs.FinMap.{find}
use Rattle.key_index_flat.specs.Content.{Content, is_filled, key_count, item_count, list_at, with_list, IsLawful}
use Rattle.key_index_flat.specs.laws.Laws.{T-and_first, T-and_second, IsLawful-with_list}
use Rattle.key_index_flat.proofs.content.ContentLemmas.{list_at-with_list, same_content, item_count-with_list, key_count-with_list, entries_for, list_at-below_all, Equal-is_eq}
use Rattle.key_index_parts.specs.Joined.{joined, IsFree}

filled_entries : {V : Type 0} (l : List V) → T (is_filled l) → entries_for l ≡ 1
filled_entries [] h = absurd h
filled_entries (v ∷ vs) h = refl

-- no list at a key of both
abbrev pub IsApart : {K V : Type 0} → (K → K → Ordering) → Content K V → Content K V → Type 0
IsApart {K = K} cmp c d = (q : K) → (list_at cmp c q ≡ []) ⊎ (list_at cmp d q ≡ [])

-- a content of covered keys and one free of them
pub apart_by : {K V : Type 0} (cmp : K → K → Ordering) (covered : K → Bool) (c d : Content K V) → IsFree cmp covered c → IsFree cmp (λ k. not (covered k)) d → IsApart cmp c d
apart_by cmp covered c d f g q =
    elim (covered q) as (λ b. covered q ≡ b → (list_at cmp c q ≡ []) ⊎ (list_at cmp d q ≡ [])) [
      | true ↦ λ p. inl (f q p)
      | false ↦ λ p. inr (g q (ap (λ b. not b) p))
    ] refl

module _ {K V : Type 0} {cmp : K → K → Ordering} (o : IsTotalOrder cmp) where
  pub IsLawful-joined : (c d : Content K V) → IsLawful cmp d → IsLawful cmp (joined cmp c d)
  IsLawful-joined [] d h = h
  IsLawful-joined (e ∷ es) d h = IsLawful-with_list o (joined cmp es d) e.0 (e.1 ++ list_at cmp (joined cmp es d) e.0) (IsLawful-joined es d h)

  pub item_count-joined : (c d : Content K V) → IsLawful cmp d → item_count (joined cmp c d) ≡ item_count c + item_count d
  item_count-joined [] d h = omega arith
  item_count-joined (e ∷ es) d h =
      let m = list_at cmp (joined cmp es d) e.0 in
      let n = item_count-with_list o (joined cmp es d) e.0 (e.1 ++ m) (IsLawful-joined es d h) in
      let l = length-append e.1 m in
      let rest = item_count-joined es d h in
      omega (arith, n, l, rest)

  -- the first key of a lawful content is not among the others
  first_absent : (e : K × List V) (es : Content K V) → IsLawful cmp (e ∷ es) → list_at cmp es e.0 ≡ []
  first_absent e es h = list_at-below_all o e.0 e.0 es (λ y p. p) (T-and_first _ _ h.0)

  rest_lawful : (e : K × List V) (es : Content K V) → IsLawful cmp (e ∷ es) → IsLawful cmp es
  rest_lawful e es h = (T-and_second _ _ h.0, T-and_second _ _ h.1)

  module _ (exact : (x y : K) → cmp x y ≡ Equal → x ≡ y) where
    pub list_at-joined : (c d : Content K V) (q : K) → IsLawful cmp c → list_at cmp (joined cmp c d) q ≡ list_at cmp c q ++ list_at cmp d q
    list_at-joined [] d q h = refl
    list_at-joined (e ∷ es) d q h =
        let J = joined cmp es d in
        let rest : (k : K) → list_at cmp J k ≡ list_at cmp es k ++ list_at cmp d k = λ k. list_at-joined es d k (rest_lawful e es h) in
        list_at-with_list o J e.0 (e.1 ++ list_at cmp J e.0) q
        ∙ elim (eq_by_cmp cmp q e.0) as (λ b. eq_by_cmp cmp q e.0 ≡ b → cond b (e.1 ++ list_at cmp J e.0) (list_at cmp J q) ≡ unwrap_or (cond b (Some e.1) (find cmp q es)) [] ++ list_at cmp d q) [
          | true ↦ λ p. ap (λ l. e.1 ++ l) (rest e.0 ∙ ap (λ l. l ++ list_at cmp d e.0) (first_absent e es h) ∙ ap (λ x. list_at cmp d x) (sym (exact q e.0 (Equal-is_eq _ p))))
          | false ↦ λ p. rest q
        ] refl

    apart_rest : (e : K × List V) (es d : Content K V) → IsLawful cmp (e ∷ es) → IsApart cmp (e ∷ es) d → IsApart cmp es d
    apart_rest e es d h apart q =
        elim (eq_by_cmp cmp q e.0) as (λ b. eq_by_cmp cmp q e.0 ≡ b → ((unwrap_or (cond b (Some e.1) (find cmp q es)) [] ≡ []) ⊎ (list_at cmp d q ≡ [])) → (list_at cmp es q ≡ []) ⊎ (list_at cmp d q ≡ [])) [
          | true ↦ λ p s. inl (ap (λ x. list_at cmp es x) (exact q e.0 (Equal-is_eq _ p)) ∙ first_absent e es h)
          | false ↦ λ p s. s
        ] refl (apart q)

    apart_first : (e : K × List V) (es d : Content K V) → IsLawful cmp (e ∷ es) → IsApart cmp (e ∷ es) d → list_at cmp d e.0 ≡ []
    apart_first e es d h apart =
        elim (eq_by_cmp cmp e.0 e.0) as (λ b. eq_by_cmp cmp e.0 e.0 ≡ b → ((unwrap_or (cond b (Some e.1) (find cmp e.0 es)) [] ≡ []) ⊎ (list_at cmp d e.0 ≡ [])) → list_at cmp d e.0 ≡ []) [
          | true ↦ λ p s. elim s [ inl z ↦ absurd (subst (λ l. T (is_filled l)) z (T-and_first _ _ h.1)) | inr z ↦ z ]
          | false ↦ λ p s. let bad : true ≡ false = sym ((eq_by_cmp_equiv o).refl e.0) ∙ p in absurd (cc bad)
        ] refl (apart e.0)

    pub key_count-joined : (c d : Content K V) → IsLawful cmp c → IsLawful cmp d → IsApart cmp c d → key_count (joined cmp c d) ≡ key_count c + key_count d
    key_count-joined [] d g h apart = omega arith
    key_count-joined (e ∷ es) d g h apart =
        let J = joined cmp es d in
        let none : list_at cmp J e.0 ≡ [] = list_at-joined es d e.0 (rest_lawful e es g) ∙ ap (λ l. l ++ list_at cmp d e.0) (first_absent e es g) ∙ apart_first e es d g apart in
        let n = key_count-with_list o J e.0 (e.1 ++ list_at cmp J e.0) (IsLawful-joined es d h) in
        let before : entries_for (list_at cmp J e.0) ≡ 0 = ap (λ l. entries_for l) none in
        let after : entries_for (e.1 ++ list_at cmp J e.0) ≡ 1 = ap (λ l. entries_for l) (ap (λ l. e.1 ++ l) none ∙ append-nil e.1) ∙ filled_entries e.1 (T-and_first _ _ g.1) in
        let rest = key_count-joined es d (rest_lawful e es g) h (apart_rest e es d g apart) in
        omega (arith, n, before, after, rest)

    -- a list put in the first
    pub joined-with_list : (c d : Content K V) (k : K) (l : List V) → IsLawful cmp c → IsLawful cmp d → joined cmp (with_list cmp c k l) d ≡ with_list cmp (joined cmp c d) k (l ++ list_at cmp d k)
    joined-with_list c d k l g h =
        same_content o exact _ _ (IsLawful-joined (with_list cmp c k l) d h) (IsLawful-with_list o (joined cmp c d) k (l ++ list_at cmp d k) (IsLawful-joined c d h)) (λ q.
        list_at-joined (with_list cmp c k l) d q (IsLawful-with_list o c k l g)
        ∙ ap (λ m. m ++ list_at cmp d q) (list_at-with_list o c k l q)
        ∙ elim (eq_by_cmp cmp q k) as (λ b. eq_by_cmp cmp q k ≡ b → cond b l (list_at cmp c q) ++ list_at cmp d q ≡ cond b (l ++ list_at cmp d k) (list_at cmp (joined cmp c d) q)) [
          | true ↦ λ p. ap (λ x. l ++ list_at cmp d x) (exact q k (Equal-is_eq _ p))
          | false ↦ λ p. sym (list_at-joined c d q g)
        ] refl
        ∙ sym (list_at-with_list o (joined cmp c d) k (l ++ list_at cmp d k) q))

    -- a list put in the second
    pub with_list-joined : (c d : Content K V) (k : K) (l : List V) → IsLawful cmp c → IsLawful cmp d → joined cmp c (with_list cmp d k l) ≡ with_list cmp (joined cmp c d) k (list_at cmp c k ++ l)
    with_list-joined c d k l g h =
        same_content o exact _ _ (IsLawful-joined c (with_list cmp d k l) (IsLawful-with_list o d k l h)) (IsLawful-with_list o (joined cmp c d) k (list_at cmp c k ++ l) (IsLawful-joined c d h)) (λ q.
        list_at-joined c (with_list cmp d k l) q g
        ∙ ap (λ m. list_at cmp c q ++ m) (list_at-with_list o d k l q)
        ∙ elim (eq_by_cmp cmp q k) as (λ b. eq_by_cmp cmp q k ≡ b → list_at cmp c q ++ cond b l (list_at cmp d q) ≡ cond b (list_at cmp c k ++ l) (list_at cmp (joined cmp c d) q)) [
          | true ↦ λ p. ap (λ x. list_at cmp c x ++ l) (exact q k (Equal-is_eq _ p))
          | false ↦ λ p. sym (list_at-joined c d q g)
        ] refl
        ∙ sym (list_at-with_list o (joined cmp c d) k (list_at cmp c k ++ l) q))

    pub joined-empty : (c : Content K V) → IsLawful cmp c → joined cmp c [] ≡ c
    joined-empty c g = same_content o exact _ _ (IsLawful-joined c [] (tt, tt)) g (λ q. list_at-joined c [] q g ∙ append-nil (list_at cmp c q))

    pub IsFree-with_list : (p : K → Bool) (c : Content K V) (k : K) (l : List V) → p k ≡ false → IsFree cmp p c → IsFree cmp p (with_list cmp c k l)
    IsFree-with_list p c k l out free q in_p =
        list_at-with_list o c k l q
        ∙ elim (eq_by_cmp cmp q k) as (λ b. eq_by_cmp cmp q k ≡ b → cond b l (list_at cmp c q) ≡ []) [
          | true ↦ λ e. let bad : true ≡ false = sym in_p ∙ ap (λ x. p x) (exact q k (Equal-is_eq _ e)) ∙ out in absurd (cc bad)
          | false ↦ λ e. free q in_p
        ] refl
