-- On contents, over any keys and any order of them.
--     list_at-with_list           what `with_list` answers at each key
--     same_content                two lawful contents that agree at every key are one
--     item_count-with_list, key_count-with_list     the counts after it
--     with_list-same, with_list-twice               the same list again, and another in its place
use Rattle.std.proofs.Common.{◌≡◌, ℕ, ◌+◌, Bool, true, false, cond, not, T, List, [], ◌∷◌, length, Option, Some, None, unwrap_or, is_some, add-zero, refl, sym, ap, subst, ◌∙◌, arith}
use Rattle.std.specs.declared.cmp.Ordering.{Ordering}
use Rattle.std.specs.declared.cmp.Ordering.TheVariants.{Less, Equal, Greater}
use Rattle.std.specs.Ordering.{eq_by_cmp, is_eq, is_lt}
use Rattle.std.specs.Cmp.{IsTotalOrder, eq_by_cmp_equiv, alike_right}
use Rattle.std.specs.FinMap.{find, put, is_sorted}
use Rattle.std.specs.FinMap.Entries.{below_all, by_order, where_key, find-put, find-where_key, same_entries, length-put, length_without}
use Rattle.key_index_flat.specs.Content.{Content, is_filled, all_filled, key_count, item_count, list_at, with_list, IsLawful}
use Rattle.key_index_flat.specs.laws.Laws.{T-and_first, T-and_second, IsLawful-with_list}

unwrap_or-cond_none : {V : Type 0} (b : Bool) (o : Option (List V)) → unwrap_or (cond (not b) o None) [] ≡ cond b [] (unwrap_or o [])
unwrap_or-cond_none true o = refl
unwrap_or-cond_none false o = refl

unwrap_or-cond_some : {V : Type 0} (b : Bool) (l : List V) (o : Option (List V)) → unwrap_or (cond b (Some l) o) [] ≡ cond b l (unwrap_or o [])
unwrap_or-cond_some true l o = refl
unwrap_or-cond_some false l o = refl

abbrev if_filled : {V : Type 0} → List V → Option (List V)
if_filled [] = None
if_filled (v ∷ vs) = Some (v ∷ vs)

if_filled-filled : {V : Type 0} (l : List V) → T (is_filled l) → Some l ≡ if_filled l
if_filled-filled [] p = absurd p
if_filled-filled (v ∷ vs) p = refl

pub Equal-is_eq : (r : Ordering) → is_eq r ≡ true → r ≡ Equal
Equal-is_eq Less p = absurd (subst T (sym p) tt)
Equal-is_eq Equal p = refl
Equal-is_eq Greater p = absurd (subst T (sym p) tt)

pub Less-is_lt : (r : Ordering) → T (is_lt r) → r ≡ Less
Less-is_lt Less p = refl
Less-is_lt Equal p = absurd p
Less-is_lt Greater p = absurd p

-- how many entries a list takes
abbrev pub entries_for : {V : Type 0} → List V → ℕ
entries_for [] = 0
entries_for (v ∷ vs) = 1

as_entries : {V : Type 0} (l : List V) → cond (is_some (if_filled l)) 1 0 ≡ entries_for l
as_entries [] = refl
as_entries (v ∷ vs) = refl

module _ {K V : Type 0} {cmp : K → K → Ordering} (o : IsTotalOrder cmp) where
  pub list_at-with_list : (c : Content K V) (k : K) (l : List V) (q : K) → list_at cmp (with_list cmp c k l) q ≡ cond (eq_by_cmp cmp q k) l (list_at cmp c q)
  list_at-with_list c k [] q =
      ap (λ r. unwrap_or r []) (find-where_key cmp (λ x. not (eq_by_cmp cmp k x)) q (λ x t. ap (λ r. not (is_eq r)) (sym (alike_right o q x k t))) c)
      ∙ unwrap_or-cond_none (eq_by_cmp cmp k q) (find cmp q c) ∙ ap (λ b. cond b [] (list_at cmp c q)) ((eq_by_cmp_equiv o).symm k q)
  list_at-with_list c k (v ∷ vs) q = ap (λ r. unwrap_or r []) (find-put cmp o q k (v ∷ vs) c) ∙ unwrap_or-cond_some (eq_by_cmp cmp q k) (v ∷ vs) (find cmp q c)

  -- a key of a lawful content is found with its list
  find-if_filled : (c : Content K V) (q : K) → T (all_filled c) → find cmp q c ≡ if_filled (list_at cmp c q)
  find-if_filled [] q h = refl
  find-if_filled (e ∷ es) q h =
      elim (eq_by_cmp cmp q e.0) as (λ b. cond b (Some e.1) (find cmp q es) ≡ if_filled (unwrap_or (cond b (Some e.1) (find cmp q es)) [])) [
        | true ↦ if_filled-filled e.1 (T-and_first (is_filled e.1) _ h)
        | false ↦ find-if_filled es q (T-and_second (is_filled e.1) _ h)
      ]

  pub same_content : ((x y : K) → cmp x y ≡ Equal → x ≡ y) → (c d : Content K V) → IsLawful cmp c → IsLawful cmp d → ((q : K) → list_at cmp c q ≡ list_at cmp d q) → c ≡ d
  same_content exact c d g h is = same_entries cmp o exact c d g.0 h.0 (λ q. find-if_filled c q g.1 ∙ ap if_filled (is q) ∙ sym (find-if_filled d q h.1))

  -- a key below each key of a list in order has no list in it
  pub list_at-below_all : (k x : K) (es : Content K V) → ((y : K) → cmp x y ≡ Less → cmp k y ≡ Less) → T (below_all cmp x es) → list_at cmp es k ≡ []
  list_at-below_all k x [] through_x h = refl
  list_at-below_all k x (e ∷ es) through_x h =
      ap (λ r. unwrap_or (cond (is_eq r) (Some e.1) (find cmp k es)) []) (through_x e.0 (Less-is_lt _ (T-and_first _ _ h))) ∙ list_at-below_all k x es through_x (T-and_second _ _ h)

  item_count-put : (k : K) (l : List V) (c : Content K V) → T (is_sorted cmp c) → item_count (put cmp k l c) + length (list_at cmp c k) ≡ item_count c + length l
  item_count-put k l [] h = omega arith
  item_count-put k l (e ∷ es) h =
      elim (cmp k e.0) as (λ r. cmp k e.0 ≡ r → item_count (by_order r ((k, l) ∷ e ∷ es) ((e.0, l) ∷ es) (e ∷ put cmp k l es)) + length (unwrap_or (cond (is_eq r) (Some e.1) (find cmp k es)) []) ≡ (length e.1 + item_count es) + length l) [
        | Less ↦ λ p.
            let none : length (list_at cmp es k) ≡ 0 = ap (λ x. length x) (list_at-below_all k e.0 es (λ y q. o.trans k e.0 y p q) (T-and_first _ _ h)) in
            let sum : (length l + (length e.1 + item_count es)) + length (list_at cmp es k) ≡ (length e.1 + item_count es) + length l = omega (arith, none) in sum
        | Equal ↦ λ p. let sum : (length l + item_count es) + length e.1 ≡ (length e.1 + item_count es) + length l = omega arith in sum
        | Greater ↦ λ p.
            let rest : item_count (put cmp k l es) + length (list_at cmp es k) ≡ item_count es + length l = item_count-put k l es (T-and_second _ _ h) in
            let sum : (length e.1 + item_count (put cmp k l es)) + length (list_at cmp es k) ≡ (length e.1 + item_count es) + length l = omega (arith, rest) in sum
      ] refl

  item_count-without : (k : K) (c : Content K V) → T (is_sorted cmp c) → item_count (where_key cmp (λ x. not (eq_by_cmp cmp k x)) c) + length (list_at cmp c k) ≡ item_count c
  item_count-without k [] h = refl
  item_count-without k (e ∷ es) h =
      let left = where_key cmp (λ x. not (eq_by_cmp cmp k x)) es in
      let rest : item_count left + length (list_at cmp es k) ≡ item_count es = item_count-without k es (T-and_second _ _ h) in
      let kept : (length e.1 + item_count left) + length (list_at cmp es k) ≡ length e.1 + item_count es = omega (arith, rest) in
      elim (cmp k e.0) as (λ r. cmp k e.0 ≡ r → item_count (cond (not (is_eq r)) (e ∷ left) left) + length (unwrap_or (cond (is_eq r) (Some e.1) (find cmp k es)) []) ≡ length e.1 + item_count es) [
        | Less ↦ λ p. kept
        | Equal ↦ λ p.
            let none : length (list_at cmp es k) ≡ 0 = ap (λ x. length x) (list_at-below_all k e.0 es (λ y q. o.congr k e.0 y p ∙ q) (T-and_first _ _ h)) in
            let sum : item_count left + length e.1 ≡ length e.1 + item_count es = omega (arith, rest, none) in sum
        | Greater ↦ λ p. kept
      ] refl

  pub item_count-with_list : (c : Content K V) (k : K) (l : List V) → IsLawful cmp c → item_count (with_list cmp c k l) + length (list_at cmp c k) ≡ item_count c + length l
  item_count-with_list c k [] h = item_count-without k c h.0 ∙ sym (add-zero _)
  item_count-with_list c k (v ∷ vs) h = item_count-put k (v ∷ vs) c h.0

  some_filled : (c : Content K V) (k : K) → T (all_filled c) → cond (is_some (find cmp k c)) 1 0 ≡ entries_for (list_at cmp c k)
  some_filled c k h = ap (λ r. cond (is_some r) 1 0) (find-if_filled c k h) ∙ as_entries (list_at cmp c k)

  pub key_count-with_list : (c : Content K V) (k : K) (l : List V) → IsLawful cmp c → key_count (with_list cmp c k l) + entries_for (list_at cmp c k) ≡ key_count c + entries_for l
  key_count-with_list c k [] h = let e = length_without cmp o k c h.0 in let f = some_filled c k h.1 in omega (arith, e, f)
  key_count-with_list c k (v ∷ vs) h =
      let f = some_filled c k h.1 in
      ap (λ n. n + entries_for (list_at cmp c k)) (length-put cmp o k (v ∷ vs) c h.0)
      ∙ elim (is_some (find cmp k c)) as (λ b. cond b 1 0 ≡ entries_for (list_at cmp c k) → cond b (length c) (length c + 1) + entries_for (list_at cmp c k) ≡ length c + 1) [
        | true ↦ λ e. omega (arith, e)
        | false ↦ λ e. omega (arith, e)
      ] f

  module _ (exact : (x y : K) → cmp x y ≡ Equal → x ≡ y) where
    -- the same list again
    pub with_list-same : (c : Content K V) (k : K) → IsLawful cmp c → with_list cmp c k (list_at cmp c k) ≡ c
    with_list-same c k h = same_content exact _ _ (IsLawful-with_list o c k (list_at cmp c k) h) h (λ q.
        list_at-with_list c k (list_at cmp c k) q
        ∙ elim (eq_by_cmp cmp q k) as (λ b. eq_by_cmp cmp q k ≡ b → cond b (list_at cmp c k) (list_at cmp c q) ≡ list_at cmp c q) [
          | true ↦ λ p. ap (λ x. list_at cmp c x) (sym (exact q k (Equal-is_eq _ p)))
          | false ↦ λ p. refl
        ] refl)

    -- another list in its place
    pub with_list-twice : (c : Content K V) (k : K) (l m : List V) → IsLawful cmp c → with_list cmp (with_list cmp c k l) k m ≡ with_list cmp c k m
    with_list-twice c k l m h =
        let once = IsLawful-with_list o c k l h in
        same_content exact _ _ (IsLawful-with_list o _ k m once) (IsLawful-with_list o c k m h) (λ q.
        list_at-with_list (with_list cmp c k l) k m q
        ∙ elim (eq_by_cmp cmp q k) as (λ b. cond b m (list_at cmp (with_list cmp c k l) q) ≡ cond b m (cond b l (list_at cmp c q)) → cond b m (list_at cmp (with_list cmp c k l) q) ≡ cond b m (list_at cmp c q)) [
          | true ↦ λ e. refl
          | false ↦ λ e. e
        ] (ap (λ r. cond (eq_by_cmp cmp q k) m r) (list_at-with_list c k l q))
        ∙ sym (list_at-with_list c k m q))
