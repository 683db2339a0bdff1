-- On values that each stand for an entry of a map, a full key with something, under their own index keys.
--     own_list                                 of all values that are held, those of a key's own list
--     first_entry-IsLeast, last_entry-IsLeast  the nearest value in full keys is the nearest entry of the map
use Rattle.std.proofs.Common.{◌≡◌, ℕ, Bool, true, false, cond, T, List, [], ◌∷◌, ◌++◌, map, Option, Some, None, is_some, unwrap_or, All, refl, sym, ap, subst, ◌∙◌}
use Rattle.std.proofs.lemmas.Bool.{false≢true}
use Rattle.std.proofs.lemmas.List.Elements.{All-cons, All-head, All-tail, All-append, All-weaker, filter_passes}
use Rattle.std.proofs.lemmas.Map.Lookups.{exact_bytes}
use Rattle.std.specs.BTreeMap.Range.{IsLeBy}
use Rattle.std.specs.Cmp.{IsTotalOrder, tied_itself, on_total, back_total}
use Rattle.std.specs.Cmp.Lexicographic.{nat_list_cmp_total}
use Rattle.std.specs.FinMap.{FinMap, entries, entries_sorted, find, is_sorted}
use Rattle.std.specs.FinMap.Entries.{below_all, where_key, find-where_key}
use Rattle.std.specs.List.{filter, last_or}
use Rattle.std.specs.Option.{option_map}
use Rattle.std.specs.Ordering.{eq_by_cmp, is_eq, is_gt, is_lt, ordering_reverse, on, flip_args}
use Rattle.std.specs.declared.cmp.Ordering.{Ordering}
use Rattle.std.specs.declared.cmp.Ordering.TheVariants.{Less, Equal, Greater}
use Rattle.key_index_flat.specs.Content.{Content, list_at}
use Rattle.key_index_flat.specs.FullKeys.{IsBytes, IsFiled, IsLeast, above, below, byte_cmp, cmp_keys}
use Rattle.key_index_flat.specs.laws.Laws.{T-and_first, T-and_second}
use Rattle.key_index_flat.specs.Neighbours.{entries_above, entries_below, first_entry, last_entry}
use Rattle.key_index_flat.specs.Values.{values_of}
use Rattle.key_index_flat.proofs.content.ContentLemmas.{list_at-below_all, Less-is_lt, Equal-is_eq}
use Rattle.key_index_flat.proofs.entries.EntryLemmas.{some_not_none, some_injective}
use Rattle.key_index_flat.proofs.neighbours.FullKeyLemmas.{filed_first, filed_rest}
use Rattle.key_index_flat.proofs.neighbours.LeastLemmas.{least_has}

not_less : (r : Ordering) → r ≡ Less → is_lt r ≡ false → ⊥
not_less r e n = false≢true (sym n ∙ ap is_lt e)

module _ {K X : Type 0} {R : K → K → Ordering} (o : IsTotalOrder R) (exact : (x y : K) → R x y ≡ Equal → x ≡ y) where
  -- a key below all
  find-less_than_all : (k x : K) (es : List (K × X)) → R k x ≡ Less → T (below_all R x es) → find R k es ≡ None
  find-less_than_all k x [] p h = refl
  find-less_than_all k x (e ∷ es) p h =
      ap (λ r. cond (is_eq r) (Some e.1) (find R k es)) (o.trans k x e.0 p (Less-is_lt _ (T-and_first _ _ h))) ∙ find-less_than_all k x es p (T-and_second _ _ h)

  -- what is found stands above what all are above
  found_above : (x q : K) (es : List (K × X)) → T (below_all R x es) → is_some (find R q es) ≡ true → R x q ≡ Less
  found_above x q [] h f = absurd (false≢true f)
  found_above x q (e ∷ es) h f =
      elim (eq_by_cmp R q e.0) as (λ b. eq_by_cmp R q e.0 ≡ b → is_some (cond b (Some e.1) (find R q es)) ≡ true → R x q ≡ Less) [
        | true ↦ λ t _. ap (R x) (exact q e.0 (Equal-is_eq _ t)) ∙ Less-is_lt _ (T-and_first _ _ h)
        | false ↦ λ t g. found_above x q es (T-and_second _ _ h) g
      ] refl f

  is_some-find_first : (e : K × X) (es : List (K × X)) → is_some (find R e.0 (e ∷ es)) ≡ true
  is_some-find_first e es = ap (λ r. is_some (cond (is_eq r) (Some e.1) (find R e.0 es))) (tied_itself o e.0)

  found_more : (q : K) (e : K × X) (es : List (K × X)) → is_some (find R q es) ≡ true → is_some (find R q (e ∷ es)) ≡ true
  found_more q e es f =
      elim (eq_by_cmp R q e.0) as (λ b. is_some (cond b (Some e.1) (find R q es)) ≡ true) [
        | true ↦ refl
        | false ↦ f
      ]

  -- a test that tells a key from the first one: it isn't found there
  passed_over : (test : K → Ordering) (q : K) (e : K × X) → test q ≡ Less → is_lt (test e.0) ≡ false → eq_by_cmp R q e.0 ≡ false
  passed_over test q e p n =
      elim (eq_by_cmp R q e.0) as (λ b. eq_by_cmp R q e.0 ≡ b → b ≡ false) [
        | true ↦ λ t. absurd (not_less (test e.0) (ap test (sym (exact q e.0 (Equal-is_eq _ t))) ∙ p) n)
        | false ↦ λ t. refl
      ] refl

  find-past_first : (test : K → Ordering) (q : K) (e : K × X) (es : List (K × X)) → test q ≡ Less → is_lt (test e.0) ≡ false → find R q (e ∷ es) ≡ find R q es
  find-past_first test q e es p n = ap (λ b. cond b (Some e.1) (find R q es)) (passed_over test q e p n)

  pub filter-none_found : (test : K → Ordering) (es : List (K × X)) → ((q : K) → test q ≡ Less → is_some (find R q es) ≡ true → ⊥) → filter (λ e. is_lt (test e.0)) es ≡ []
  filter-none_found test [] h = refl
  filter-none_found test (e ∷ es) h =
      let rest = filter-none_found test es (λ q p f. h q p (found_more q e es f)) in
      elim (is_lt (test e.0)) as (λ b. is_lt (test e.0) ≡ b → cond b (e ∷ filter (λ e. is_lt (test e.0)) es) (filter (λ e. is_lt (test e.0)) es) ≡ []) [
        | true ↦ λ t. absurd (h e.0 (Less-is_lt _ (subst T (sym t) tt)) (is_some-find_first e es))
        | false ↦ λ t. rest
      ] refl

  same_entry : (e : K × X) (k : K) (p : X) → k ≡ e.0 → Some e.1 ≡ Some p → Some e ≡ Some (k, p)
  same_entry e k p is at = λ i. Some (sym is i, some_injective e.1 p at i)

  pub first_entry-entries_above_found : (a k : K) (p : X) (es : List (K × X)) → T (is_sorted R es) → find R k es ≡ Some p → R a k ≡ Less
      → ((q : K) → R a q ≡ Less → is_some (find R q es) ≡ true → IsLeBy R k q) → first_entry (entries_above R es a) ≡ Some (k, p)
  first_entry-entries_above_found a k p [] h at up least = absurd (some_not_none p (sym at))
  first_entry-entries_above_found a k p (e ∷ es) h at up least =
      let rest : is_lt (R a e.0) ≡ false → first_entry (entries_above R es a) ≡ Some (k, p) = λ n.
      first_entry-entries_above_found a k p es (T-and_second _ _ h) (sym (find-past_first (R a) k e es up n) ∙ at) up (λ q u f. least q u (ap is_some (find-past_first (R a) q e es u n) ∙ f)) in
      elim (is_lt (R a e.0)) as (λ b. is_lt (R a e.0) ≡ b → first_entry (cond b (e ∷ entries_above R es a) (entries_above R es a)) ≡ Some (k, p)) [
        | true ↦ λ t.
            let under = least e.0 (Less-is_lt _ (subst T (sym t) tt)) (is_some-find_first e es) in
            elim (R k e.0) as (λ r. R k e.0 ≡ r → is_gt r ≡ false → cond (is_eq r) (Some e.1) (find R k es) ≡ Some p → Some e ≡ Some (k, p)) [
              | Less ↦ λ q _ f. absurd (some_not_none p (sym f ∙ find-less_than_all k e.0 es q (T-and_first _ _ h)))
              | Equal ↦ λ q _ f. same_entry e k p (exact k e.0 q) f
              | Greater ↦ λ q g f. absurd (false≢true (sym g))
            ] refl under at
        | false ↦ λ t. rest t
      ] refl

  kept_last : (x : K × X) (y : Option (K × X)) (l : List (K × X)) → last_or None l ≡ Some x → last_or y l ≡ Some x
  kept_last x y [] h = absurd (some_not_none x (sym h))
  kept_last x y (z ∷ zs) h = h

  pub last_below : (a k : K) (p : X) (es : List (K × X)) → T (is_sorted R es) → find R k es ≡ Some p → R k a ≡ Less
      → ((q : K) → R q a ≡ Less → is_some (find R q es) ≡ true → IsLeBy R q k) → last_entry (entries_below R es a) ≡ Some (k, p)
  last_below a k p [] h at down most = absurd (some_not_none p (sym at))
  last_below a k p (e ∷ es) h at down most =
      let before : K → Ordering = λ q. R q a in
      elim (is_lt (R e.0 a)) as (λ b. is_lt (R e.0 a) ≡ b → last_or None (cond b (e ∷ entries_below R es a) (entries_below R es a)) ≡ Some (k, p)) [
        | true ↦ λ t.
            elim (R k e.0) as (λ r. R k e.0 ≡ r → cond (is_eq r) (Some e.1) (find R k es) ≡ Some p → last_or (Some e) (entries_below R es a) ≡ Some (k, p)) [
              | Less ↦ λ q f. absurd (some_not_none p (sym f ∙ find-less_than_all k e.0 es q (T-and_first _ _ h)))
              | Equal ↦ λ q f.
                  let is = exact k e.0 q in
                  let none : entries_below R es a ≡ [] = filter-none_found before es (λ x d g.
                  let over : R k x ≡ Less = ap (λ z. R z x) is ∙ found_above e.0 x es (T-and_first _ _ h) g in
                  let turned : is_gt (R x k) ≡ true = ap is_gt (o.antisymm x k ∙ ap ordering_reverse over) in
                  false≢true (sym (most x d (found_more x e es g)) ∙ turned)) in
                  ap (last_or (Some e)) none ∙ same_entry e k p is f
              | Greater ↦ λ q f. kept_last (k, p) (Some e) (entries_below R es a) (last_below a k p es (T-and_second _ _ h) f down (λ x d g. most x d (found_more x e es g)))
            ] refl at
        | false ↦ λ t.
            last_below a k p es (T-and_second _ _ h) (sym (find-past_first before k e es down t) ∙ at) down (λ q d f. most q d (ap is_some (find-past_first before q e es d t) ∙ f))
      ] refl

-- ---- values that stand for entries

abbrev pub either : {X : Type 0} → Option X → Option X → Option X
either None o = o
either (Some x) o = Some x

pub either_none : {X : Type 0} (o : Option X) → either o None ≡ o
either_none None = refl
either_none (Some x) = refl

either_cond : {X : Type 0} (b : Bool) (x : X) (o p : Option X) → cond b (Some x) (either o p) ≡ either (cond b (Some x) o) p
either_cond true x o p = refl
either_cond false x o p = refl

module _ {V X : Type 0} (entry : V → List ℕ × X) where
  abbrev full : V → List ℕ
  full v = (entry v).0

  abbrev look : List ℕ → List V → Option X
  look a l = find byte_cmp a (map entry l)

  look-append : (a : List ℕ) (xs ys : List V) → look a (xs ++ ys) ≡ either (look a xs) (look a ys)
  look-append a [] ys = refl
  look-append a (v ∷ vs) ys =
      ap (cond (eq_by_cmp byte_cmp a (full v)) (Some (entry v).1)) (look-append a vs ys)
      ∙ either_cond (eq_by_cmp byte_cmp a (full v)) (entry v).1 (look a vs) (look a ys)

  pub look-behind : (a : List ℕ) (xs ys : List V) → look a xs ≡ None → look a (xs ++ ys) ≡ look a ys
  look-behind a xs ys none = look-append a xs ys ∙ ap (λ o. either o (look a ys)) none

  module _ {K : Type 0} {cmp : K → K → Ordering} (o : IsTotalOrder cmp) (slot : List ℕ → K) where
    abbrev Under : K → V → Type 0
    Under k v = IsBytes (full v) × (slot (full v) ≡ k)

    -- no value under another index key has the full key
    none_elsewhere : (a : List ℕ) (k : K) (l : List V) → All (Under k) l → ¬ (slot a ≡ k) → look a l ≡ None
    none_elsewhere a k [] h apart = refl
    none_elsewhere a k (v ∷ vs) h apart =
        elim (eq_by_cmp byte_cmp a (full v)) as (λ b. eq_by_cmp byte_cmp a (full v) ≡ b → cond b (Some (entry v).1) (look a vs) ≡ None) [
          | true ↦ λ e. absurd (apart (ap slot (exact_bytes a (full v) (Equal-is_eq _ e)) ∙ (All-head (Under k) v vs h).1))
          | false ↦ λ e. none_elsewhere a k vs (All-tail (Under k) v vs h) apart
        ] refl

    not_tied : (x y : K) (r : Ordering) → cmp x y ≡ r → (r ≡ Equal → ⊥) → ¬ (x ≡ y)
    not_tied x y r is never e = never (sym is ∙ ap (cmp x) (sym e) ∙ tied_itself o x)

    less_not_equal : Less ≡ Equal → ⊥
    less_not_equal e = cc

    greater_not_equal : Greater ≡ Equal → ⊥
    greater_not_equal e = cc

    pub own_list : (a : List ℕ) (c : Content K V) → T (is_sorted cmp c) → IsFiled full cmp slot c → look a (values_of c) ≡ look a (list_at cmp c (slot a))
    own_list a [] h f = refl
    own_list a (e ∷ es) h f =
        let rest = own_list a es (T-and_second _ _ h) (filed_rest o full slot e es (T-and_first _ _ h) f) in
        let here = filed_first o full slot e es f in
        let elsewhere : ¬ (slot a ≡ e.0) → look a (e.1 ++ values_of es) ≡ look a (list_at cmp es (slot a)) = λ apart.
        look-append a e.1 (values_of es) ∙ ap (λ x. either x (look a (values_of es))) (none_elsewhere a e.0 e.1 here apart) ∙ rest in
        elim (cmp (slot a) e.0) as (λ r. cmp (slot a) e.0 ≡ r → look a (e.1 ++ values_of es) ≡ look a (unwrap_or (cond (is_eq r) (Some e.1) (find cmp (slot a) es)) [])) [
          | Less ↦ λ p. elsewhere (not_tied (slot a) e.0 Less p less_not_equal)
          | Equal ↦ λ p.
              let none : look a (values_of es) ≡ None = rest ∙ ap (look a) (list_at-below_all o (slot a) e.0 es (λ y q. o.congr (slot a) e.0 y p ∙ q) (T-and_first _ _ h)) in
              look-append a e.1 (values_of es) ∙ ap (either (look a e.1)) none ∙ either_none (look a e.1)
          | Greater ↦ λ p. elsewhere (not_tied (slot a) e.0 Greater p greater_not_equal)
        ] refl

  where_key-entries : (p : List ℕ → Bool) (vs : List V) → map entry (filter (λ v. p (full v)) vs) ≡ where_key byte_cmp p (map entry vs)
  where_key-entries p [] = refl
  where_key-entries p (v ∷ vs) =
      elim (p (full v)) as (λ b. map entry (cond b (v ∷ filter (λ v. p (full v)) vs) (filter (λ v. p (full v)) vs)) ≡ cond b (entry v ∷ where_key byte_cmp p (map entry vs)) (where_key byte_cmp p (map entry vs))) [
        | true ↦ ap (λ l. entry v ∷ l) (where_key-entries p vs)
        | false ↦ where_key-entries p vs
      ]

  -- of those that pass, as of all
  looks_passing : (p : List ℕ → Bool) (vs : List V) (q : List ℕ) → p q ≡ true → look q (filter (λ v. p (full v)) vs) ≡ look q vs
  looks_passing p vs q t =
      ap (find byte_cmp q) (where_key-entries p vs)
      ∙ find-where_key byte_cmp p q (λ x e. ap p (sym (exact_bytes q x e))) (map entry vs)
      ∙ ap (λ b. cond b (look q vs) None) t

  -- the map m has at each key what the values say
  module _ (vs : List V) (m : FinMap byte_cmp X) (looks : (q : List ℕ) → find byte_cmp q (entries m) ≡ look q vs) where
    module _ (S : List ℕ → List ℕ → Ordering) (o : IsTotalOrder S) (a : List ℕ) where
      beyond_told : (q : List ℕ) → S a q ≡ Less → find byte_cmp q (entries m) ≡ look q (filter (λ v. is_lt (S a (full v))) vs)
      beyond_told q e = looks q ∙ sym (looks_passing (λ k. is_lt (S a k)) vs q (ap is_lt e))

      module _ (v : V) (h : IsLeast (on full S) (filter (λ v. is_lt (S a (full v))) vs) (Some v)) where
        nearest_beyond : S a (full v) ≡ Less
        nearest_beyond = Less-is_lt _ (subst T (sym (least_has (on_total full o) (λ v. is_lt (S a (full v)) ≡ true) _ v h (filter_passes (λ v. is_lt (S a (full v))) vs))) tt)

        IsLeBy-filtered : All (λ w. IsLeBy S (full v) (full w)) (filter (λ v. is_lt (S a (full v))) vs)
        IsLeBy-filtered =
            let Bound : V → Type 0 = λ w. IsLeBy S (full v) (full w) in
            subst (All Bound) (sym h.2) (All-append Bound h.0 (v ∷ h.1) (All-weaker (λ w. S (full v) (full w) ≡ Less) Bound (λ w q. ap is_gt q) h.0 h.3) (All-cons Bound v h.1 (ap is_gt (tied_itself o (full v))) h.4))

        none_ahead : (l : List V) → All (λ w. S (full v) (full w) ≡ Less) l → look (full v) l ≡ None
        none_ahead [] k = refl
        none_ahead (w ∷ ws) k =
            elim (eq_by_cmp byte_cmp (full v) (full w)) as (λ b. eq_by_cmp byte_cmp (full v) (full w) ≡ b → cond b (Some (entry w).1) (look (full v) ws) ≡ None) [
              | true ↦ λ t. absurd (not_less (S (full v) (full w)) (All-head (λ w. S (full v) (full w) ≡ Less) w ws k)
                  (ap is_lt (sym (ap (S (full v)) (exact_bytes (full v) (full w) (Equal-is_eq _ t))) ∙ tied_itself o (full v))))
              | false ↦ λ t. none_ahead ws (All-tail (λ w. S (full v) (full w) ≡ Less) w ws k)
            ] refl

        IsLeBy-looked_up : (l : List V) (q : List ℕ) → All (λ w. IsLeBy S (full v) (full w)) l → is_some (look q l) ≡ true → IsLeBy S (full v) q
        IsLeBy-looked_up [] q k f = absurd (false≢true f)
        IsLeBy-looked_up (w ∷ ws) q k f =
            elim (eq_by_cmp byte_cmp q (full w)) as (λ b. eq_by_cmp byte_cmp q (full w) ≡ b → is_some (cond b (Some (entry w).1) (look q ws)) ≡ true → IsLeBy S (full v) q) [
              | true ↦ λ t _. ap (λ x. is_gt (S (full v) x)) (exact_bytes q (full w) (Equal-is_eq _ t)) ∙ All-head (λ w. IsLeBy S (full v) (full w)) w ws k
              | false ↦ λ t g. IsLeBy-looked_up ws q (All-tail (λ w. IsLeBy S (full v) (full w)) w ws k) g
            ] refl f

        nearest_found : find byte_cmp (full v) (entries m) ≡ Some (entry v).1
        nearest_found =
            beyond_told (full v) nearest_beyond
            ∙ ap (look (full v)) h.2
            ∙ look-behind (full v) h.0 (v ∷ h.1) (none_ahead h.0 h.3)
            ∙ ap (λ r. cond (is_eq r) (Some (entry v).1) (look (full v) h.1)) (tied_itself nat_list_cmp_total (full v))

        nearest_bounds : (q : List ℕ) → S a q ≡ Less → is_some (find byte_cmp q (entries m)) ≡ true → IsLeBy S (full v) q
        nearest_bounds q e f = IsLeBy-looked_up _ q IsLeBy-filtered (ap is_some (sym (beyond_told q e)) ∙ f)

      none_beyond : filter (λ v. is_lt (S a (full v))) vs ≡ [] → (q : List ℕ) → S a q ≡ Less → is_some (find byte_cmp q (entries m)) ≡ true → ⊥
      none_beyond h q e f = false≢true (ap (λ l. is_some (look q l)) (sym h) ∙ ap is_some (sym (beyond_told q e)) ∙ f)

    pub first_entry-IsLeast : (a : List ℕ) (r : Option V) → IsLeast (cmp_keys full) (above full a vs) r → option_map entry r ≡ first_entry (entries_above byte_cmp (entries m) a)
    first_entry-IsLeast a None h =
        sym (ap first_entry (filter-none_found nat_list_cmp_total exact_bytes (byte_cmp a) (entries m) (none_beyond byte_cmp nat_list_cmp_total a h)))
    first_entry-IsLeast a (Some v) h =
        sym (first_entry-entries_above_found nat_list_cmp_total exact_bytes a (full v) (entry v).1 (entries m) (entries_sorted m)
        (nearest_found byte_cmp nat_list_cmp_total a v h) (nearest_beyond byte_cmp nat_list_cmp_total a v h) (nearest_bounds byte_cmp nat_list_cmp_total a v h))

    abbrev down : List ℕ → List ℕ → Ordering
    down = flip_args byte_cmp

    pub last_entry-IsLeast : (a : List ℕ) (r : Option V) → IsLeast (flip_args (cmp_keys full)) (below full a vs) r → option_map entry r ≡ last_entry (entries_below byte_cmp (entries m) a)
    last_entry-IsLeast a None h =
        sym (ap last_entry (filter-none_found nat_list_cmp_total exact_bytes (down a) (entries m) (none_beyond down (back_total nat_list_cmp_total) a h)))
    last_entry-IsLeast a (Some v) h =
        let total = back_total nat_list_cmp_total in
        sym (last_below nat_list_cmp_total exact_bytes a (full v) (entry v).1 (entries m) (entries_sorted m)
        (nearest_found down total a v h) (nearest_beyond down total a v h) (nearest_bounds down total a v h))
