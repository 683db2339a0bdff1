-- Ranges between cuts.
--     cuts_rise                                a cut is at most each one behind it
--     after_ops-append, within_in, within_out  one op more, where it falls within and where it does not
--     filled_more                              an op in the one range that covers it
--     install_filled                           filled ranges can be installed in turn, and leave what the ops below each cut make
--     ops_below-zero, below_all                ops below 0, and below all
use Rattle.std.proofs.Common.{◌≡◌, ℕ, ◌+◌, ◌-◌, zero, suc, ◌≤◌, ◌<◌, Bool, true, false, cond, not, ◌&&◌, nat_lt, List, [], ◌∷◌, ◌++◌, length, set, take, Some, inl, inr, append-nil, refl, sym, ap, subst, ◌∙◌, arith}
use Rattle.std.specs.Prelude.{IsTrue, nat_le, filter, slice_index, Result, Ok, Err, OnOk, IfErr}
use Rattle.std.specs.List.{slice_get}
use Rattle.std.proofs.lemmas.Bool.{cases_eq, lt-ltb, ltb-true, le-ltb, ltb-false, leb-true, leb-false}
use Rattle.std.proofs.lemmas.List.Sorted.{IsNonDecreasingBy-from_default}
use Rattle.std.specs.List.Sorted.{IsNonDecreasingBy, IsPartitionPoint}
use Rattle.std.proofs.lemmas.List.{take_all, length-set, get_or-set_same, get_or-set_other}
use Rattle.std.proofs.lemmas.List.Elements.{filter-append}
use Rattle.std.proofs.lemmas.Option.{slice_get_within, slice_get-get_or, get_or_from_slice_get}
use Rattle.std.specs.declared.cmp.Ordering.{Ordering}
use Rattle.std.specs.declared.cmp.Ordering.TheVariants.{Equal}
use Rattle.std.specs.Cmp.{IsTotalOrder}
use Rattle.key_index_flat.specs.declared.index.Fault.{Fault}
use Rattle.key_index_flat.specs.Content.{list_at, with_list, item_count, IsLawful}
use Rattle.key_index_flat.specs.View.{View, items_in}
use Rattle.key_index_flat.proofs.runs.CursorLemmas.{pruned_none}
use Rattle.key_index_flat.proofs.runs.ViewLemmas.{same_view}
use Rattle.key_index_parts.specs.Joined.{joined_view, IsFree, is_between, install_fault}
use Rattle.key_index_parts.specs.Fill.{IsFillFault}
use Rattle.key_index_parts.specs.Ops.{IsCuts, op_key, edit_held, list_after, after_op, after_ops, after_begun, ops_within, ops_below, AreBelow}
use Rattle.key_index_parts.specs.Ranges.{number_of, empty_view, IsFilled, AreFilled, installed, CanInstall, StopsAt, filled_by, built_upto, IsFillingFault, RefusesBuild}
use Rattle.key_index_parts.specs.declared.index.partitioned.builds.op.Op.{Op}
use Rattle.key_index_parts.specs.declared.index.partitioned.builds.op.Op.TheVariants as op
use Rattle.key_index_parts.proofs.pairs.PairLemmas.{filter-none}
use Rattle.key_index_parts.proofs.buckets.JoinedLemmas.{joined-empty}
use Rattle.key_index_parts.proofs.builds.OpLemmas.{join_ops, free_above}
use Rattle.key_index_parts.specs.laws.RangeLaws.{is_between-within}

-- one element more, which is left out or not
filter_out : {X : Type 0} (p : X → Bool) (xs : List X) (x : X) → p x ≡ false → filter p (xs ++ x ∷ []) ≡ filter p xs
filter_out p xs x e = filter-append p xs (x ∷ []) ∙ ap (λ b. filter p xs ++ cond b (x ∷ []) []) e ∙ append-nil (filter p xs)

filter_in : {X : Type 0} (p : X → Bool) (xs : List X) (x : X) → p x ≡ true → filter p (xs ++ x ∷ []) ≡ filter p xs ++ x ∷ []
filter_in p xs x e = filter-append p xs (x ∷ []) ∙ ap (λ b. filter p xs ++ cond b (x ∷ []) []) e

pub not_between_below : (a b n : ℕ) → n < a → is_between a b n ≡ false
not_between_below a b n lt = ap (λ v. not v && nat_lt n b) (lt-ltb n a lt)

pub not_between_above : (a b n : ℕ) → b ≤ n → is_between a b n ≡ false
not_between_above a b n le =
    ap (λ v. not (nat_lt n a) && v) (le-ltb n b le)
    ∙ elim (nat_lt n a) as (λ u. not u && false ≡ false) [ true ↦ refl | false ↦ refl ]

pub cuts_rise : (cuts : List ℕ) (n : ℕ) → IsCuts cuts n → (i d : ℕ) → i + d < length cuts → slice_index cuts i ≤ slice_index cuts (i + d)
cuts_rise cuts n h i zero within = let e : i + 0 ≡ i = omega arith in let same : slice_index cuts (i + 0) ≡ slice_index cuts i = ap (λ j. slice_index cuts j) e in omega (arith, same)
cuts_rise cuts n h i (suc d) within =
    let e : (i + d) + 1 ≡ i + suc d = omega arith in
    let one : slice_index cuts (i + d) < slice_index cuts ((i + d) + 1) = h.ascends (i + d) (omega (arith, within)) in
    let same : slice_index cuts ((i + d) + 1) ≡ slice_index cuts (i + suc d) = ap (λ j. slice_index cuts j) e in
    let rest : slice_index cuts i ≤ slice_index cuts (i + d) = cuts_rise cuts n h i d (omega (arith, within)) in
    omega (arith, one, same, rest)

pub cuts_from : (cuts : List ℕ) (n : ℕ) → IsCuts cuts n → (i j : ℕ) → i ≤ j → j < length cuts → slice_index cuts i ≤ slice_index cuts j
cuts_from cuts n h i j le within =
    let e : i + (j - i) ≡ j = omega (arith, le) in
    subst (λ k. slice_index cuts i ≤ slice_index cuts k) e (cuts_rise cuts n h i (j - i) (omega (arith, e, within)))

-- what is in the range from one cut on isn't in that from another
not_between-other : (cuts : List ℕ) (total : ℕ) → IsCuts cuts total → (i j n : ℕ) → (i ≡ j → ⊥) → i + 1 < length cuts → j + 1 < length cuts → slice_index cuts j ≤ n → n < slice_index cuts (j + 1)
    → is_between (slice_index cuts i) (slice_index cuts (i + 1)) n ≡ false
not_between-other cuts total h i j n other inside within low high = elim (nat_lt i j) as (λ u. nat_lt i j ≡ u → is_between (slice_index cuts i) (slice_index cuts (i + 1)) n ≡ false) [
  | true ↦ λ p. not_between_above _ _ n (omega (arith, cuts_from cuts total h (i + 1) j (omega (arith, ltb-true i j p)) (omega (arith, within)), low))
  | false ↦ λ p. not_between_below _ _ n (omega (arith, cuts_from cuts total h (j + 1) i (omega (arith, ltb-false i j p, other)) (omega (arith, inside)), high))
] refl

pub cuts_rising : (cuts : List ℕ) (n : ℕ) → IsCuts cuts n → IsNonDecreasingBy (λ x. x) cuts
cuts_rising cuts n h = IsNonDecreasingBy-from_default (λ x. x) cuts 0 (λ i j le lt. cuts_from cuts n h i j le lt)

-- the first cut above a number is behind the first of all, and the one in front of it is not above
pub cut_point : (cuts : List ℕ) (n p i : ℕ) → IsCuts cuts n → p < n → i ≤ length cuts → IsPartitionPoint (λ y. nat_le y p ≡ true) (λ y. nat_le y p ≡ false) cuts i
    → (0 < i) × (i < length cuts) × (slice_index cuts (i - 1) ≤ p) × (p < slice_index cuts i)
cut_point cuts n p i h below within point =
    let two = h.two in
    let from : 0 < i = elim (nat_lt 0 i) as (λ b. nat_lt 0 i ≡ b → 0 < i) [
      | true ↦ λ e. ltb-true 0 i e
      | false ↦ λ e. let none = ltb-false 0 i e in let up = leb-false (slice_index cuts 0) p (point.1 0 0 none (omega (arith, two))) in absurd (omega (arith, up, h.starts))
    ] refl in
    let to : i < length cuts = elim (nat_lt i (length cuts)) as (λ b. nat_lt i (length cuts) ≡ b → i < length cuts) [
      | true ↦ λ e. ltb-true i (length cuts) e
      | false ↦ λ e.
          let low = leb-true (slice_index cuts (length cuts - 1)) p (point.0 (length cuts - 1) 0 (omega arith) (omega (arith, ltb-false i (length cuts) e, two))) in
          absurd (omega (arith, low, h.ends, below))
    ] refl in (
      from,
      to,
      leb-true (slice_index cuts (i - 1)) p (point.0 (i - 1) 0 (omega arith) (omega (arith, from))),
      leb-false (slice_index cuts i) p (point.1 i 0 (omega arith) to),
    )

-- what stands elsewhere once an item is set
set_other : {X : Type 0} (xs : List X) (i j : ℕ) (x y : X) → (j ≡ i → ⊥) → slice_get (set xs i x) j ≡ Some y → slice_get xs j ≡ Some y
set_other xs i j x y h e =
    let same = length-set xs i x in
    slice_get-get_or xs j y (omega (arith, slice_get_within (set xs i x) j y e, same)) ∙ ap Some (sym (get_or-set_other xs i j x y h) ∙ get_or_from_slice_get (set xs i x) j y y e)

module _ {K V : Type 0} (cmp : K → K → Ordering) (first : Bool) where
  pub slot-after_ops : (xs : List (Op V)) (s : View K V) → (after_ops cmp first xs s).slot ≡ s.slot
  slot-after_ops [] s = refl
  slot-after_ops (x ∷ xs) s = slot-after_ops xs (after_op cmp first x s)

  pub admitted-after_ops : (xs : List (Op V)) (s : View K V) → (after_ops cmp first xs s).admitted ≡ s.admitted
  admitted-after_ops [] s = refl
  admitted-after_ops (x ∷ xs) s = admitted-after_ops xs (after_op cmp first x s)

  pub after_ops-append : (xs : List (Op V)) (x : Op V) (s : View K V) → after_ops cmp first (xs ++ x ∷ []) s ≡ after_op cmp first x (after_ops cmp first xs s)
  after_ops-append [] x s = refl
  after_ops-append (y ∷ ys) x s = after_ops-append ys x (after_op cmp first y s)

-- what the ops below a number leave
abbrev pub upto : {K V : Type 0} → (K → K → Ordering) → Bool → (K → ℕ) → List (Op V) → View K V → ℕ → View K V
upto cmp first partition ops start a = after_ops cmp first (ops_below (number_of partition start.slot) a ops) start

module _ {R K V : Type 0} {cmp : K → K → Ordering} {first : Bool} {view : R → View K V} {keys : List ℕ → K} {partition : K → ℕ} where
  -- one op more, elsewhere
  filled_other : (ops : List (Op V)) (x : Op V) (a b : ℕ) (r : R) → is_between a b (number_of partition keys (op_key x)) ≡ false
      → IsFilled cmp first view keys partition ops a b r → IsFilled cmp first view keys partition (ops ++ x ∷ []) a b r
  filled_other ops x a b r out was = record { holds = was.holds ∙ ap (λ l. after_ops cmp first l (empty_view keys (λ k. is_between a b (partition k)))) (sym (filter_out _ ops x out)) }

  -- and here
  filled_here : (ops : List (Op V)) (x : Op V) (a b : ℕ) (r n : R) → is_between a b (number_of partition keys (op_key x)) ≡ true
      → view n ≡ after_op cmp first x (view r)
      → IsFilled cmp first view keys partition ops a b r → IsFilled cmp first view keys partition (ops ++ x ∷ []) a b n
  filled_here ops x a b r n inside fills was =
      let none = empty_view keys (λ k. is_between a b (partition k)) in
      record { holds = fills ∙ ap (λ s. after_op cmp first x s) was.holds ∙ sym (after_ops-append cmp first (ops_within (number_of partition keys) a b ops) x none) ∙ ap (λ l. after_ops cmp first l none) (sym (filter_in _ ops x inside)) }

  -- the keys and the partitions of a filled range
  pub filled_slot : (ops : List (Op V)) (a b : ℕ) (r : R) → IsFilled cmp first view keys partition ops a b r → (view r).slot ≡ keys
  filled_slot ops a b r is = ap (λ s. s.slot) is.holds ∙ slot-after_ops cmp first (ops_within (number_of partition keys) a b ops) (empty_view keys (λ k. is_between a b (partition k)))

  pub filled_covers : (ops : List (Op V)) (a b : ℕ) (r : R) → IsFilled cmp first view keys partition ops a b r → (k : K) → (view r).admitted k ≡ is_between a b (partition k)
  filled_covers ops a b r is k = ap (λ s. s.admitted k) is.holds ∙ ap (λ f. f k) (admitted-after_ops cmp first (ops_within (number_of partition keys) a b ops) (empty_view keys (λ q. is_between a b (partition q))))

  pub filled_more : (cuts : List ℕ) (total : ℕ) → IsCuts cuts total → (ops : List (Op V)) (x : Op V) (ranges : List R) (j : ℕ) (r n : R)
      → j + 1 < length cuts → slice_index cuts j ≤ number_of partition keys (op_key x) → number_of partition keys (op_key x) < slice_index cuts (j + 1)
      → slice_get ranges j ≡ Some r
      → view n ≡ after_op cmp first x (view r)
      → AreFilled cmp first view keys partition ops cuts ranges → AreFilled cmp first view keys partition (ops ++ x ∷ []) cuts (set ranges j n)
  filled_more cuts total lawful ops x ranges j r n within low high here fills was = record {
    long = ap (λ m. m + 1) (length-set ranges j n) ∙ was.long;
    each = λ i y e. elim (cases_eq i j) [
      | inl same ↦
          let is : n ≡ y = sym (get_or-set_same ranges j n n (slice_get_within ranges j r here)) ∙ get_or_from_slice_get (set ranges j n) j y n (ap (λ m. slice_get (set ranges j n) m) (sym same) ∙ e) in
          subst (λ m. IsFilled cmp first view keys partition (ops ++ x ∷ []) (slice_index cuts m) (slice_index cuts (m + 1)) y) (sym same)
          (subst (λ m. IsFilled cmp first view keys partition (ops ++ x ∷ []) (slice_index cuts j) (slice_index cuts (j + 1)) m) is
          (filled_here ops x _ _ r n (is_between-within _ _ (number_of partition keys (op_key x)) low high) fills (was.each j r here)))
      | inr other ↦
          let old = set_other ranges j i n y other e in
          filled_other ops x _ _ y (not_between-other cuts total lawful i j (number_of partition keys (op_key x)) other (omega (arith, slice_get_within ranges i y old, was.long)) within low high) (was.each i y old)
    ];
  }

module _ {R K V : Type 0} {cmp : K → K → Ordering} {first : Bool} {view : R → View K V} {partition : K → ℕ} where
  module _ (o : IsTotalOrder cmp) (exact : (x y : K) → cmp x y ≡ Equal → x ≡ y) (ops : List (Op V)) (start : View K V) (lawful : IsLawful cmp start.content) where
    installs_one : (a b : ℕ) (r : R) → a ≤ b → IsFree cmp (λ k. not (nat_lt (partition k) a)) start.content → IsFilled cmp first view start.slot partition ops a b r → joined_view cmp (upto cmp first partition ops start a) (view r) ≡ upto cmp first partition ops start b
    installs_one a b r le free is =
        ap (λ t. joined_view cmp (upto cmp first partition ops start a) t) is.holds
        ∙ join_ops first o exact partition a b le ops start (empty_view start.slot (λ k. is_between a b (partition k))) refl lawful (tt, tt) free (λ k h. refl)
        ∙ ap (λ s. after_ops cmp first (ops_below (number_of partition start.slot) b ops) s) (λ i. record start { content = joined-empty o exact start.content lawful i; pruned = sym (pruned_none start.pruned) i })

    finds_empty : (a b : ℕ) (r : R) → IsFree cmp (λ k. not (nat_lt (partition k) a)) start.content → IsFilled cmp first view start.slot partition ops a b r → IsFree cmp (view r).admitted (upto cmp first partition ops start a).content
    finds_empty a b r free is k in_range =
        free_above first o exact partition a ops start free k
        (elim (nat_lt (partition k) a) as (λ u. not u && nat_lt (partition k) b ≡ true → not u ≡ true) [ true ↦ λ e. e | false ↦ λ e. refl ] (sym (filled_covers ops a b r is k) ∙ in_range))

    -- cut: the numbers from which the ranges go
    pub install_from : (cut : ℕ → ℕ) (i : ℕ) (ranges : List R) → ((j : ℕ) → IsFree cmp (λ k. not (nat_lt (partition k) j)) start.content)
        → ((j : ℕ) (r : R) → slice_get ranges j ≡ Some r → IsFilled cmp first view start.slot partition ops (cut (i + j)) (cut (i + j + 1)) r)
        → ((j : ℕ) → j < length ranges → cut (i + j) ≤ cut (i + j + 1))
        → CanInstall cmp view ranges (upto cmp first partition ops start (cut i)) × ((n : ℕ) → n ≤ length ranges → installed cmp view (take n ranges) (upto cmp first partition ops start (cut i)) ≡ upto cmp first partition ops start (cut (i + n)))
    install_from cut i [] free each rise = (tt, λ n le. let none : n ≡ 0 = omega (arith, le) in let e : i ≡ i + n = omega (arith, none) in (λ t. installed cmp view (take (none t) []) (upto cmp first partition ops start (cut i))) ∙ ap (λ m. upto cmp first partition ops start (cut m)) e)
    install_from cut i (r ∷ rs) free each rise =
        let here : i + 0 ≡ i = omega arith in
        let next : i + 0 + 1 ≡ i + 1 = omega arith in
        let shift : (j : ℕ) → i + suc j ≡ (i + 1) + j = λ j. omega arith in
        let is : IsFilled cmp first view start.slot partition ops (cut i) (cut (i + 1)) r =
        subst (λ m. IsFilled cmp first view start.slot partition ops (cut i) (cut m) r) next (subst (λ m. IsFilled cmp first view start.slot partition ops (cut m) (cut (i + 0 + 1)) r) here (each 0 r refl)) in
        let up : cut i ≤ cut (i + 1) = subst (λ m. cut i ≤ cut m) next (subst (λ m. cut m ≤ cut (i + 0 + 1)) here (rise 0 (omega arith))) in
        let step : joined_view cmp (upto cmp first partition ops start (cut i)) (view r) ≡ upto cmp first partition ops start (cut (i + 1)) = installs_one (cut i) (cut (i + 1)) r up (free (cut i)) is in
        let rest = install_from cut (i + 1) rs free
        (λ j x e. subst (λ m. IsFilled cmp first view start.slot partition ops (cut m) (cut (m + 1)) x) (shift j) (each (suc j) x e))
        (λ j lt. subst (λ m. cut m ≤ cut (m + 1)) (shift j) (rise (suc j) (omega (arith, lt)))) in (
          (finds_empty (cut i) (cut (i + 1)) r (free (cut i)) is, subst (λ s. CanInstall cmp view rs s) (sym step) rest.0),
          elim [
            | zero ↦ λ le. ap (λ m. upto cmp first partition ops start (cut m)) (sym here)
            | suc n ↦ λ le. ap (λ s. installed cmp view (take n rs) s) step ∙ rest.1 n (omega (arith, le)) ∙ ap (λ m. upto cmp first partition ops start (cut m)) (sym (shift n))
          ],
        )

pub ops_below-zero : {V : Type 0} (number : List ℕ → ℕ) (ops : List (Op V)) → ops_below number 0 ops ≡ []
ops_below-zero number ops = let none : (n : ℕ) → nat_lt n 0 ≡ false = λ n. le-ltb n 0 (omega arith) in filter-none _ ops (λ j d l. none _)

pub below_all : {V : Type 0} (number : List ℕ → ℕ) (n : ℕ) (ops : List (Op V)) → AreBelow number n ops → ops_below number n ops ≡ ops
below_all number n [] h = refl
below_all number n (x ∷ xs) h = ap (λ b. cond b (x ∷ ops_below number n xs) (ops_below number n xs)) (lt-ltb _ _ h.0) ∙ ap (λ l. x ∷ l) (below_all number n xs h.1)

pub below_more : {V : Type 0} (number : List ℕ → ℕ) (n : ℕ) (ops : List (Op V)) (x : Op V) → AreBelow number n ops → number (op_key x) < n → AreBelow number n (ops ++ x ∷ [])
below_more number n [] x h lt = (lt, tt)
below_more number n (y ∷ ys) x h lt = (h.0, below_more number n ys x h.1 lt)

module _ {R K V : Type 0} (cmp : K → K → Ordering) (view : R → View K V) where
  pub installed-append : (rs : List R) (r : R) (s : View K V) → installed cmp view (rs ++ r ∷ []) s ≡ joined_view cmp (installed cmp view rs s) (view r)
  installed-append [] r s = refl
  installed-append (x ∷ xs) r s = installed-append xs r (joined_view cmp s (view x))

-- one item more at the end
pub get_append : {X : Type 0} (P : ℕ → X → Type 0) (xs : List X) (x : X) → ((i : ℕ) (y : X) → slice_get xs i ≡ Some y → P i y) → P (length xs) x → (i : ℕ) (y : X) → slice_get (xs ++ x ∷ []) i ≡ Some y → P i y
get_append P [] x each last zero y e = let same : x ≡ y = cc e in subst (λ z. P 0 z) same last
get_append P [] x each last (suc i) y e = absurd (cc e)
get_append P (z ∷ zs) x each last zero y e = each 0 y e
get_append P (z ∷ zs) x each last (suc i) y e = get_append (λ j w. P (suc j) w) zs x (λ j w q. each (suc j) w q) last i y e

module _ {R K V : Type 0} {cmp : K → K → Ordering} {first : Bool} {view : R → View K V} {keys : List ℕ → K} {partition : K → ℕ} where
  -- a new range
  pub filled_none : (a b : ℕ) (r : R) → (view r).slot ≡ keys → ((k : K) → (view r).admitted k ≡ is_between a b (partition k)) → (view r).content ≡ [] → (view r).pruned ≡ 0 → IsFilled cmp first view keys partition [] a b r
  filled_none a b r slots covers empty nothing = record { holds = same_view empty nothing slots (λ i k. covers k i) }

module _ {R K V : Type 0} {cmp : K → K → Ordering} {first : Bool} {view : R → View K V} {partition : K → ℕ} where
  pub install_filled : IsTotalOrder cmp → ((x y : K) → cmp x y ≡ Equal → x ≡ y) → (cuts : List ℕ) (total : ℕ) → IsCuts cuts total → (ops : List (Op V)) (ranges : List R) (start : View K V) → start.content ≡ []
      → AreFilled cmp first view start.slot partition ops cuts ranges
      → CanInstall cmp view ranges start × ((n : ℕ) → n ≤ length ranges → installed cmp view (take n ranges) start ≡ upto cmp first partition ops start (slice_index cuts n))
  install_filled o exact cuts total lawful ops ranges start empty are =
      let none : upto cmp first partition ops start (slice_index cuts 0) ≡ start = ap (λ a. upto cmp first partition ops start a) lawful.starts ∙ ap (λ l. after_ops cmp first l start) (ops_below-zero (number_of partition start.slot) ops) in
      let shift : (j : ℕ) → j ≡ 0 + j = λ j. omega arith in
      let all = install_from {view = view} {partition = partition} o exact ops start (subst (λ c. IsLawful cmp c) (sym empty) (tt, tt)) (λ j. slice_index cuts j) 0 ranges
      (λ j k h. ap (λ c. list_at cmp c k) empty)
      (λ j r e. subst (λ m. IsFilled cmp first view start.slot partition ops (slice_index cuts m) (slice_index cuts (m + 1)) r) (shift j) (are.each j r e))
      (λ j lt. subst (λ m. slice_index cuts m ≤ slice_index cuts (m + 1)) (shift j) (cuts_from cuts total lawful j (j + 1) (omega arith) (omega (arith, are.long, lt)))) in (
        subst (λ s. CanInstall cmp view ranges s) none all.0,
        λ n le. ap (λ s. installed cmp view (take n ranges) s) (sym none) ∙ all.1 n le ∙ ap (λ m. upto cmp first partition ops start (slice_index cuts m)) (sym (shift n)),
      )

pub on_ok_map : {A E : Type 0} {P Q : Type 0} (r : Result A E) → (P → Q) → OnOk r P → OnOk r Q
on_ok_map (Ok a) f p = f p
on_ok_map (Err e) f p = tt

module _ {K V : Type 0} (cmp : K → K → Ordering) (first : Bool) where
  -- what ops make of a content, whatever was pruned and is admitted
  content-after_op : (x : Op V) (s t : View K V) → s.content ≡ t.content → s.slot ≡ t.slot → (after_op cmp first x s).content ≡ (after_op cmp first x t).content
  content-after_op x s t c l = λ i. with_list cmp (c i) (l i (op_key x)) (list_after first x (list_at cmp (c i) (l i (op_key x))))

  content-after_ops : (xs : List (Op V)) (s t : View K V) → s.content ≡ t.content → s.slot ≡ t.slot → (after_ops cmp first xs s).content ≡ (after_ops cmp first xs t).content
  content-after_ops [] s t c l = c
  content-after_ops (x ∷ xs) s t c l = content-after_ops xs (after_op cmp first x s) (after_op cmp first x t) (content-after_op x s t c l) l

  content-after_begun : (n : ℕ) (x : Op V) (s t : View K V) → s.content ≡ t.content → s.slot ≡ t.slot → (after_begun cmp n x s).content ≡ (after_begun cmp n x t).content
  content-after_begun n (op.Insert key v) s t c l = c
  content-after_begun n (op.GetOrInsert key v) s t c l = c
  content-after_begun n (op.Edit key steps) s t c l = λ i. with_list cmp (c i) (l i key.items) (edit_held (take n steps.items) (list_at cmp (c i) (l i key.items))).items

module _ {R K V : Type 0} {cmp : K → K → Ordering} {first : Bool} {view : R → View K V} {partition : K → ℕ} (cuts : List ℕ) (ops : List (Op V)) (start : View K V) (empty : start.content ≡ []) (place : ℕ) (done : List (Op V)) (r : R)
    (is : IsFilled cmp first view start.slot partition done (slice_index cuts place) (slice_index cuts (place + 1)) r) where
  content-filled : (filled_by cmp first partition cuts ops start place done).content ≡ (view r).content
  content-filled =
      let a = slice_index cuts place in
      let b = slice_index cuts (place + 1) in
      content-after_ops cmp first (ops_within (number_of partition start.slot) a b done) start (empty_view start.slot (λ k. is_between a b (partition k))) empty refl ∙ ap (λ s. s.content) (sym is.holds)

  -- an op that a range refuses
  pub fills_up : (rest : List (Op V)) (x : Op V) (fault : Fault) → done ++ x ∷ rest ≡ ops → place + 1 < length cuts → IsTrue (is_between (slice_index cuts place) (slice_index cuts (place + 1)) (number_of partition start.slot (op_key x))) → IsFillFault fault (λ n. after_begun cmp n x (view r))
      → IsFillingFault cmp first partition cuts ops start fault
  fills_up rest x fault split among goes (inl want) = inl want
  fills_up rest x fault split among goes (inr full) = inr (
    full.0,
    record {
      done = done;
      next = x;
      rest = rest;
      steps = full.1;
      place = place;
      split = split;
      among = among;
      goes = goes;
      full =
          ap (λ c. item_count c) (content-after_begun cmp first full.1 x (filled_by cmp first partition cuts ops start place done) (view r) content-filled
          (slot-after_ops cmp first (ops_within (number_of partition start.slot) (slice_index cuts place) (slice_index cuts (place + 1)) done) start ∙ sym (filled_slot done (slice_index cuts place) (slice_index cuts (place + 1)) r is)))
          ∙ full.2;
    },
  )

module _ {R K V : Type 0} {cmp : K → K → Ordering} {first : Bool} {view : R → View K V} {partition : K → ℕ}
    (o : IsTotalOrder cmp) (exact : (x y : K) → cmp x y ≡ Equal → x ≡ y) (cuts : List ℕ) (total : ℕ) (lawful : IsCuts cuts total) (ops : List (Op V)) (ranges : List R) (start : View K V) (empty : start.content ≡ [])
    (are : AreFilled cmp first view start.slot partition ops cuts ranges) where
  pub build_done : AreBelow (number_of partition start.slot) total ops → (all : List R) → all ≡ ranges → (answer : Result (Unit {0}) Fault) (after : View K V)
      → OnOk answer (after ≡ installed cmp view all start) → OnOk answer (after ≡ after_ops cmp first ops start)
  build_done below all same answer after said =
      let last : length ranges ≡ length cuts - 1 = omega (arith, are.long) in
      let each = (install_filled o exact cuts total lawful ops ranges start empty are).1 (length ranges) (omega arith) in
      let is : installed cmp view all start ≡ after_ops cmp first ops start =
      ap (λ l. installed cmp view l start) (same ∙ sym (take_all (length ranges) ranges (omega arith))) ∙ each
      ∙ ap (λ n. after_ops cmp first (ops_below (number_of partition start.slot) n ops) start) (ap (λ i. slice_index cuts i) last ∙ lawful.ends) ∙ ap (λ l. after_ops cmp first l start) (below_all (number_of partition start.slot) total ops below) in
      on_ok_map {P = after ≡ installed cmp view all start} answer (λ e. e ∙ is) said

  pub build_refused : (all : List R) → all ≡ ranges → (answer : Result (Unit {0}) Fault) (after : View K V)
      → IfErr answer (StopsAt cmp view all start after) → IfErr answer (RefusesBuild cmp first partition cuts ops start after)
  build_refused all same (Ok a) after said = tt
  build_refused all same (Err fault) after said =
      let n = said.count in
      let found = ap (λ l. slice_get l n) (sym same) ∙ said.found in
      let lt = slice_get_within ranges n said.refused found in
      let left : after ≡ built_upto cmp first partition cuts ops start n =
      said.left ∙ ap (λ l. installed cmp view (take n l) start) same ∙ (install_filled o exact cuts total lawful ops ranges start empty are).1 n (omega (arith, lt)) in
      let items : items_in (view said.refused) ≡ items_in (filled_by cmp first partition cuts ops start n ops) =
      ap (λ c. item_count c) (sym (content-filled cuts ops start empty n ops said.refused (are.each n said.refused found))) in
      inr (n, omega (arith, lt, are.long), left, said.why ∙ (λ i. install_fault (items_in (left i)) (items i)))
