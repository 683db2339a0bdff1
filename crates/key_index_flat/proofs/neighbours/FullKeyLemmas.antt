-- On full keys in an index that keeps their order: in a filed content, what a list and its neighbour have is what all lists have.
--     beside_of_filed, end_of_filed     the candidate on a side is the nearest among all values
--     filed_first, filed_rest           the first list of a filed content, and the others
--     side_total, nearest_total         the order of a side is total, and that of values by it
--     least_own                         the least of a list that has one, where another stands behind it
--     first_with-anywhere               the first value of all that has a full key is the first of the key's own list
use Rattle.std.proofs.Common.{◌≡◌, ℕ, Bool, true, false, cond, T, List, [], ◌∷◌, ◌++◌, Option, Some, None, unwrap_or, All, append_assoc, append-nil, length, length-append, arith, refl, sym, ap, subst, ◌∙◌}
use Rattle.std.proofs.lemmas.Bool.{false≢true}
use Rattle.std.proofs.lemmas.List.Elements.{All-nil, All-cons, All-head, All-tail, All-append, All-weaker, All-filter, filter-append, filter_passes}
use Rattle.std.specs.declared.cmp.Ordering.{Ordering}
use Rattle.std.specs.declared.cmp.Ordering.TheVariants.{Less, Equal, Greater}
use Rattle.std.specs.Ordering.{is_lt, is_eq, is_gt, on, ordering_reverse}
use Rattle.std.specs.Cmp.{IsTotalOrder, tied_itself, on_total, back_total}
use Rattle.std.specs.Cmp.Lexicographic.{nat_list_cmp_total}
use Rattle.std.specs.List.{filter, last_or}
use Rattle.std.proofs.lemmas.List.Folds.{find-append}
use Rattle.std.proofs.lemmas.Slice.Eq.{bytes_eq-Decides}
use Rattle.std.specs.Option.{option_map, option_or}
use Rattle.std.specs.Str.{bytes_eq}
use Rattle.std.specs.FinMap.{find, is_sorted}
use Rattle.std.specs.FinMap.Entries.{below_all, is_sorted-where_key}
use Rattle.key_index_flat.specs.Content.{Content, is_filled, list_at, IsLawful}
use Rattle.key_index_flat.specs.FullKeys.{IsBytes, byte_cmp, IsLeast, IsNearest, first_with, or_list, unflagged, cmp_keys, beyond, IsFiled, IsFullBeside, IsFullEnd, IsEndCandidate}
use Rattle.key_index_flat.specs.Values.{values_of}
use Rattle.key_index_flat.specs.laws.Laws.{T-and_first, T-and_second, all_filled-where_key}
use Rattle.key_index_flat.specs.Neighbours.{KeepsOrder, beside_list, end_list, side_cmp}
use Rattle.key_index_flat.proofs.content.ContentLemmas.{list_at-below_all, Less-is_lt, Equal-is_eq}
use Rattle.key_index_flat.proofs.neighbours.HeldLemmas.{All-append_front, All-append_behind, unflagged-beside_list}
use Rattle.key_index_flat.proofs.neighbours.LeastLemmas.{IsLeast-front, IsLeast-back, least_has}

-- each value of a list passes a test, or none does
filter-all_pass : {X : Type 0} (p : X → Bool) (l : List X) → All (λ x. p x ≡ true) l → filter p l ≡ l
filter-all_pass p [] h = refl
filter-all_pass p (x ∷ xs) h =
    ap (λ b. cond b (x ∷ filter p xs) (filter p xs)) (All-head (λ x. p x ≡ true) x xs h) ∙ ap (λ l. x ∷ l) (filter-all_pass p xs (All-tail (λ x. p x ≡ true) x xs h))

filter-none_pass : {X : Type 0} (p : X → Bool) (l : List X) → All (λ x. p x ≡ false) l → filter p l ≡ []
filter-none_pass p [] h = refl
filter-none_pass p (x ∷ xs) h =
    ap (λ b. cond b (x ∷ filter p xs) (filter p xs)) (All-head (λ x. p x ≡ false) x xs h) ∙ filter-none_pass p xs (All-tail (λ x. p x ≡ false) x xs h)

is_lt-reverse_less : (r : Ordering) → r ≡ Less → is_lt (ordering_reverse r) ≡ false
is_lt-reverse_less r e = ap (λ x. is_lt (ordering_reverse x)) e

cons_not_nil : {V : Type 0} (x : V) (xs : List V) → x ∷ xs ≡ [] → ⊥
cons_not_nil x xs e = cc

not_filled : {V : Type 0} (l : List V) → T (is_filled l) → l ≡ [] → ⊥
not_filled [] h e = h
not_filled (x ∷ xs) h e = cons_not_nil x xs e

not_filled_front : {V : Type 0} (l m : List V) → T (is_filled l) → l ++ m ≡ [] → ⊥
not_filled_front [] m h e = h
not_filled_front (x ∷ xs) m h e = cons_not_nil x (xs ++ m) e

-- the first list of a filed content, and the others
module _ {K V : Type 0} {cmp : K → K → Ordering} (o : IsTotalOrder cmp) (full_key : V → List ℕ) (slot : List ℕ → K) where
  pub filed_first : (e : K × List V) (es : Content K V) → IsFiled full_key cmp slot (e ∷ es) → All (λ v. IsBytes (full_key v) × (slot (full_key v) ≡ e.0)) e.1
  filed_first e es f =
      subst (λ r. All (λ v. IsBytes (full_key v) × (slot (full_key v) ≡ e.0)) (unwrap_or (cond (is_eq r) (Some e.1) (find cmp e.0 es)) [])) (tied_itself o e.0) (f e.0)

  pub filed_rest : (e : K × List V) (es : Content K V) → T (below_all cmp e.0 es) → IsFiled full_key cmp slot (e ∷ es) → IsFiled full_key cmp slot es
  filed_rest e es h f = λ k.
      let Under : V → Type 0 = λ v. IsBytes (full_key v) × (slot (full_key v) ≡ k) in
      elim (cmp k e.0) as (λ r. cmp k e.0 ≡ r → All Under (unwrap_or (cond (is_eq r) (Some e.1) (find cmp k es)) []) → All Under (list_at cmp es k)) [
        | Less ↦ λ p x. x
        | Equal ↦ λ p x. subst (All Under) (sym (list_at-below_all o k e.0 es (λ y q. o.congr k e.0 y p ∙ q) h)) (All-nil Under)
        | Greater ↦ λ p x. x
      ] refl (f k)

-- a full key is held where it is held in its own list
module _ {K V : Type 0} {cmp : K → K → Ordering} (o : IsTotalOrder cmp) (full_key : V → List ℕ) (slot : List ℕ → K) (a : List ℕ) where
  first_with-other_slot : (x : K) (l : List V) → All (λ v. IsBytes (full_key v) × (slot (full_key v) ≡ x)) l → ((slot a ≡ x) → ⊥) → first_with full_key a l ≡ None
  first_with-other_slot x [] h other = refl
  first_with-other_slot x (v ∷ vs) h other =
      let Under : V → Type 0 = λ v. IsBytes (full_key v) × (slot (full_key v) ≡ x) in
      elim (bytes_eq (full_key v) a) as (λ b. bytes_eq (full_key v) a ≡ b → cond b (Some v) (first_with full_key a vs) ≡ None) [
        | true ↦ λ e. absurd (other (ap slot (sym ((bytes_eq-Decides (full_key v) a).0 e)) ∙ (All-head Under v vs h).1))
        | false ↦ λ e. first_with-other_slot x vs (All-tail Under v vs h) other
      ] refl

  pub first_with-anywhere : (c : Content K V) → T (is_sorted cmp c) → IsFiled full_key cmp slot c → first_with full_key a (values_of c) ≡ first_with full_key a (list_at cmp c (slot a))
  first_with-anywhere [] h f = refl
  first_with-anywhere (e ∷ es) h f =
      let k = slot a in
      let rest = first_with-anywhere es (T-and_second _ _ h) (filed_rest o full_key slot e es (T-and_first _ _ h) f) in
      let mine = filed_first o full_key slot e es f in
      let not_here : (cmp k e.0 ≡ Equal → ⊥) → first_with full_key a e.1 ≡ None = λ n. first_with-other_slot e.0 e.1 mine (λ s. n (ap (λ x. cmp x e.0) s ∙ tied_itself o e.0)) in
      find-append (λ v. bytes_eq (full_key v) a) e.1 (values_of es)
      ∙ elim (cmp k e.0) as (λ r. cmp k e.0 ≡ r → option_or (first_with full_key a e.1) (first_with full_key a (values_of es)) ≡ first_with full_key a (unwrap_or (cond (is_eq r) (Some e.1) (find cmp k es)) [])) [
        | Less ↦ λ p. (λ i. option_or (not_here (λ q. less_not_equal (sym p ∙ q)) i) (rest i))
        | Equal ↦ λ p. ap (λ r. option_or (first_with full_key a e.1) r) (rest ∙ ap (first_with full_key a) (list_at-below_all o k e.0 es (λ y q. o.congr k e.0 y p ∙ q) (T-and_first _ _ h))) ∙ option_or_none (first_with full_key a e.1)
        | Greater ↦ λ p. (λ i. option_or (not_here (λ q. greater_not_equal (sym p ∙ q)) i) (rest i))
      ] refl
    where
      less_not_equal : Less ≡ Equal → ⊥
      less_not_equal e = cc

      greater_not_equal : Greater ≡ Equal → ⊥
      greater_not_equal e = cc

      option_or_none : (r : Option V) → option_or r None ≡ r
      option_or_none None = refl
      option_or_none (Some v) = refl

-- the order of a side of a key
pub side_total : {X : Type 0} {R : X → X → Ordering} (s : Bool) → IsTotalOrder R → IsTotalOrder (side_cmp s R)
side_total true o = o
side_total false o = back_total o

pub nearest_total : {V : Type 0} (full_key : V → List ℕ) (s : Bool) → IsTotalOrder (on full_key (side_cmp s byte_cmp))
nearest_total full_key s = on_total full_key (side_total s nat_list_cmp_total)

module _ {K V : Type 0} {cmp : K → K → Ordering} (o : IsTotalOrder cmp) (full_key : V → List ℕ) (slot : List ℕ → K) (keeps : KeepsOrder cmp slot) where
  -- a value that stands under its own index key
  abbrev FiledUnder : K → V → Type 0
  FiledUnder k v = IsBytes (full_key v) × (slot (full_key v) ≡ k)

  abbrev Filed : Content K V → Type 0
  Filed [] = Unit {0}
  Filed (e ∷ es) = All (FiledUnder e.0) e.1 × Filed es

  filed_entries : (c : Content K V) → T (is_sorted cmp c) → IsFiled full_key cmp slot c → Filed c
  filed_entries [] h f = tt
  filed_entries (e ∷ es) h f = (filed_first o full_key slot e es f, filed_entries es (T-and_second _ _ h) (filed_rest o full_key slot e es (T-and_first _ _ h) f))

  filed_where : (p : K → Bool) (c : Content K V) → Filed c → Filed (filter (λ e. p e.0) c)
  filed_where p [] f = tt
  filed_where p (e ∷ es) f =
      elim (p e.0) as (λ b. Filed (cond b (e ∷ filter (λ e. p e.0) es) (filter (λ e. p e.0) es))) [
        | true ↦ (f.0, filed_where p es f.1)
        | false ↦ filed_where p es f.1
      ]

  -- a key whose index key comes before another's comes before it
  less_by_slot : (a b : List ℕ) → IsBytes a → IsBytes b → cmp (slot a) (slot b) ≡ Less → byte_cmp a b ≡ Less
  less_by_slot a b p q e =
      let back : is_gt (cmp (slot b) (slot a)) ≡ true = ap is_gt (o.antisymm (slot b) (slot a) ∙ ap ordering_reverse e) in
      let never : is_gt (byte_cmp b a) ≡ false → ⊥ = λ h. false≢true (sym (keeps b a q p h) ∙ back) in
      let turn : byte_cmp b a ≡ ordering_reverse (byte_cmp a b) = nat_list_cmp_total.antisymm b a in
      elim (byte_cmp a b) as (λ r. byte_cmp b a ≡ ordering_reverse r → r ≡ Less) [
        | Less ↦ λ t. refl
        | Equal ↦ λ t. absurd (never (ap is_gt t))
        | Greater ↦ λ t. absurd (never (ap is_gt t))
      ] turn

  less_by_side : (s : Bool) (a b : List ℕ) → IsBytes a → IsBytes b → side_cmp s cmp (slot a) (slot b) ≡ Less → side_cmp s byte_cmp a b ≡ Less
  less_by_side true a b p q e = less_by_slot a b p q e
  less_by_side false a b p q e = less_by_slot b a q p e

  -- a value comes before those of the entries behind its own
  before_all : (s : Bool) (x : K) (v : V) → FiledUnder x v → (es : Content K V) → All (λ e. is_lt (side_cmp s cmp x e.0) ≡ true) es → Filed es → All (λ w. on full_key (side_cmp s byte_cmp) v w ≡ Less) (values_of es)
  before_all s x v u [] h f = All-nil (λ w. on full_key (side_cmp s byte_cmp) v w ≡ Less)
  before_all s x v u (e ∷ es) h f =
      let Before : V → Type 0 = λ w. on full_key (side_cmp s byte_cmp) v w ≡ Less in
      let Behind : K × List V → Type 0 = λ e. is_lt (side_cmp s cmp x e.0) ≡ true in
      let less : side_cmp s cmp x e.0 ≡ Less = Less-is_lt _ (subst T (sym (All-head Behind e es h)) tt) in
      All-append Before e.1 (values_of es)
      (All-weaker (FiledUnder e.0) Before (λ w t. less_by_side s (full_key v) (full_key w) u.0 t.0 ((λ i. side_cmp s cmp (u.1 i) (t.1 i)) ∙ less)) e.1 f.0)
      (before_all s x v u es (All-tail Behind e es h) f.1)

  behind : (x : K) (es : Content K V) → T (below_all cmp x es) → All (λ e. is_lt (cmp x e.0) ≡ true) es
  behind x [] h = All-nil (λ e. is_lt (cmp x e.0) ≡ true)
  behind x (e ∷ es) h = All-cons (λ e. is_lt (cmp x e.0) ≡ true) e es (ap is_lt (Less-is_lt _ (T-and_first _ _ h))) (behind x es (T-and_second _ _ h))

  last_of_all : (e : K × List V) (es : Content K V) (r : Option V) → IsLawful cmp (e ∷ es) → Filed (e ∷ es) → IsNearest full_key false (unwrap_or (option_map (λ e. e.1) (last_or (Some e) es)) []) r → IsNearest full_key false (values_of (e ∷ es)) r
  last_of_all e [] r h f least = subst (λ l. IsNearest full_key false l r) (sym (append-nil e.1)) least
  last_of_all e (g ∷ gs) None h f least =
      let rest = last_of_all g gs None (T-and_second _ _ h.0, T-and_second _ _ h.1) f.1 least in
      absurd (not_filled_front g.1 (values_of gs) (T-and_first _ _ (T-and_second (is_filled e.1) _ h.1)) rest)
  last_of_all e (g ∷ gs) (Some v) h f least =
      let rest = last_of_all g gs (Some v) (T-and_second _ _ h.0, T-and_second _ _ h.1) f.1 least in
      let keys = nearest_total full_key false in
      let before : (w : V) → FiledUnder e.0 w → cmp_keys full_key w v ≡ Less = λ w u. least_has keys (λ x. cmp_keys full_key w x ≡ Less) (values_of (g ∷ gs)) v rest (before_all true e.0 w u (g ∷ gs) (behind e.0 (g ∷ gs) (T-and_first _ _ h.0)) f.1) in
      IsLeast-back keys (values_of (g ∷ gs)) e.1 v rest (All-weaker (FiledUnder e.0) (λ w. cmp_keys full_key w v ≡ Less) before e.1 f.0)

  end_of_all : (s : Bool) (c : Content K V) (r : Option V) → IsLawful cmp c → Filed c → IsEndCandidate full_key s c r → IsFullEnd full_key s c r
  end_of_all true [] r h f least = least
  end_of_all true (e ∷ es) None h f least = absurd (not_filled e.1 (T-and_first _ _ h.1) least)
  end_of_all true (e ∷ es) (Some v) h f least =
      let keys = nearest_total full_key true in
      IsLeast-front keys e.1 (values_of es) v least (before_all true e.0 v (least_has keys (FiledUnder e.0) e.1 v least f.0) es (behind e.0 es (T-and_first _ _ h.0)) f.1)
  end_of_all false [] r h f least = least
  end_of_all false (e ∷ es) r h f least = last_of_all e es r h f least

  pub end_of_filed : (s : Bool) (c : Content K V) (r : Option V) → IsLawful cmp c → IsFiled full_key cmp slot c → IsEndCandidate full_key s c r → IsFullEnd full_key s c r
  end_of_filed s c r h f least = end_of_all s c r h (filed_entries c h.0 f) least

  -- its own list, with what is on a side of it in front and behind
  own_or_end : (s : Bool) (k : K) (own front back : List V) (d : Content K V) (r : Option V) → All (FiledUnder k) own → All (λ e. is_lt (side_cmp s cmp k e.0) ≡ true) d → IsLawful cmp d → Filed d → values_of d ≡ front ++ back
      → IsNearest full_key s (or_list own (unwrap_or (end_list s d) [])) r → IsNearest full_key s (front ++ (own ++ back)) r
  own_or_end s k [] front back d r u b h f is least = subst (λ l. IsNearest full_key s l r) is (end_of_all s d r h f least)
  own_or_end s k (x ∷ xs) front back d None u b h f is least = absurd (cons_not_nil x xs least)
  own_or_end s k (x ∷ xs) front back d (Some v) u b h f is least =
      let keys = nearest_total full_key s in
      let Before : V → Type 0 = λ w. on full_key (side_cmp s byte_cmp) v w ≡ Less in
      let others = subst (All Before) is (before_all s k v (least_has keys (FiledUnder k) (x ∷ xs) v least u) d b f) in
      IsLeast-back keys ((x ∷ xs) ++ back) front v (IsLeast-front keys (x ∷ xs) back v least (All-append_behind Before front back others)) (All-append_front Before front back others)

  is_eq-side_cmp : (s : Bool) (x y : K) → is_eq (cmp x y) ≡ is_eq (side_cmp s cmp x y)
  is_eq-side_cmp true x y = refl
  is_eq-side_cmp false x y = ap is_eq (o.antisymm x y) ∙ elim (cmp y x) as (λ r. is_eq (ordering_reverse r) ≡ is_eq r) [ Less ↦ refl | Equal ↦ refl | Greater ↦ refl ]

  module _ (s : Bool) (a : List ℕ) (bytes : IsBytes a) where
    -- a value whose full key is beyond the key, and the entries whose index keys are
    abbrev is_beyond : V → Bool
    is_beyond v = is_lt (side_cmp s byte_cmp a (full_key v))

    abbrev entries_beyond : Content K V → Content K V
    entries_beyond c = filter (λ e. is_lt (side_cmp s cmp (slot a) e.0)) c

    -- the values of these are beyond it, and those on the other side are not
    all_beyond : (x : K) (l : List V) → All (FiledUnder x) l → side_cmp s cmp (slot a) x ≡ Less → beyond full_key s a l ≡ l
    all_beyond x l f e =
        filter-all_pass is_beyond l
        (All-weaker (FiledUnder x) (λ v. is_beyond v ≡ true) (λ v u. ap is_lt (less_by_side s a (full_key v) bytes u.0 (ap (side_cmp s cmp (slot a)) u.1 ∙ e))) l f)

    none_beyond : (x : K) (l : List V) → All (FiledUnder x) l → side_cmp s cmp (slot a) x ≡ Greater → beyond full_key s a l ≡ []
    none_beyond x l f e =
        let turned : side_cmp s cmp x (slot a) ≡ Less = (side_total s o).antisymm x (slot a) ∙ ap ordering_reverse e in
        let before : (v : V) → FiledUnder x v → side_cmp s byte_cmp (full_key v) a ≡ Less = λ v u. less_by_side s (full_key v) a u.0 bytes (ap (λ k. side_cmp s cmp k (slot a)) u.1 ∙ turned) in
        filter-none_pass is_beyond l
        (All-weaker (FiledUnder x) (λ v. is_beyond v ≡ false) (λ v u. ap is_lt ((side_total s nat_list_cmp_total).antisymm a (full_key v)) ∙ is_lt-reverse_less _ (before v u)) l f)

    -- all that are beyond it: of its own list, with those of these entries in front and behind
    abbrev Around : List V → Content K V → List V → Type 0
    Around own d l = (front : List V) × (back : List V) × (l ≡ front ++ (own ++ back)) × (values_of d ≡ front ++ back)

    around : (c : Content K V) → T (is_sorted cmp c) → Filed c → Around (beyond full_key s a (list_at cmp c (slot a))) (entries_beyond c) (beyond full_key s a (values_of c))
    around [] h f = ([], [], refl, refl)
    around (e ∷ es) h f =
        let k = slot a in
        let rest = around es (T-and_second _ _ h) f.1 in
        let own : List V = beyond full_key s a (list_at cmp es k) in
        let here : List V = beyond full_key s a e.1 in
        subst (Around (beyond full_key s a (list_at cmp (e ∷ es) k)) (entries_beyond (e ∷ es))) (sym (filter-append is_beyond e.1 (values_of es)))
        (subst (λ b. Around (beyond full_key s a (unwrap_or (cond b (Some e.1) (find cmp k es)) [])) (entries_beyond (e ∷ es)) (here ++ beyond full_key s a (values_of es))) (sym (is_eq-side_cmp s k e.0))
        (elim (side_cmp s cmp k e.0) as (λ r. side_cmp s cmp k e.0 ≡ r → Around (beyond full_key s a (unwrap_or (cond (is_eq r) (Some e.1) (find cmp k es)) [])) (cond (is_lt r) (e ∷ entries_beyond es) (entries_beyond es)) (here ++ beyond full_key s a (values_of es))) [
          | Less ↦ λ p. (
            e.1 ++ rest.0,
            rest.1,
            (λ i. all_beyond e.0 e.1 f.0 p i ++ rest.2 i) ∙ sym (append_assoc e.1 rest.0 (own ++ rest.1)),
            ap (λ l. e.1 ++ l) rest.3 ∙ sym (append_assoc e.1 rest.0 rest.1),
          )
          | Equal ↦ λ p.
              let tied = Equal-is_eq (cmp k e.0) (is_eq-side_cmp s k e.0 ∙ ap is_eq p) in
              let none : own ≡ [] = ap (beyond full_key s a) (list_at-below_all o k e.0 es (λ y q. o.congr k e.0 y tied ∙ q) (T-and_first _ _ h)) in
              ([], values_of (entries_beyond es), ap (λ l. here ++ l) (rest.2 ∙ ap (λ l. rest.0 ++ (l ++ rest.1)) none ∙ sym rest.3), refl)
          | Greater ↦ λ p. (rest.0, rest.1, (λ i. none_beyond e.0 e.1 f.0 p i ++ rest.2 i), rest.3)
        ] refl))

    pub beside_of_filed : (c : Content K V) (r : Option V) → IsLawful cmp c → IsFiled full_key cmp slot c
        → IsNearest full_key s (or_list (beyond full_key s a (list_at cmp c (slot a))) (unflagged (beside_list s cmp c (slot a)))) r → IsFullBeside full_key s c a r
    beside_of_filed c r h f least =
        let own : List V = beyond full_key s a (list_at cmp c (slot a)) in
        let later : K → Bool = λ x. is_lt (side_cmp s cmp (slot a) x) in
        let filed = filed_entries c h.0 f in
        let all = around c h.0 filed in
        let lawful : IsLawful cmp (entries_beyond c) = (is_sorted-where_key cmp later c h.0, all_filled-where_key o later c h.1) in
        let under = All-filter is_beyond (FiledUnder (slot a)) (list_at cmp c (slot a)) (f (slot a)) in
        subst (λ l. IsNearest full_key s l r) (sym all.2)
        (own_or_end s (slot a) own all.0 all.1 (entries_beyond c) r under (filter_passes (λ e. later e.0) c) lawful (filed_where later c filed) all.3
        (subst (λ l. IsNearest full_key s (or_list own l) r) (unflagged-beside_list s cmp c (slot a)) least))

-- the least of a list that has one, where another stands behind it
pub least_own : {V : Type 0} (cmp : V → V → Ordering) (own other : List V) (v : V) → IsLeast cmp own (Some v) → IsLeast cmp (or_list own other) (Some v)
least_own cmp [] other v least = let none = ap (λ l. length l) least.2 in let some = length-append least.0 (v ∷ least.1) in absurd (omega (arith, none, some))
least_own cmp (x ∷ xs) other v least = least
