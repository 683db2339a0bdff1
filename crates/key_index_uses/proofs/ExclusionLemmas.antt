-- On the values next to a full key that no value has.
--     has_key_anywhere      in a filed content a full key is held where it is held in its own list
--     Excludes-IsLeast      the neighbours of a full key that no value has show that
use Rattle.std.proofs.Common.{◌≡◌, ℕ, ◌<◌, Bool, true, false, cond, ◌||◌, T, List, [], ◌∷◌, length, Option, Some, None, IfSome, unwrap_or, slice_index_or, All, refl, sym, ap, subst, ◌∙◌}
use Rattle.std.proofs.lemmas.Bool.{false≢true}
use Rattle.std.proofs.lemmas.List.Elements.{All-nil, All-cons, All-head, All-tail, All-append, All-weaker, All-filter, All-contains_itself, filter_passes}
use Rattle.std.proofs.lemmas.List.Folds.{list_any-append, list_any_none}
use Rattle.std.proofs.lemmas.Slice.Eq.{bytes_eq-Decides}
use Rattle.std.specs.declared.cmp.Ordering.{Ordering}
use Rattle.std.specs.declared.cmp.Ordering.TheVariants.{Less, Equal, Greater}
use Rattle.std.specs.Ordering.{is_eq, is_gt, is_lt, ordering_reverse, flip_args}
use Rattle.std.specs.Cmp.{IsTotalOrder, tied_itself, on_total, back_total}
use Rattle.std.specs.Cmp.Lexicographic.{nat_list_cmp_total, texts_ties}
use Rattle.std.specs.BTreeMap.Range.{IsLeBy}
use Rattle.std.specs.List.{Contains, filter, list_any}
use Rattle.std.specs.Option.{MatchOption}
use Rattle.std.specs.Str.{bytes_eq}
use Rattle.std.specs.FinMap.{find, is_sorted}
use Rattle.key_index_flat.specs.Content.{Content, list_at}
use Rattle.key_index_flat.specs.FullKeys.{IsBytes, byte_cmp, IsLeast, cmp_keys, above, below, IsFiled}
use Rattle.key_index_flat.specs.Values.{values_of}
use Rattle.key_index_flat.specs.laws.Laws.{T-and_first, T-and_second}
use Rattle.key_index_flat.proofs.content.ContentLemmas.{list_at-below_all}
use Rattle.key_index_flat.proofs.neighbours.FullKeyLemmas.{filed_first, filed_rest}
use Rattle.key_index_flat.proofs.neighbours.LeastLemmas.{least_has}
use Rattle.key_index_uses.specs.Exclusion.{has_key, Excludes}

none-list_any : {X : Type 0} (p : X → Bool) (l : List X) → list_any p l ≡ false → All (λ x. p x ≡ false) l
none-list_any p [] h = All-nil (λ x. p x ≡ false)
none-list_any p (x ∷ xs) h =
    elim (p x) as (λ b. p x ≡ b → (b || list_any p xs) ≡ false → All (λ x. p x ≡ false) (x ∷ xs)) [
      | true ↦ λ e k. absurd (false≢true (sym k))
      | false ↦ λ e k. All-cons (λ x. p x ≡ false) x xs e (none-list_any p xs k)
    ] refl h

or_false : (b : Bool) → (b || false) ≡ b
or_false true = refl
or_false false = refl

-- what a filter keeps, and what it leaves out
filter_back : {X : Type 0} (p : X → Bool) (P : X → Type 0) (l : List X) → All P (filter p l) → All (λ x. p x ≡ true → P x) l
filter_back p P [] h = All-nil (λ x. p x ≡ true → P x)
filter_back p P (x ∷ xs) h =
    elim (p x) as (λ b. p x ≡ b → All P (cond b (x ∷ filter p xs) (filter p xs)) → All (λ x. p x ≡ true → P x) (x ∷ xs)) [
      | true ↦ λ e k. All-cons (λ x. p x ≡ true → P x) x xs (λ _. All-head P x (filter p xs) k) (filter_back p P xs (All-tail P x (filter p xs) k))
      | false ↦ λ e k. All-cons (λ x. p x ≡ true → P x) x xs (λ t. absurd (false≢true (sym e ∙ t))) (filter_back p P xs k)
    ] refl h

filter_empty : {X : Type 0} (p : X → Bool) (l : List X) → filter p l ≡ [] → All (λ x. p x ≡ false) l
filter_empty p [] h = All-nil (λ x. p x ≡ false)
filter_empty p (x ∷ xs) h =
    elim (p x) as (λ b. p x ≡ b → cond b (x ∷ filter p xs) (filter p xs) ≡ [] → All (λ x. p x ≡ false) (x ∷ xs)) [
      | true ↦ λ e k. absurd (no_list x (filter p xs) k)
      | false ↦ λ e k. All-cons (λ x. p x ≡ false) x xs e (filter_empty p xs k)
    ] refl h
  where
    no_list : {X : Type 0} (x : X) (xs : List X) → x ∷ xs ≡ [] → ⊥
    no_list x xs e = cc

module _ {V : Type 0} {cmp : V → V → Ordering} (o : IsTotalOrder cmp) where
  least_bounds : (l : List V) (v : V) → IsLeast cmp l (Some v) → All (λ w. IsLeBy cmp v w) l
  least_bounds l v h =
      let front : All (λ w. IsLeBy cmp v w) h.0 = All-weaker (λ w. cmp v w ≡ Less) (λ w. IsLeBy cmp v w) (λ w q. ap is_gt q) h.0 h.3 in
      subst (All (λ w. IsLeBy cmp v w)) (sym h.2) (All-append (λ w. IsLeBy cmp v w) h.0 (v ∷ h.1) front (All-cons (λ w. IsLeBy cmp v w) v h.1 (ap is_gt (tied_itself o v)) h.4))

  -- the least of those of a list that pass a test, seen from the whole list
  abbrev Bounds : (V → Bool) → List V → Option V → Type 0
  Bounds p l r = MatchOption r (All (λ w. p w ≡ false) l) (λ v. Contains l v × (p v ≡ true) × All (λ w. p w ≡ true → IsLeBy cmp v w) l)

  Bounds-IsLeast : (p : V → Bool) (l : List V) (r : Option V) → IsLeast cmp (filter p l) r → Bounds p l r
  Bounds-IsLeast p l None h = filter_empty p l h
  Bounds-IsLeast p l (Some v) h =
      (least_has o (Contains l) (filter p l) v h (All-filter p (Contains l) l (All-contains_itself l)), least_has o (λ w. p w ≡ true) (filter p l) v h (filter_passes p l), filter_back p (λ w. IsLeBy cmp v w) l (least_bounds (filter p l) v h))

module _ {V : Type 0} (full_key : V → List ℕ) (a : List ℕ) where
  lt_is : (r : Ordering) → is_lt r ≡ true → r ≡ Less
  lt_is Less e = refl
  lt_is Equal e = absurd (false≢true e)
  lt_is Greater e = absurd (false≢true e)

  -- a value that lies strictly between the greatest below and the least above has the key
  not_below : (l : List V) (w : V) (r : Option V) → MatchOption r (is_lt (byte_cmp (full_key w) a) ≡ false) (λ v. is_lt (byte_cmp (full_key w) a) ≡ true → IsLeBy (flip_args (cmp_keys full_key)) v w)
      → IfSome r (λ b. byte_cmp (full_key b) (full_key w) ≡ Less) → byte_cmp (full_key w) a ≡ Less → ⊥
  not_below l w None h k e = false≢true (sym h ∙ ap is_lt e)
  not_below l w (Some v) h k e =
      false≢true (sym (h (ap is_lt e)) ∙ ap is_gt (nat_list_cmp_total.antisymm (full_key w) (full_key v) ∙ ap ordering_reverse k))

  not_between-least : (l : List V) (w : V) (r : Option V) → MatchOption r (is_lt (byte_cmp a (full_key w)) ≡ false) (λ v. is_lt (byte_cmp a (full_key w)) ≡ true → IsLeBy (cmp_keys full_key) v w)
      → IfSome r (λ t. byte_cmp (full_key w) (full_key t) ≡ Less) → byte_cmp a (full_key w) ≡ Less → ⊥
  not_between-least l w None h k e = false≢true (sym h ∙ ap is_lt e)
  not_between-least l w (Some v) h k e =
      false≢true (sym (h (ap is_lt e)) ∙ ap is_gt (nat_list_cmp_total.antisymm (full_key v) (full_key w) ∙ ap ordering_reverse k))

  -- at one value
  bounds_at : {cmp : V → V → Ordering} (o : IsTotalOrder cmp) (p : V → Bool) (l : List V) (r : Option V) → Bounds o p l r → (k : ℕ) (d : V) → k < length l → MatchOption r (p (slice_index_or l k d) ≡ false) (λ v. p (slice_index_or l k d) ≡ true → IsLeBy cmp v (slice_index_or l k d))
  bounds_at o p l None h k d within = h k d within
  bounds_at o p l (Some v) h k d within = h.2 k d within

  byte_cmp-not_equal : (b : List ℕ) → bytes_eq b a ≡ false → byte_cmp b a ≡ Equal → ⊥
  byte_cmp-not_equal b h e = false≢true (sym h ∙ texts_ties b a ∙ ap is_eq e)

  pub Excludes-IsLeast : (l : List V) (prev next : Option V) → has_key full_key a l ≡ false → IsLeast (flip_args (cmp_keys full_key)) (below full_key a l) prev → IsLeast (cmp_keys full_key) (above full_key a l) next → Excludes full_key l a prev next
  Excludes-IsLeast l prev next none h k =
      let up = on_total full_key nat_list_cmp_total in
      let down = back_total up in
      let lower = Bounds-IsLeast down (λ v. is_lt (byte_cmp (full_key v) a)) l prev h in
      let higher = Bounds-IsLeast up (λ v. is_lt (byte_cmp a (full_key v))) l next k in
      let others = none-list_any (λ v. bytes_eq (full_key v) a) l none in
      record {
        absent = none;
        below_it = elim prev as (λ r. Bounds down (λ v. is_lt (byte_cmp (full_key v) a)) l r → IfSome r (λ v. Contains l v × (byte_cmp (full_key v) a ≡ Less))) [
          | None ↦ λ _. tt
          | Some v ↦ λ b. (b.0, lt_is _ b.1)
        ] lower;
        above_it = elim next as (λ r. Bounds up (λ v. is_lt (byte_cmp a (full_key v))) l r → IfSome r (λ v. Contains l v × (byte_cmp a (full_key v) ≡ Less))) [
          | None ↦ λ _. tt
          | Some v ↦ λ b. (b.0, lt_is _ b.1)
        ] higher;
        none_between = λ i d within between.
            let w = slice_index_or l i d in
            elim (byte_cmp (full_key w) a) as (λ r. byte_cmp (full_key w) a ≡ r → ⊥) [
              | Less ↦ λ e. not_below l w prev (bounds_at down (λ v. is_lt (byte_cmp (full_key v) a)) l prev lower i d within) between.0 e
              | Equal ↦ λ e. byte_cmp-not_equal (full_key w) (others i d within) e
              | Greater ↦ λ e. not_between-least l w next (bounds_at up (λ v. is_lt (byte_cmp a (full_key v))) l next higher i d within) between.1 (nat_list_cmp_total.antisymm a (full_key w) ∙ ap ordering_reverse e)
            ] refl;
      }

-- in a filed content a full key is held where it is held in its own list
module _ {K V : Type 0} {cmp : K → K → Ordering} (o : IsTotalOrder cmp) (full_key : V → List ℕ) (slot : List ℕ → K) (a : List ℕ) where
  has_key-other_slot : (x : K) (l : List V) → All (λ v. IsBytes (full_key v) × (slot (full_key v) ≡ x)) l → ((slot a ≡ x) → ⊥) → has_key full_key a l ≡ false
  has_key-other_slot x l h other =
      list_any_none (λ v. bytes_eq (full_key v) a) l (All-weaker (λ v. IsBytes (full_key v) × (slot (full_key v) ≡ x)) (λ v. bytes_eq (full_key v) a ≡ false) (λ v u.
      elim (bytes_eq (full_key v) a) as (λ b. bytes_eq (full_key v) a ≡ b → b ≡ false) [
        | true ↦ λ e. absurd (other (ap slot (sym ((bytes_eq-Decides (full_key v) a).0 e)) ∙ u.1))
        | false ↦ λ e. refl
      ] refl) l h)

  pub has_key_anywhere : (c : Content K V) → T (is_sorted cmp c) → IsFiled full_key cmp slot c → has_key full_key a (values_of c) ≡ has_key full_key a (list_at cmp c (slot a))
  has_key_anywhere [] h f = refl
  has_key_anywhere (e ∷ es) h f =
      let k = slot a in
      let rest = has_key_anywhere es (T-and_second _ _ h) (filed_rest o full_key slot e es (T-and_first _ _ h) f) in
      let mine = filed_first o full_key slot e es f in
      let not_here : (cmp k e.0 ≡ Equal → ⊥) → has_key full_key a e.1 ≡ false = λ n. has_key-other_slot e.0 e.1 mine (λ s. n (ap (λ x. cmp x e.0) s ∙ tied_itself o e.0)) in
      list_any-append (λ v. bytes_eq (full_key v) a) e.1 (values_of es)
      ∙ elim (cmp k e.0) as (λ r. cmp k e.0 ≡ r → (has_key full_key a e.1 || has_key full_key a (values_of es)) ≡ has_key full_key a (unwrap_or (cond (is_eq r) (Some e.1) (find cmp k es)) [])) [
        | Less ↦ λ p. (λ i. not_here (λ q. less_not_equal (sym p ∙ q)) i || rest i)
        | Equal ↦ λ p. ap (λ b. has_key full_key a e.1 || b) (rest ∙ ap (has_key full_key a) (list_at-below_all o k e.0 es (λ y q. o.congr k e.0 y p ∙ q) (T-and_first _ _ h))) ∙ or_false (has_key full_key a e.1)
        | Greater ↦ λ p. (λ i. not_here (λ q. greater_not_equal (sym p ∙ q)) i || rest i)
      ] refl
    where
      less_not_equal : Less ≡ Equal → ⊥
      less_not_equal e = cc

      greater_not_equal : Greater ≡ Equal → ⊥
      greater_not_equal e = cc
