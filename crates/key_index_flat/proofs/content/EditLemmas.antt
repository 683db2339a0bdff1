-- What one edit of a list leaves of first values and tails.
use Rattle.std.proofs.Common.{◌≡◌, ℕ, suc, zero, ◌+◌, ◌-◌, ◌<◌, ◌≤◌, true, false, List, [], ◌∷◌, length, insert, remove, slice_set, slice_get, cond, is_some, Bool, Option, Some, None, IfNone, Result, Ok, Err, OnOk, OnErr, T, refl, sym, ap, subst, ◌∙◌, arith, add-zero}
use Rattle.std.proofs.lemmas.List.{nil_from_length}
use Rattle.std.specs.declared.cmp.Ordering.{Ordering}
use Rattle.std.specs.declared.cmp.Ordering.TheVariants.{Equal}
use Rattle.std.specs.Ordering.{eq_by_cmp}
use Rattle.std.specs.Cmp.{IsTotalOrder}
use Rattle.std.specs.Option.{option_map}
use Rattle.key_index_flat.specs.Content.{Content, list_at, with_list}
use Rattle.key_index_flat.specs.Storage.{list_left, list_of, content_of}
use Rattle.key_index_flat.specs.Storage.{value_of, Sets, IsLinked}
use Rattle.key_index_flat.specs.laws.Laws.{IsLawful-content_of}
use Rattle.key_index_flat.proofs.content.ContentLemmas.{entries_for, with_list-twice}
use Rattle.key_index_flat.proofs.content.ChainLemmas.{StandsFor, StandsFor-unchanged, StandsFor-with_list, empty_at, holds_at_every_key, list_at-content_of, StandsFor-replaced, StandsFor-taken_out, place_in_tail, slice_get-tail, slice_get-head}

-- a list with a value has a first one
pub first_of : {V : Type 0} (head : Option V) (tail : List V) → 0 < length (list_of head tail) → (v : V) × (head ≡ Some v)
first_of None tail h = absurd (omega arith)
first_of (Some v) tail h = (v, refl)

none_of : {V : Type 0} (head : Option V) (tail : List V) → list_of head tail ≡ [] → head ≡ None
none_of None tail e = refl
none_of (Some v) tail e = let n = ap (λ l. length l) e in absurd (omega (arith, n))

-- an edit behind the first value
module _ {V : Type 0} (v : V) (t : List V) where
  set_behind : (place : ℕ) (x : V) → (place ≡ 0 → ⊥) → slice_set (v ∷ t) place x ≡ v ∷ slice_set t (place - 1) x
  set_behind zero x p = absurd (p refl)
  set_behind (suc i) x p = let e : i ≡ suc i - 1 = omega arith in ap (λ j. v ∷ slice_set t j x) e

  remove_behind : (place : ℕ) → (place ≡ 0 → ⊥) → remove (v ∷ t) place ≡ v ∷ remove t (place - 1)
  remove_behind zero p = absurd (p refl)
  remove_behind (suc i) p = let e : i ≡ suc i - 1 = omega arith in ap (λ j. v ∷ remove t j) e

  insert_behind : (place : ℕ) (x : V) → (place ≡ 0 → ⊥) → insert (v ∷ t) place x ≡ v ∷ insert t (place - 1) x
  insert_behind zero x p = absurd (p refl)
  insert_behind (suc i) x p = let e : i ≡ suc i - 1 = omega arith in ap (λ j. v ∷ insert t j x) e

-- what is left of a list, by whether its first value stays
pub left_by_first : {V : Type 0} (stays : Bool) (next : Option V) (v : V) (t l : List V) → (stays ≡ true → t ≡ l) → (stays ≡ false → list_of next t ≡ l)
    → cond stays (v ∷ l) l ≡ list_left stays v next t
left_by_first true next v t l stay go = ap (λ m. v ∷ m) (sym (stay refl))
left_by_first false next v t l stay go = sym (go refl)

-- where the first value goes and no other comes, it was alone
pub alone_left : {V : Type 0} (stays : Bool) (next : Option V) (v : V) (t l : List V) (left : ℕ) → left ≡ length (list_left stays v next t) → (left ≡ 0 → t ≡ [])
    → l ≡ v ∷ t → stays ≡ false → IfNone next (length l ≡ 1)
alone_left true next v t l left e none is goes = absurd (subst T goes tt)
alone_left false (Some x) v t l left e none is goes = tt
alone_left false None v t l left e none is goes = ap (λ m. length m) (is ∙ ap (λ m. v ∷ m) (none e))

-- a tail by its first value
pub first_removed_of : {V : Type 0} (t : List V) (x : V) → slice_get t 0 ≡ Some x → x ∷ remove t 0 ≡ t
first_removed_of [] x at = absurd (subst T (ap is_some (sym at)) tt)
first_removed_of (y ∷ t) x at = let e : x ≡ y = cc in ap (λ z. z ∷ t) e

pub empty_without_first : {V : Type 0} (t : List V) → slice_get t 0 ≡ None → t ≡ []
empty_without_first [] at = refl
empty_without_first (y ∷ t) at = absurd (subst T (ap is_some at) tt)

-- where there is a value, its removal returns one
pub removed_some : {V : Type 0} (r : Option (V × ℕ)) (t : List V) (place : ℕ) → option_map (λ removed. removed.0) r ≡ slice_get t place → place < length t → is_some r ≡ true
removed_some (Some x) t place e h = refl
removed_some None [] place e h = absurd (omega (arith, h))
removed_some None (x ∷ t) zero e h = absurd (subst T (sym (ap is_some e)) tt)
removed_some None (x ∷ t) (suc i) e h = removed_some None t i e (omega (arith, h))

module _ {K V : Type 0} {cmp : K → K → Ordering} (o : IsTotalOrder cmp) (exact : (x y : K) → cmp x y ≡ Equal → x ≡ y)
    (heads : List (K × V)) (tail later : K → List V) (k : K) (linked : IsLinked cmp heads tail) where
  abbrev list : List V
  list = list_at cmp (content_of cmp heads tail) k

  list-list_of : list ≡ list_of (value_of cmp heads k) (tail k)
  list-list_of = list_at-content_of o exact heads tail k

  abbrev Others : Type 0
  Others = (q : K) → eq_by_cmp cmp q k ≡ false → later q ≡ tail q

  -- the value that a held key has first
  pub value_of-list_filled : 0 < length list → (v : V) × (value_of cmp heads k ≡ Some v)
  value_of-list_filled h = first_of (value_of cmp heads k) (tail k) (subst (λ (l : List V). 0 < length l) list-list_of h)

  -- a key without values has neither
  pub absent_at : list ≡ [] → (value_of cmp heads k ≡ None) × (tail k ≡ [])
  absent_at none =
      let head = none_of (value_of cmp heads k) (tail k) (sym list-list_of ∙ none) in
      (head, empty_at o exact heads heads tail tail k linked head)

  pub list-first_and_tail : (v : V) → value_of cmp heads k ≡ Some v → list ≡ v ∷ tail k
  list-first_and_tail v some = list-list_of ∙ ap (λ w. list_of w (tail k)) some

  pub place_within_tail : (place : ℕ) → (place ≡ 0 → ⊥) → place < length list → place - 1 < length (tail k)
  place_within_tail place p h = place_in_tail (value_of cmp heads k) (tail k) place p (subst (λ (l : List V). place < length l) list-list_of h)

  pub end_within_tail : (place : ℕ) → (place ≡ 0 → ⊥) → place ≤ length list → place - 1 ≤ length (tail k)
  end_within_tail place p h =
      let n = value_of-list_filled (omega (arith, h, p)) in
      let l = ap (λ l. length l) (list-first_and_tail n.0 n.1) in omega (arith, h, l)

  -- only a tail changes
  tail_edited : (v : V) → value_of cmp heads k ≡ Some v → (l : List V) → v ∷ later k ≡ l → Others → StandsFor o exact heads later (with_list cmp (content_of cmp heads tail) k l)
  tail_edited v some l e others =
      subst (λ (m : List V). StandsFor o exact heads later (with_list cmp (content_of cmp heads tail) k m)) e
      (StandsFor-replaced o exact heads heads tail later k linked v v some (some, λ q _. refl) refl others)

  pub rest_edited : (v : V) → value_of cmp heads k ≡ Some v → Others → StandsFor o exact heads later (with_list cmp (content_of cmp heads tail) k (v ∷ later k))
  rest_edited v some others = tail_edited v some (v ∷ later k) refl others

  pub list_later : (v : V) → value_of cmp heads k ≡ Some v → list_at cmp (content_of cmp heads later) k ≡ v ∷ later k
  list_later v some = list_at-content_of o exact heads later k ∙ ap (λ w. list_of w (later k)) some

  -- and then the first value stays, or the next one takes its place
  pub list_left_of : (v : V) → value_of cmp heads k ≡ Some v → Others → (stays : Bool) (next : Option V) (c : Content K V)
      → c ≡ cond stays (content_of cmp heads later) (with_list cmp (content_of cmp heads later) k (list_of next (remove (list_at cmp (content_of cmp heads later) k) 0)))
      → c ≡ with_list cmp (content_of cmp heads tail) k (list_left stays v next (later k))
  list_left_of v some others true next c e = e ∙ (rest_edited v some others).content
  list_left_of v some others false next c e =
      e ∙ ap (λ l. with_list cmp (content_of cmp heads later) k (list_of next (remove l 0))) (list_later v some)
      ∙ ap (λ d. with_list cmp d k (list_of next (later k))) (rest_edited v some others).content
      ∙ with_list-twice o exact (content_of cmp heads tail) k (v ∷ later k) (list_of next (later k)) (IsLawful-content_of o heads tail)

  edited_behind : (f edit : List V → List V) → ((v : V) → edit (v ∷ tail k) ≡ v ∷ f (tail k)) → 0 < length list → later k ≡ f (tail k) → Others
      → StandsFor o exact heads later (with_list cmp (content_of cmp heads tail) k (edit list))
  edited_behind f edit behind h at others =
      let n = value_of-list_filled h in
      tail_edited n.0 n.1 (edit list) (ap (λ l. n.0 ∷ l) at ∙ sym (behind n.0) ∙ ap edit (sym (list-first_and_tail n.0 n.1))) others

  pub set_in_tail : (place : ℕ) (x : V) → (place ≡ 0 → ⊥) → place < length list → later k ≡ slice_set (tail k) (place - 1) x → Others
      → StandsFor o exact heads later (with_list cmp (content_of cmp heads tail) k (slice_set list place x))
  set_in_tail place x p h = edited_behind (λ l. slice_set l (place - 1) x) (λ l. slice_set l place x) (λ v. set_behind v (tail k) place x p) (omega (arith, h))

  pub removed_in_tail : (place : ℕ) → (place ≡ 0 → ⊥) → place < length list → later k ≡ remove (tail k) (place - 1) → Others
      → StandsFor o exact heads later (with_list cmp (content_of cmp heads tail) k (remove list place))
  removed_in_tail place p h = edited_behind (λ l. remove l (place - 1)) (λ l. remove l place) (λ v. remove_behind v (tail k) place p) (omega (arith, h))

  inserted_in_tail : (place : ℕ) (x : V) → (place ≡ 0 → ⊥) → place ≤ length list → later k ≡ insert (tail k) (place - 1) x → Others
      → StandsFor o exact heads later (with_list cmp (content_of cmp heads tail) k (insert list place x))
  inserted_in_tail place x p h = edited_behind (λ l. insert l (place - 1) x) (λ l. insert l place x) (λ v. insert_behind v (tail k) place x p) (omega (arith, h, p))

  -- the value at a place behind the first
  pub value_in_tail : (place : ℕ) → (place ≡ 0 → ⊥) → place < length list → slice_get list place ≡ slice_get (tail k) (place - 1)
  value_in_tail place p h = ap (λ l. slice_get l place) list-list_of ∙ slice_get-tail (value_of cmp heads k) (tail k) place p (subst (λ (l : List V). place < length l) list-list_of h)

  pub value_first : slice_get list 0 ≡ value_of cmp heads k
  value_first = ap (λ l. slice_get l 0) list-list_of ∙ slice_get-head (value_of cmp heads k) (tail k)

  module _ (news : List (K × V)) where
    -- another first value
    pub first_set : (place : ℕ) (d x : V) → place ≡ 0 → value_of cmp heads k ≡ Some d → Sets cmp heads news k (Some x) → length news ≡ length heads → ((q : K) → later q ≡ tail q)
        → StandsFor o exact news later (with_list cmp (content_of cmp heads tail) k (slice_set list place x))
    first_set place d x p some sets more same =
        subst (λ (m : List V). StandsFor o exact news later (with_list cmp (content_of cmp heads tail) k m))
        (ap (λ l. x ∷ l) (same k) ∙ sym (ap (λ n. slice_set list n x) p ∙ ap (λ l. slice_set l 0 x) (list-first_and_tail d some)))
        (StandsFor-replaced o exact heads news tail later k linked x d some sets more (λ q _. same q))

    -- the first value goes, and this one takes its place, or there is none
    pub next_first : (d x : V) → value_of cmp heads k ≡ Some d → Sets cmp heads news k (Some x) → length news ≡ length heads → ((q : K) → later q ≡ tail q)
        → StandsFor o exact news later (with_list cmp (content_of cmp heads tail) k (x ∷ remove list 0))
    next_first d x some sets more same =
        subst (λ (m : List V). StandsFor o exact news later (with_list cmp (content_of cmp heads tail) k m))
        (ap (λ l. x ∷ l) (same k) ∙ sym (ap (λ l. x ∷ remove l 0) (list-first_and_tail d some)))
        (StandsFor-replaced o exact heads news tail later k linked x d some sets more (λ q _. same q))

    pub no_first : (d : V) → value_of cmp heads k ≡ Some d → length list ≡ 1 → Sets cmp heads news k None → length news + cond (is_some (value_of cmp heads k)) 1 0 ≡ length heads
        → ((q : K) → later q ≡ tail q) → StandsFor o exact news later (with_list cmp (content_of cmp heads tail) k [])
    no_first d some one sets less same =
        let long = ap (λ l. length l) (list-first_and_tail d some) in
        StandsFor-taken_out o exact heads news tail later k linked sets less (same k ∙ nil_from_length (tail k) (omega (arith, long, one))) (λ q _. same q)

    -- the first value goes, and the next one of the tail takes its place
    pub first_removed : (place : ℕ) (d next : V) → place ≡ 0 → value_of cmp heads k ≡ Some d → Sets cmp heads news k (Some next) → length news ≡ length heads
        → slice_get (tail k) 0 ≡ Some next → later k ≡ remove (tail k) 0 → Others
        → StandsFor o exact news later (with_list cmp (content_of cmp heads tail) k (remove list place))
    first_removed place d next p some sets more is at others =
        subst (λ (m : List V). StandsFor o exact news later (with_list cmp (content_of cmp heads tail) k m))
        (ap (λ l. next ∷ l) at ∙ first_removed_of (tail k) next is ∙ sym (ap (λ n. remove list n) p ∙ ap (λ l. remove l 0) (list-first_and_tail d some)))
        (StandsFor-replaced o exact heads news tail later k linked next d some sets more others)

    -- the only value goes
    pub only_removed : (place : ℕ) (d : V) → place ≡ 0 → value_of cmp heads k ≡ Some d → Sets cmp heads news k None → length news + cond (is_some (value_of cmp heads k)) 1 0 ≡ length heads
        → slice_get (tail k) 0 ≡ None → later k ≡ remove (tail k) 0 → Others
        → StandsFor o exact news later (with_list cmp (content_of cmp heads tail) k (remove list place))
    only_removed place d p some sets less is at others =
        let none = empty_without_first (tail k) is in
        subst (λ (m : List V). StandsFor o exact news later (with_list cmp (content_of cmp heads tail) k m))
        (sym (ap (λ n. remove list n) p ∙ ap (λ l. remove l 0) (list-first_and_tail d some ∙ ap (λ l. d ∷ l) none)))
        (StandsFor-taken_out o exact heads news tail later k linked sets less (at ∙ ap (λ l. remove l 0) none) others)

    -- a key without values is given a list
    module _ (h : V) (none : list ≡ []) (sets : Sets cmp heads news k (Some h)) (len : length news ≡ length heads + cond (is_some (value_of cmp heads k)) 0 1) where
      count_given : length news ≡ length heads + 1
      count_given = len ∙ ap (λ w. length heads + cond (is_some w) 0 1) (absent_at none).0

      pub list_given : Others → StandsFor o exact news later (with_list cmp (content_of cmp heads tail) k (h ∷ later k))
      list_given others =
          StandsFor-with_list o exact heads news tail later k linked (h ∷ later k) sets.1 others (ap (λ w. list_of w (later k)) sets.0)
          (λ is. absurd (subst T (ap is_some (sym sets.0) ∙ is) tt))
          (ap (λ w. length news + entries_for (list_of w (tail k))) (absent_at none).0 ∙ add-zero (length news) ∙ count_given)

      -- and then it is taken back
      pub list_refused : (last : List (K × V)) → Sets cmp news last k None → length last + cond (is_some (value_of cmp news k)) 1 0 ≡ length news → later k ≡ [] → Others
          → StandsFor o exact last later (content_of cmp heads tail)
      list_refused last taken less at others =
          let one = ap (λ w. length last + cond (is_some w) 1 0) (sym sets.0) ∙ less in
          StandsFor-unchanged o exact heads last tail later linked
          (holds_at_every_key cmp exact (λ q. value_of cmp last q ≡ value_of cmp heads q) k (taken.0 ∙ sym (absent_at none).0) (λ q apart. taken.1 q apart ∙ sets.1 q apart))
          (holds_at_every_key cmp exact (λ q. later q ≡ tail q) k (at ∙ sym (absent_at none).1) others)
          (omega (arith, one, count_given))

  -- nothing changes
  StandsFor-same_list : later k ≡ tail k → Others → StandsFor o exact heads later (content_of cmp heads tail)
  StandsFor-same_list same others =
      let f : later ≡ tail = λ i q. holds_at_every_key cmp exact (λ q. later q ≡ tail q) k same others q i in
      record { content = ap (λ g. content_of cmp heads g) f; linked = subst (λ (g : K → List V). IsLinked cmp heads g) (sym f) linked }

  -- an insertion that may be refused
  pub inserted_linked : (place : ℕ) (x : V) (r : Result (Unit {0}) V) → (place ≡ 0 → ⊥) → place ≤ length list
      → OnOk r (later k ≡ insert (tail k) (place - 1) x) → OnErr r (later k ≡ tail k) → Others → IsLinked cmp heads later
  inserted_linked place x (Ok u) p h at refused others = (inserted_in_tail place x p h at others).linked
  inserted_linked place x (Err e) p h at refused others = (StandsFor-same_list refused others).linked

  pub inserted_content : (place : ℕ) (x : V) (r : Result (Unit {0}) V) → (place ≡ 0 → ⊥) → place ≤ length list
      → OnOk r (later k ≡ insert (tail k) (place - 1) x) → Others → OnOk r (content_of cmp heads later ≡ with_list cmp (content_of cmp heads tail) k (insert list place x))
  inserted_content place x (Ok u) p h at others = (inserted_in_tail place x p h at others).content
  inserted_content place x (Err e) p h at others = tt

  pub refused_content : {A : Type 0} (r : Result A V) → later k ≡ tail k → Others → OnErr r (content_of cmp heads later ≡ content_of cmp heads tail)
  refused_content (Ok u) refused others = tt
  refused_content (Err e) refused others = (StandsFor-same_list refused others).content
