-- On the content that first values and tails stand for.
use Rattle.std.proofs.Common.{◌≡◌, ℕ, zero, suc, ◌+◌, ◌-◌, ◌<◌, nat_eq, Bool, true, false, not, cond, T, List, [], ◌∷◌, ◌++◌, length, insert, slice_get, Option, Some, None, unwrap_or, Result, Ok, Err, is_some, OnOk, OnErr, refl, sym, ap, subst, ◌∙◌, arith, add-zero}
use Rattle.std.proofs.lemmas.List.{nil_from_length}
use Rattle.std.specs.declared.cmp.Ordering.{Ordering}
use Rattle.std.specs.declared.cmp.Ordering.TheVariants.{Equal}
use Rattle.std.specs.Ordering.{eq_by_cmp}
use Rattle.std.specs.Cmp.{IsTotalOrder}
use Rattle.std.specs.Map.{lookup}
use Rattle.key_index_flat.specs.Content.{Content, is_filled, key_count, list_at, with_list}
use Rattle.key_index_flat.specs.Storage.{added, list_of, content_of}
use Rattle.key_index_flat.specs.Storage.{value_of, Sets, IsLinked}
use Rattle.key_index_flat.specs.laws.Laws.{IsLawful-with_list, IsLawful-content_of}
use Rattle.std.proofs.lemmas.List.Edits.{insert_end}
use Rattle.std.proofs.lemmas.Option.{cond_some}
use Rattle.key_index_flat.proofs.content.ContentLemmas.{list_at-with_list, same_content, key_count-with_list, entries_for, Equal-is_eq}

taken_entries : {V : Type 0} (head : Option V) (tail : List V) → entries_for (list_of head tail) ≡ cond (is_some head) 1 0
taken_entries None tail = refl
taken_entries (Some v) tail = refl

pub None-is_some : {V : Type 0} (o : Option V) → is_some o ≡ false → o ≡ None
None-is_some None e = refl
None-is_some (Some v) e = absurd (subst T e tt)

-- a value there is
some_value : {V : Type 0} (o : Option V) (d : V) → is_some o ≡ true → Some (unwrap_or o d) ≡ o
some_value None d e = absurd (subst T (sym e) tt)
some_value (Some v) d e = refl

filled-list_of : {V : Type 0} (o : Option V) (tail : List V) → is_filled (list_of o tail) ≡ is_some o
filled-list_of None tail = refl
filled-list_of (Some v) tail = refl

-- whether a value came back tells whether the key has one
pub none_back : {V : Type 0} (b : Bool) (v : V) (o : Option V) → o ≡ cond b (Some v) None → o ≡ None → b ≡ false
none_back true v o e none = absurd (subst T (ap is_some (sym e ∙ none)) tt)
none_back false v o e none = refl

pub some_back : {V : Type 0} (b : Bool) (v w : V) (o : Option V) → o ≡ cond b (Some v) None → o ≡ Some w → (b ≡ true) × (w ≡ v)
some_back b v w o e some = let p = cond_some b v w (sym e ∙ some) in (p.0, sym p.1)

-- the length of a list with a first value
pub length-list_of_some : {V : Type 0} (head : Option V) (tail : List V) → is_some head ≡ true → length (list_of head tail) ≡ 1 + length tail
length-list_of_some None tail e = absurd (subst T (sym e) tt)
length-list_of_some (Some v) tail e = omega arith

-- a place behind the first is a place of the tail
pub place_in_tail : {V : Type 0} (head : Option V) (tail : List V) (place : ℕ) → (place ≡ 0 → ⊥) → place < length (list_of head tail) → place - 1 < length tail
place_in_tail None tail place p h = absurd (omega arith)
place_in_tail (Some v) tail zero p h = absurd (p refl)
place_in_tail (Some v) tail (suc i) p h = omega (arith, h)

-- and has this value there
pub slice_get-tail : {V : Type 0} (head : Option V) (tail : List V) (place : ℕ) → (place ≡ 0 → ⊥) → place < length (list_of head tail) → slice_get (list_of head tail) place ≡ slice_get tail (place - 1)
slice_get-tail None tail place p h = absurd (omega arith)
slice_get-tail (Some v) tail zero p h = absurd (p refl)
slice_get-tail (Some v) tail (suc i) p h = let e : i ≡ suc i - 1 = omega arith in ap (slice_get tail) e

pub slice_get-head : {V : Type 0} (head : Option V) (tail : List V) → slice_get (list_of head tail) 0 ≡ head
slice_get-head None tail = refl
slice_get-head (Some v) tail = refl

-- what holds at a key and at each other key holds at every key
pub holds_at_every_key : {K : Type 0} (cmp : K → K → Ordering) → ((x y : K) → cmp x y ≡ Equal → x ≡ y) → (P : K → Type 0) (k : K) → P k → ((q : K) → eq_by_cmp cmp q k ≡ false → P q) → (q : K) → P q
holds_at_every_key cmp exact P k at others q =
    elim (eq_by_cmp cmp q k) as (λ b. eq_by_cmp cmp q k ≡ b → P q) [
      | true ↦ λ p. subst P (sym (exact q k (Equal-is_eq _ p))) at
      | false ↦ others q
    ] refl

module _ {K V : Type 0} {cmp : K → K → Ordering} (o : IsTotalOrder cmp) where
  module _ (exact : (x y : K) → cmp x y ≡ Equal → x ≡ y) where
    pub list_at-content_of : (heads : List (K × V)) (tail : K → List V) (q : K) → list_at cmp (content_of cmp heads tail) q ≡ list_of (lookup (eq_by_cmp cmp q) heads) (tail q)
    list_at-content_of [] tail q = refl
    list_at-content_of (e ∷ es) tail q =
        let rest = list_at cmp (content_of cmp es tail) q in
        list_at-with_list o (content_of cmp es tail) e.0 (e.1 ∷ tail e.0) q
        ∙ elim (eq_by_cmp cmp q e.0) as (λ b. eq_by_cmp cmp q e.0 ≡ b → cond b (e.1 ∷ tail e.0) rest ≡ list_of (cond b (Some e.1) (lookup (eq_by_cmp cmp q) es)) (tail q)) [
          | true ↦ λ p. ap (λ x. e.1 ∷ tail x) (sym (exact q e.0 (Equal-is_eq _ p)))
          | false ↦ λ p. list_at-content_of es tail q
        ] refl

    -- a value at a key without a first one makes a key more
    pub added-none : (heads : List (K × V)) (tail : K → List V) (k : K) → value_of cmp heads k ≡ None → added cmp (content_of cmp heads tail) k ≡ 1
    added-none heads tail k none = ap (λ l. cond (nat_eq (length l) 0) 1 0) (list_at-content_of heads tail k ∙ ap (λ w. list_of w (tail k)) none)

    -- a key with a first value has a list
    pub list_at-some : (heads : List (K × V)) (tail : K → List V) (k : K) → is_some (value_of cmp heads k) ≡ true → list_at cmp (content_of cmp heads tail) k ≡ [] → ⊥
    list_at-some heads tail k held empty =
        let longer : 0 ≡ 1 + length (tail k) = sym (ap (λ l. length l) empty) ∙ ap (λ l. length l) (list_at-content_of heads tail k) ∙ length-list_of_some (value_of cmp heads k) (tail k) held in
        omega (arith, longer)

    -- whether a key has a list is whether it has a first value
    pub absent_told : (heads : List (K × V)) (tail : K → List V) (k : K) (held : Bool) → is_some (value_of cmp heads k) ≡ held → not held ≡ not (is_filled (list_at cmp (content_of cmp heads tail) k))
    absent_told heads tail k held e = sym (ap (λ l. not (is_filled l)) (list_at-content_of heads tail k) ∙ ap not (filled-list_of (value_of cmp heads k) (tail k) ∙ e))

    -- where the first value and the tail of one key change, the content changes there
    pub content_of-changed : (heads news : List (K × V)) (tail later : K → List V) (k : K) (l : List V)
        → ((q : K) → eq_by_cmp cmp q k ≡ false → lookup (eq_by_cmp cmp q) news ≡ lookup (eq_by_cmp cmp q) heads)
        → ((q : K) → eq_by_cmp cmp q k ≡ false → later q ≡ tail q)
        → list_of (lookup (eq_by_cmp cmp k) news) (later k) ≡ l
        → content_of cmp news later ≡ with_list cmp (content_of cmp heads tail) k l
    content_of-changed heads news tail later k l others others_tail at =
        same_content o exact _ _ (IsLawful-content_of o news later) (IsLawful-with_list o _ k l (IsLawful-content_of o heads tail)) (λ q.
        list_at-content_of news later q
        ∙ elim (eq_by_cmp cmp q k) as (λ b. eq_by_cmp cmp q k ≡ b → list_of (lookup (eq_by_cmp cmp q) news) (later q) ≡ cond b l (list_at cmp (content_of cmp heads tail) q)) [
          | true ↦ λ p. subst (λ (x : K). list_of (lookup (eq_by_cmp cmp x) news) (later x) ≡ l) (sym (exact q k (Equal-is_eq _ p))) at
          | false ↦ λ p. (λ i. list_of (others q p i) (others_tail q p i)) ∙ sym (list_at-content_of heads tail q)
        ] refl
        ∙ sym (list_at-with_list o (content_of cmp heads tail) k l q))

    -- linked first values and tails that stand for a content
    pub record StandsFor (heads : List (K × V)) (tail : K → List V) (c : Content K V) : Type 0 where
      pub content : content_of cmp heads tail ≡ c
      pub linked : IsLinked cmp heads tail

    module _ (heads news : List (K × V)) (tail later : K → List V) (linked : IsLinked cmp heads tail) where
      -- the same values everywhere
      pub StandsFor-unchanged : ((q : K) → value_of cmp news q ≡ value_of cmp heads q) → ((q : K) → later q ≡ tail q) → length news ≡ length heads → StandsFor news later (content_of cmp heads tail)
      StandsFor-unchanged heads_same tail_same count =
          let is : content_of cmp news later ≡ content_of cmp heads tail = same_content o exact _ _ (IsLawful-content_of o news later) (IsLawful-content_of o heads tail) (λ q.
          list_at-content_of news later q ∙ (λ i. list_of (heads_same q i) (tail_same q i)) ∙ sym (list_at-content_of heads tail q)) in record {
            content = is;
            linked = record {
              sized = count ∙ linked.sized ∙ sym (ap (λ x. key_count x) is);
              headed = λ q none. ap (λ x. length x) (tail_same q) ∙ linked.headed q (ap is_some (sym (heads_same q)) ∙ none);
            };
          }

    module _ (heads news : List (K × V)) (tail later : K → List V) (k : K) (linked : IsLinked cmp heads tail) where
      pub StandsFor-with_list : (l : List V)
          → ((q : K) → eq_by_cmp cmp q k ≡ false → value_of cmp news q ≡ value_of cmp heads q)
          → ((q : K) → eq_by_cmp cmp q k ≡ false → later q ≡ tail q)
          → list_of (value_of cmp news k) (later k) ≡ l
          → (is_some (value_of cmp news k) ≡ false → length (later k) ≡ 0)
          → length news + entries_for (list_of (value_of cmp heads k) (tail k)) ≡ length heads + entries_for l
          → StandsFor news later (with_list cmp (content_of cmp heads tail) k l)
      StandsFor-with_list l others others_tail at headed_at more =
          let c = content_of cmp heads tail in
          let is = content_of-changed heads news tail later k l others others_tail at in
          let counts = key_count-with_list o c k l (IsLawful-content_of o heads tail) in
          let before : entries_for (list_at cmp c k) ≡ entries_for (list_of (value_of cmp heads k) (tail k)) = ap (λ x. entries_for x) (list_at-content_of heads tail k) in
          let count : length news ≡ key_count (with_list cmp c k l) = omega (arith, counts, before, more, linked.sized) in
          record {
            content = is;
            linked = record {
              sized = count ∙ sym (ap (λ x. key_count x) is);
              headed = holds_at_every_key cmp exact (λ q. is_some (value_of cmp news q) ≡ false → length (later q) ≡ 0) k headed_at (λ q apart none.
                  ap (λ x. length x) (others_tail q apart) ∙ linked.headed q (ap is_some (sym (others q apart)) ∙ none));
            };
          }

      pub empty_at : value_of cmp heads k ≡ None → tail k ≡ []
      empty_at none = nil_from_length (tail k) (linked.headed k (ap is_some none))

      -- a value under an absent key
      pub first_value : (v : V) → value_of cmp heads k ≡ None → Sets cmp heads news k (Some v) → length news ≡ length heads + 1
          → ((q : K) → later q ≡ tail q) → StandsFor news later (with_list cmp (content_of cmp heads tail) k (v ∷ list_at cmp (content_of cmp heads tail) k))
      first_value v none sets more same =
          let now : list_at cmp (content_of cmp heads tail) k ≡ [] = list_at-content_of heads tail k ∙ ap (λ w. list_of w (tail k)) none in
          StandsFor-with_list (v ∷ list_at cmp (content_of cmp heads tail) k) sets.1 (λ q _. same q)
          ((λ i. list_of (sets.0 i) ((same k ∙ empty_at none) i)) ∙ ap (λ l. v ∷ l) (sym now))
          (λ is. absurd (subst T (ap is_some (sym sets.0) ∙ is) tt))
          ((λ i. length news + entries_for (list_of (none i) (tail k))) ∙ add-zero (length news) ∙ more)

      -- a value in front of others
      pub newer_value : (v d : V) → value_of cmp heads k ≡ Some d → Sets cmp heads news k (Some v) → length news ≡ length heads + 0
          → later k ≡ d ∷ tail k → ((q : K) → eq_by_cmp cmp q k ≡ false → later q ≡ tail q)
          → StandsFor news later (with_list cmp (content_of cmp heads tail) k (v ∷ list_at cmp (content_of cmp heads tail) k))
      newer_value v d some sets more at others =
          let now : list_at cmp (content_of cmp heads tail) k ≡ d ∷ tail k = list_at-content_of heads tail k ∙ ap (λ w. list_of w (tail k)) some in
          StandsFor-with_list (v ∷ list_at cmp (content_of cmp heads tail) k) sets.1 others
          ((λ i. list_of (sets.0 i) (at i)) ∙ ap (λ l. v ∷ l) (sym now))
          (λ is. absurd (subst T (ap is_some (sym sets.0) ∙ is) tt))
          ((λ i. length news + entries_for (list_of (some i) (tail k))) ∙ omega (arith, more))

      -- another first value, or another tail
      pub StandsFor-replaced : (v d : V) → value_of cmp heads k ≡ Some d → Sets cmp heads news k (Some v) → length news ≡ length heads
          → ((q : K) → eq_by_cmp cmp q k ≡ false → later q ≡ tail q)
          → StandsFor news later (with_list cmp (content_of cmp heads tail) k (v ∷ later k))
      StandsFor-replaced v d some sets more others =
          StandsFor-with_list (v ∷ later k) sets.1 others (ap (λ w. list_of w (later k)) sets.0)
          (λ is. absurd (subst T (ap is_some (sym sets.0) ∙ is) tt))
          ((λ i. length news + entries_for (list_of (some i) (tail k))) ∙ omega (arith, more))

      -- no value
      pub StandsFor-taken_out : Sets cmp heads news k None → length news + cond (is_some (value_of cmp heads k)) 1 0 ≡ length heads
          → later k ≡ [] → ((q : K) → eq_by_cmp cmp q k ≡ false → later q ≡ tail q)
          → StandsFor news later (with_list cmp (content_of cmp heads tail) k [])
      StandsFor-taken_out sets less at others =
          StandsFor-with_list [] sets.1 others (ap (λ w. list_of w (later k)) sets.0) (λ _. ap (λ x. length x) at)
          (ap (λ n. length news + n) (taken_entries (value_of cmp heads k) (tail k)) ∙ less ∙ sym (add-zero _))

      pub nothing_taken : Sets cmp heads news k None → length news + cond (is_some (value_of cmp heads k)) 1 0 ≡ length heads
          → value_of cmp heads k ≡ None → ((q : K) → later q ≡ tail q)
          → StandsFor news later (with_list cmp (content_of cmp heads tail) k [])
      nothing_taken sets less none same = StandsFor-taken_out sets less (same k ∙ empty_at none) (λ q _. same q)

      -- another first value, and then the old one again
      pub StandsFor-put_back : (v d : V) (middle : List (K × V)) → value_of cmp heads k ≡ Some d → Sets cmp heads middle k (Some v) → length middle ≡ length heads + 0
          → Sets cmp middle news k (Some d) → length news ≡ length middle
          → later k ≡ tail k → ((q : K) → eq_by_cmp cmp q k ≡ false → later q ≡ tail q)
          → StandsFor news later (content_of cmp heads tail)
      StandsFor-put_back v d middle some there more back more_back at others =
          StandsFor-unchanged heads news tail later linked (holds_at_every_key cmp exact (λ q. value_of cmp news q ≡ value_of cmp heads q) k (back.0 ∙ sym some) (λ q apart. back.1 q apart ∙ there.1 q apart))
          (holds_at_every_key cmp exact (λ q. later q ≡ tail q) k at others)
          (omega (arith, more, more_back))

      -- what puts a value at an absent key alone
      module _ (v : V) (at : value_of cmp news k ≡ Some (unwrap_or (value_of cmp heads k) v))
          (others : (q : K) → eq_by_cmp cmp q k ≡ false → value_of cmp news q ≡ value_of cmp heads q)
          (len : length news ≡ length heads + cond (is_some (value_of cmp heads k)) 0 1) where
        pub put_absent : is_some (value_of cmp heads k) ≡ false → ((q : K) → later q ≡ tail q)
            → (list_at cmp (content_of cmp heads tail) k ≡ []) × StandsFor news later (with_list cmp (content_of cmp heads tail) k (v ∷ []))
        put_absent is same =
            let none = None-is_some (value_of cmp heads k) is in
            let now : list_at cmp (content_of cmp heads tail) k ≡ [] = list_at-content_of heads tail k ∙ ap (λ w. list_of w (tail k)) none in
            (now, subst (λ (l : List V). StandsFor news later (with_list cmp (content_of cmp heads tail) k (v ∷ l))) now (first_value v none (at ∙ ap (λ w. Some (unwrap_or w v)) none, others) (len ∙ ap (λ w. length heads + cond (is_some w) 0 1) none) same))

        module _ (held : is_some (value_of cmp heads k) ≡ true) where
          heads_left : (q : K) → value_of cmp news q ≡ value_of cmp heads q
          heads_left = holds_at_every_key cmp exact (λ q. value_of cmp news q ≡ value_of cmp heads q) k (at ∙ some_value (value_of cmp heads k) v held) others

          count_left : length news ≡ length heads
          count_left = len ∙ ap (λ b. length heads + cond b 0 1) held ∙ add-zero _

          pub left_present : ((q : K) → later q ≡ tail q) → (length (list_at cmp (content_of cmp heads tail) k) ≡ 1 + length (tail k)) × StandsFor news later (content_of cmp heads tail)
          left_present same = (
            ap (λ l. length l) (list_at-content_of heads tail k) ∙ length-list_of_some (value_of cmp heads k) (tail k) held,
            StandsFor-unchanged heads news tail later linked heads_left same count_left,
          )

          -- and then one behind it
          last_value : later k ≡ tail k ++ v ∷ [] → ((q : K) → eq_by_cmp cmp q k ≡ false → later q ≡ tail q)
              → StandsFor news later (with_list cmp (content_of cmp heads tail) k (list_at cmp (content_of cmp heads tail) k ++ v ∷ []))
          last_value more others_tail =
              let some = sym (some_value (value_of cmp heads k) v held) in
              let d = unwrap_or (value_of cmp heads k) v in
              let now : list_at cmp (content_of cmp heads tail) k ≡ d ∷ tail k = list_at-content_of heads tail k ∙ ap (λ w. list_of w (tail k)) some in
              subst (λ (l : List V). StandsFor news later (with_list cmp (content_of cmp heads tail) k l)) (ap (λ l. d ∷ l) more ∙ ap (λ l. l ++ v ∷ []) (sym now))
              (StandsFor-replaced d d some (at, others) count_left others_tail)

          nothing_behind : later k ≡ tail k → ((q : K) → eq_by_cmp cmp q k ≡ false → later q ≡ tail q) → StandsFor news later (content_of cmp heads tail)
          nothing_behind same others_tail = StandsFor-unchanged heads news tail later linked heads_left (holds_at_every_key cmp exact (λ q. later q ≡ tail q) k same others_tail) count_left

          -- the value that came back goes behind its tail, or is refused
          module _ (w : V) (is : w ≡ v) where
            at_end : later k ≡ insert (tail k) (length (tail k)) w → later k ≡ tail k ++ v ∷ []
            at_end put = put ∙ insert_end (tail k) w ∙ ap (λ x. tail k ++ x ∷ []) is

            pub behind_linked : (r : Result (Unit {0}) V) → OnOk r (later k ≡ insert (tail k) (length (tail k)) w) → OnErr r (later k ≡ tail k)
                → ((q : K) → eq_by_cmp cmp q k ≡ false → later q ≡ tail q) → IsLinked cmp news later
            behind_linked (Ok u) put refused others_tail = (last_value (at_end put) others_tail).linked
            behind_linked (Err e) put refused others_tail = (nothing_behind refused others_tail).linked

            pub behind_content : (r : Result (Unit {0}) V) → OnOk r (later k ≡ insert (tail k) (length (tail k)) w) → ((q : K) → eq_by_cmp cmp q k ≡ false → later q ≡ tail q)
                → OnOk r (content_of cmp news later ≡ with_list cmp (content_of cmp heads tail) k (list_at cmp (content_of cmp heads tail) k ++ v ∷ []))
            behind_content (Ok u) put others_tail = (last_value (at_end put) others_tail).content
            behind_content (Err e) put others_tail = tt

          pub behind_refused : {A : Type 0} (r : Result A V) → later k ≡ tail k → ((q : K) → eq_by_cmp cmp q k ≡ false → later q ≡ tail q)
              → OnErr r (content_of cmp news later ≡ content_of cmp heads tail)
          behind_refused (Ok u) refused others_tail = tt
          behind_refused (Err e) refused others_tail = (nothing_behind refused others_tail).content
