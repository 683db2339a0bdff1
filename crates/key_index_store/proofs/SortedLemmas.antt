-- On entries that stand in the order of their keys, by an order without ties: the place of a key is how many keys are below it.
--     place_within                      it is in the list, or behind its last entry
--     place_above, place_at_most        an entry with a lesser key stands in front of it, and each other one doesn't
--     place_own                         an entry stands at the place of its own key, and is found
--     key-place, place_below            a key that is held stands at its place
--     place_before                      in front of each entry with a greater key
--     insert-put, set-put, remove-without   an entry put in there, set there, or taken out
--     map-insert, map-remove            the same of what the entries are read of
--     All-insert, length-insert         a list with one item more
--     remove-insert                     what went in goes out again
use Rattle.std.proofs.Common.{◌≡◌, ℕ, zero, suc, ◌+◌, ◌≤◌, true, false, cond, not, T, List, [], ◌∷◌, length, map, take, drop, Some, None, is_some, slice_get, slice_set, All, refl, sym, ap, subst, ◌∙◌, length-append, length-take, length-drop, arith}
use Rattle.std.proofs.lemmas.Bool.{false≢true}
use Rattle.std.proofs.lemmas.List.Elements.{All-append, All-cons, All-drop, All-take}
use Rattle.std.specs.Cmp.{IsTotalOrder, tied_itself}
use Rattle.std.specs.FinMap.{find, is_sorted, put}
use Rattle.std.specs.FinMap.Entries.{below_all, by_order, where_key}
use Rattle.std.specs.Option.{option_map}
use Rattle.std.specs.Ordering.{eq_by_cmp, is_eq, is_lt, ordering_reverse}
use Rattle.std.specs.Prelude.{insert, remove}
use Rattle.std.specs.declared.cmp.Ordering.{Ordering}
use Rattle.std.specs.declared.cmp.Ordering.TheVariants.{Less, Equal, Greater}
use Rattle.key_index_flat.specs.Neighbours.{entries_below}
use Rattle.key_index_flat.specs.laws.Laws.{T-and_first, T-and_second}
use Rattle.key_index_flat.proofs.content.ContentLemmas.{Less-is_lt}
use Rattle.key_index_flat.proofs.entries.EntryLemmas.{some_injective, some_not_none}

-- ---- any list

pub All-insert : {X : Type 0} (P : X → Type 0) (l : List X) (i : ℕ) (x : X) → P x → All P l → All P (insert l i x)
All-insert P l i x h all = All-append P (take i l) (x ∷ drop i l) (All-take P i l all) (All-cons P x (drop i l) h (All-drop P i l all))

pub map-insert : {X Y : Type 0} (f : X → Y) (l : List X) (i : ℕ) (x : X) → map f (insert l i x) ≡ insert (map f l) i (f x)
map-insert f l zero x = refl
map-insert f [] (suc i) x = refl
map-insert f (y ∷ ys) (suc i) x = ap (λ l. f y ∷ l) (map-insert f ys i x)

pub map-remove : {X Y : Type 0} (f : X → Y) (l : List X) (i : ℕ) → map f (remove l i) ≡ remove (map f l) i
map-remove f [] zero = refl
map-remove f [] (suc i) = refl
map-remove f (y ∷ ys) zero = refl
map-remove f (y ∷ ys) (suc i) = ap (λ l. f y ∷ l) (map-remove f ys i)

pub map-slice_set : {X Y : Type 0} (f : X → Y) (l : List X) (i : ℕ) (x : X) → map f (slice_set l i x) ≡ slice_set (map f l) i (f x)
map-slice_set f [] i x = refl
map-slice_set f (y ∷ ys) zero x = refl
map-slice_set f (y ∷ ys) (suc i) x = ap (λ l. f y ∷ l) (map-slice_set f ys i x)

pub length-insert : {X : Type 0} (l : List X) (i : ℕ) (x : X) → length (insert l i x) ≡ length l + 1
length-insert l i x = omega (arith, length-append (take i l) (x ∷ drop i l), length-take i l, length-drop i l)

pub remove-insert : {X : Type 0} (l : List X) (i : ℕ) (x : X) → i ≤ length l → remove (insert l i x) i ≡ l
remove-insert [] zero x h = refl
remove-insert [] (suc i) x h = absurd (omega (arith, h))
remove-insert (y ∷ ys) zero x h = refl
remove-insert (y ∷ ys) (suc i) x h = ap (λ l. y ∷ l) (remove-insert ys i x (omega (arith, h)))

-- ---- orders

not_less : (r : Ordering) → r ≡ Less → is_lt r ≡ false → ⊥
not_less r e n = false≢true (sym n ∙ ap is_lt e)

is_lt-Less : (r : Ordering) → is_lt r ≡ true → r ≡ Less
is_lt-Less r t = Less-is_lt r (subst T (sym t) tt)

module _ {K : Type 0} {R : K → K → Ordering} (o : IsTotalOrder R) where
  turned : (x y : K) (r : Ordering) → R x y ≡ r → R y x ≡ ordering_reverse r
  turned x y r p = o.antisymm y x ∙ ap ordering_reverse p

module _ {K X : Type 0} {R : K → K → Ordering} (o : IsTotalOrder R) (exact : (x y : K) → R x y ≡ Equal → x ≡ y) where
  abbrev place_of : List (K × X) → K → ℕ
  place_of es k = length (entries_below R es k)

  -- ---- the place of a key behind a first entry

  none_below : (k x : K) (es : List (K × X)) → is_lt (R x k) ≡ false → T (below_all R x es) → entries_below R es k ≡ []
  none_below k x [] n h = refl
  none_below k x (e ∷ es) n h =
      elim (is_lt (R e.0 k)) as (λ b. is_lt (R e.0 k) ≡ b → cond b (e ∷ entries_below R es k) (entries_below R es k) ≡ []) [
        | true ↦ λ t. absurd (not_less (R x k) (o.trans x e.0 k (Less-is_lt _ (T-and_first _ _ h)) (is_lt-Less _ t)) n)
        | false ↦ λ t. none_below k x es n (T-and_second _ _ h)
      ] refl

  first_counts : (k : K) (e : K × X) (es : List (K × X)) → R e.0 k ≡ Less → entries_below R (e ∷ es) k ≡ e ∷ entries_below R es k
  first_counts k e es p = ap (λ r. cond (is_lt r) (e ∷ entries_below R es k) (entries_below R es k)) p

  first_place : (k : K) (e : K × X) (es : List (K × X)) → T (is_sorted R (e ∷ es)) → is_lt (R e.0 k) ≡ false → entries_below R (e ∷ es) k ≡ []
  first_place k e es h n = ap (λ b. cond b (e ∷ entries_below R es k) (entries_below R es k)) n ∙ none_below k e.0 es n (T-and_first _ _ h)

  find-below_all : (k x : K) (es : List (K × X)) → R k x ≡ Less → T (below_all R x es) → find R k es ≡ None
  find-below_all k x [] p h = refl
  find-below_all k x (e ∷ es) p h =
      ap (λ r. cond (is_eq r) (Some e.1) (find R k es)) (o.trans k x e.0 p (Less-is_lt _ (T-and_first _ _ h))) ∙ find-below_all k x es p (T-and_second _ _ h)

  not_held : (k : K) (e : K × X) (es : List (K × X)) → T (is_sorted R (e ∷ es)) → R k e.0 ≡ Less → is_some (find R k es) ≡ true → ⊥
  not_held k e es h p f = false≢true (sym (ap is_some (find-below_all k e.0 es p (T-and_first _ _ h))) ∙ f)

  -- ---- an entry at a place

  entry_above : (k : K) (es : List (K × X)) (i : ℕ) (e : K × X) → T (below_all R k es) → slice_get es i ≡ Some e → R k e.0 ≡ Less
  entry_above k [] i e h at = absurd (some_not_none e (sym at))
  entry_above k (x ∷ xs) zero e h at = ap (λ (y : K × X). R k y.0) (sym (some_injective x e at)) ∙ Less-is_lt _ (T-and_first _ _ h)
  entry_above k (x ∷ xs) (suc i) e h at = entry_above k xs i e (T-and_second _ _ h) at

  pub place_own : (es : List (K × X)) (i : ℕ) (e : K × X) → T (is_sorted R es) → slice_get es i ≡ Some e → (i ≡ place_of es e.0) × (find R e.0 es ≡ Some e.1)
  place_own [] i e h at = absurd (some_not_none e (sym at))
  place_own (x ∷ xs) zero e h at =
      let is = some_injective x e at in
      let same : R x.0 e.0 ≡ Equal = ap (λ (y : K × X). R y.0 e.0) is ∙ tied_itself o e.0 in
      let none = ap (λ l. length l) (first_place e.0 x xs h (ap is_lt same)) in
      (omega (arith, none), ap (λ r. cond (is_eq r) (Some x.1) (find R e.0 xs)) (turned o x.0 e.0 Equal same) ∙ ap (λ (y : K × X). Some y.1) is)
  place_own (x ∷ xs) (suc i) e h at =
      let rest = place_own xs i e (T-and_second _ _ h) at in
      let less = entry_above x.0 xs i e (T-and_first _ _ h) at in
      let first = ap (λ l. length l) (first_counts e.0 x xs less) in
      (omega (arith, first, rest.0), ap (λ r. cond (is_eq r) (Some x.1) (find R e.0 xs)) (turned o x.0 e.0 Less less) ∙ rest.1)

  -- ---- a key that is held

  pub key-place : (es : List (K × X)) (k : K) → T (is_sorted R es) → is_some (find R k es) ≡ true → option_map (λ (e : K × X). e.0) (slice_get es (place_of es k)) ≡ Some k
  key-place [] k h f = absurd (false≢true f)
  key-place (x ∷ xs) k h f =
      elim (R k x.0) as (λ r. R k x.0 ≡ r → is_some (cond (is_eq r) (Some x.1) (find R k xs)) ≡ true → option_map (λ (e : K × X). e.0) (slice_get (x ∷ xs) (place_of (x ∷ xs) k)) ≡ Some k) [
        | Less ↦ λ p g. absurd (not_held k x xs h p g)
        | Equal ↦ λ p g.
            ap (λ l. option_map (λ (e : K × X). e.0) (slice_get (x ∷ xs) (length l))) (first_place k x xs h (ap is_lt (turned o k x.0 Equal p)))
            ∙ ap (λ y. Some y) (sym (exact k x.0 p))
        | Greater ↦ λ p g.
            ap (λ l. option_map (λ (e : K × X). e.0) (slice_get (x ∷ xs) (length l))) (first_counts k x xs (turned o k x.0 Greater p))
            ∙ key-place xs k (T-and_second _ _ h) g
      ] refl f

  -- ---- an edit at the place of a key

  pub insert-put : (es : List (K × X)) (k : K) (v : X) → T (is_sorted R es) → is_some (find R k es) ≡ false → insert es (place_of es k) (k, v) ≡ put R k v es
  insert-put [] k v h n = refl
  insert-put (x ∷ xs) k v h n =
      elim (R k x.0) as (λ r. R k x.0 ≡ r → is_some (cond (is_eq r) (Some x.1) (find R k xs)) ≡ false
      → insert (x ∷ xs) (place_of (x ∷ xs) k) (k, v) ≡ by_order r ((k, v) ∷ x ∷ xs) ((x.0, v) ∷ xs) (x ∷ put R k v xs)) [
        | Less ↦ λ p m. ap (λ l. insert (x ∷ xs) (length l) (k, v)) (first_place k x xs h (ap is_lt (turned o k x.0 Less p)))
        | Equal ↦ λ p m. absurd (false≢true (sym m))
        | Greater ↦ λ p m.
            ap (λ l. insert (x ∷ xs) (length l) (k, v)) (first_counts k x xs (turned o k x.0 Greater p)) ∙ ap (λ l. x ∷ l) (insert-put xs k v (T-and_second _ _ h) m)
      ] refl n

  pub set-put : (es : List (K × X)) (k : K) (v : X) → T (is_sorted R es) → is_some (find R k es) ≡ true → slice_set es (place_of es k) (k, v) ≡ put R k v es
  set-put [] k v h f = absurd (false≢true f)
  set-put (x ∷ xs) k v h f =
      elim (R k x.0) as (λ r. R k x.0 ≡ r → is_some (cond (is_eq r) (Some x.1) (find R k xs)) ≡ true
      → slice_set (x ∷ xs) (place_of (x ∷ xs) k) (k, v) ≡ by_order r ((k, v) ∷ x ∷ xs) ((x.0, v) ∷ xs) (x ∷ put R k v xs)) [
        | Less ↦ λ p g. absurd (not_held k x xs h p g)
        | Equal ↦ λ p g.
            ap (λ l. slice_set (x ∷ xs) (length l) (k, v)) (first_place k x xs h (ap is_lt (turned o k x.0 Equal p))) ∙ ap (λ y. (y, v) ∷ xs) (exact k x.0 p)
        | Greater ↦ λ p g.
            ap (λ l. slice_set (x ∷ xs) (length l) (k, v)) (first_counts k x xs (turned o k x.0 Greater p)) ∙ ap (λ l. x ∷ l) (set-put xs k v (T-and_second _ _ h) g)
      ] refl f

  -- the entries of other keys
  abbrev pub without : K → List (K × X) → List (K × X)
  without k es = where_key R (λ x. not (eq_by_cmp R k x)) es

  without_above : (k : K) (es : List (K × X)) → T (below_all R k es) → without k es ≡ es
  without_above k [] h = refl
  without_above k (e ∷ es) h =
      ap (λ r. cond (not (is_eq r)) (e ∷ without k es) (without k es)) (Less-is_lt _ (T-and_first _ _ h)) ∙ ap (λ l. e ∷ l) (without_above k es (T-and_second _ _ h))

  pub remove-without : (es : List (K × X)) (k : K) → T (is_sorted R es) → is_some (find R k es) ≡ true → remove es (place_of es k) ≡ without k es
  remove-without [] k h f = absurd (false≢true f)
  remove-without (x ∷ xs) k h f =
      elim (R k x.0) as (λ r. R k x.0 ≡ r → is_some (cond (is_eq r) (Some x.1) (find R k xs)) ≡ true
      → remove (x ∷ xs) (place_of (x ∷ xs) k) ≡ cond (not (is_eq r)) (x ∷ without k xs) (without k xs)) [
        | Less ↦ λ p g. absurd (not_held k x xs h p g)
        | Equal ↦ λ p g.
            ap (λ l. remove (x ∷ xs) (length l)) (first_place k x xs h (ap is_lt (turned o k x.0 Equal p)))
            ∙ sym (without_above k xs (subst (λ y. T (below_all R y xs)) (sym (exact k x.0 p)) (T-and_first _ _ h)))
        | Greater ↦ λ p g.
            ap (λ l. remove (x ∷ xs) (length l)) (first_counts k x xs (turned o k x.0 Greater p)) ∙ ap (λ l. x ∷ l) (remove-without xs k (T-and_second _ _ h) g)
      ] refl f
