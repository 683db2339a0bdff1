-- On neighbours among entries in order.
--     slice_get-last, last_entry-by_place  the entry at the last place, and what an ordered map says of it
--     last_taken                           what the first step of a walk from the end says
--     first_taken, rest_taken              and one from the start
--     last_or-map                          the last of what a function makes of entries
--     content_of-in_order                  newest values in order stand for a content entry by entry
--     first-in_order, ..                   so its ends and neighbours are theirs
--     content_of-popped, IsLinked-popped   what is left where the first entry goes
--     range_below                          the entries that a range up to a key has
--     lookup-from                          a range from a key on has the value at that key
--     first_behind, first_above            the first of two that such a range has is above the key
use Rattle.std.proofs.Common.{◌≡◌, suc, ◌-◌, ◌<◌, Bool, true, false, cond, not, ◌&&◌, T, List, [], ◌∷◌, ◌++◌, length, map, drop, slice_get, Option, Some, None, IsSome, is_some, IfSome, MatchOption, ◌↔◌, refl, sym, ap, subst, ◌∙◌, arith}
use Rattle.std.specs.List.{filter, last_or}
use Rattle.std.specs.List.Sorted.{IsStrictlySortedBy}
use Rattle.std.specs.Option.{option_map}
use Rattle.std.specs.BTreeMap.Range.{entries_between}
use Rattle.std.specs.declared.ops.Bound.TheVariants.{Excluded, Included, Unbounded}
use Rattle.std.specs.Map.{keys_of, lookup}
use Rattle.std.proofs.lemmas.Map.Entries.{lookup-filter-keys}
use Rattle.std.proofs.lemmas.Map.Keys.{sorted_head, sorted_tail}
use Rattle.std.specs.declared.cmp.Ordering.{Ordering}
use Rattle.std.specs.declared.cmp.Ordering.TheVariants.{Less, Equal, Greater}
use Rattle.std.specs.Ordering.{eq_by_cmp, is_eq, is_lt, is_le, ordering_reverse}
use Rattle.std.specs.List.{AllByRecursion}
use Rattle.std.specs.Cmp.{IsTotalOrder}
use Rattle.std.specs.FinMap.{put}
use Rattle.std.specs.FinMap.Entries.{by_order}
use Rattle.key_index_flat.specs.Content.{Content, with_list}
use Rattle.key_index_flat.specs.Storage.{content_of, value_of, IsLinked}
use Rattle.key_index_flat.proofs.content.ChainLemmas.{holds_at_every_key}
use Rattle.key_index_flat.specs.Neighbours.{first_entry, last_entry, entries_above, entries_below}

-- ---- the last entry

last_at : {E : Type 0} (e : E) (es : List E) → slice_get (e ∷ es) (length es) ≡ last_entry (e ∷ es)
last_at e [] = refl
last_at e (f ∷ fs) = last_at f fs

pub slice_get-last : {E : Type 0} (es : List E) → slice_get es (length es - 1) ≡ last_entry es
slice_get-last [] = refl
slice_get-last (e ∷ es) = let place : suc (length es) - 1 ≡ length es = omega arith in ap (λ i. slice_get (e ∷ es) i) place ∙ last_at e es

pub last_entry-by_place : {A E : Type 0} (shows : A → E) (r : Option A) (es : List E) → IsSome r ↔ (0 < length es) → IfSome r (λ p. slice_get es (length es - 1) ≡ Some (shows p)) → option_map shows r ≡ last_entry es
last_entry-by_place shows None [] has at = refl
last_entry-by_place {A = A} shows None (e ∷ es) has at = let held : IsSome {T = A} None = has.1 (omega arith) in absurd (subst T (sym held) tt)
last_entry-by_place shows (Some p) es has at = sym at ∙ slice_get-last es

last_or-append : {E : Type 0} (o : Option E) (es : List E) (e : E) → last_or o (es ++ e ∷ []) ≡ Some e
last_or-append o [] e = refl
last_or-append o (x ∷ xs) e = last_or-append (Some x) xs e

pub last_taken : {A E : Type 0} (shows : A → E) (r : Option A) (es rest : List E) → MatchOption r ((es ≡ []) × (rest ≡ [])) (λ x. es ≡ rest ++ shows x ∷ []) → option_map shows r ≡ last_entry es
last_taken shows None es rest h = sym (ap last_entry h.0)
last_taken shows (Some x) es rest h = sym (ap last_entry h ∙ last_or-append None rest (shows x))

pub first_taken : {A E : Type 0} (shows : A → E) (r : Option A) (es rest : List E) → MatchOption r ((es ≡ []) × (rest ≡ [])) (λ x. es ≡ shows x ∷ rest) → option_map shows r ≡ first_entry es
first_taken shows None es rest h = sym (ap first_entry h.0)
first_taken shows (Some x) es rest h = sym (ap first_entry h)

pub rest_taken : {A E : Type 0} (shows : A → E) (r : Option A) (es rest : List E) → MatchOption r ((es ≡ []) × (rest ≡ [])) (λ x. es ≡ shows x ∷ rest) → rest ≡ drop 1 es
rest_taken shows None es rest h = h.1 ∙ sym (ap (drop 1) h.0)
rest_taken shows (Some x) es rest h = sym (ap (drop 1) h)

-- ---- tests and maps of entries

pub filter_alike : {E : Type 0} (p q : E → Bool) → ((e : E) → p e ≡ q e) → (es : List E) → filter p es ≡ filter q es
filter_alike p q alike es i = filter (λ e. alike e i) es

filter-map : {D E : Type 0} (p : E → Bool) (f : D → E) (ds : List D) → filter p (map f ds) ≡ map f (filter (λ d. p (f d)) ds)
filter-map p f [] = refl
filter-map p f (d ∷ ds) =
    elim (p (f d)) as (λ b. cond b (f d ∷ filter p (map f ds)) (filter p (map f ds)) ≡ map f (cond b (d ∷ filter (λ d. p (f d)) ds) (filter (λ d. p (f d)) ds))) [
      | true ↦ ap (λ es. f d ∷ es) (filter-map p f ds)
      | false ↦ filter-map p f ds
    ]

first_entry-map : {D E : Type 0} (f : D → E) (ds : List D) → first_entry (map f ds) ≡ option_map f (first_entry ds)
first_entry-map f [] = refl
first_entry-map f (d ∷ ds) = refl

pub last_or-map : {D E : Type 0} (f : D → E) (o : Option D) (ds : List D) → last_or (option_map f o) (map f ds) ≡ option_map f (last_or o ds)
last_or-map f o [] = refl
last_or-map f o (d ∷ ds) = last_or-map f (Some d) ds

module _ {K V : Type 0} where
  abbrev pub entry_of : (K → List V) → K × V → K × List V
  entry_of tail e = (e.0, e.1 ∷ tail e.0)

  put_in_front : (cmp : K → K → Ordering) (k f : K) (l m : List V) (es : Content K V) → cmp k f ≡ Less → put cmp k l ((f, m) ∷ es) ≡ (k, l) ∷ (f, m) ∷ es
  put_in_front cmp k f l m es p = ap (λ r. by_order r ((k, l) ∷ (f, m) ∷ es) ((f, l) ∷ es) ((f, m) ∷ put cmp k l es)) p

  pub content_of-in_order : (cmp : K → K → Ordering) (heads : List (K × V)) (tail : K → List V) → IsStrictlySortedBy cmp (keys_of heads) → content_of cmp heads tail ≡ map (entry_of tail) heads
  content_of-in_order cmp [] tail h = refl
  content_of-in_order cmp (e ∷ []) tail h = refl
  content_of-in_order cmp (e ∷ f ∷ fs) tail h =
      ap (λ c. with_list cmp c e.0 (e.1 ∷ tail e.0)) (content_of-in_order cmp (f ∷ fs) tail (sorted_tail cmp e.0 _ h))
      ∙ put_in_front cmp e.0 f.0 (e.1 ∷ tail e.0) (f.1 ∷ tail f.0) (map (entry_of tail) fs) (sorted_head cmp e.0 _ h).0

  module _ (cmp : K → K → Ordering) (heads : List (K × V)) (tail : K → List V) (h : IsStrictlySortedBy cmp (keys_of heads)) where
    pub first-in_order : first_entry (content_of cmp heads tail) ≡ option_map (entry_of tail) (first_entry heads)
    first-in_order = ap first_entry (content_of-in_order cmp heads tail h) ∙ first_entry-map (entry_of tail) heads

    pub last-in_order : last_entry (content_of cmp heads tail) ≡ option_map (entry_of tail) (last_entry heads)
    last-in_order = ap last_entry (content_of-in_order cmp heads tail h) ∙ last_or-map (entry_of tail) None heads

    pub above-in_order : (k : K) → first_entry (entries_above cmp (content_of cmp heads tail) k) ≡ option_map (entry_of tail) (first_entry (entries_above cmp heads k))
    above-in_order k =
        ap (λ c. first_entry (entries_above cmp c k)) (content_of-in_order cmp heads tail h)
        ∙ ap first_entry (filter-map (λ e. is_lt (cmp k e.0)) (entry_of tail) heads) ∙ first_entry-map (entry_of tail) (entries_above cmp heads k)

    pub below-in_order : (k : K) → last_entry (entries_below cmp (content_of cmp heads tail) k) ≡ option_map (entry_of tail) (last_entry (entries_below cmp heads k))
    below-in_order k =
        ap (λ c. last_entry (entries_below cmp c k)) (content_of-in_order cmp heads tail h)
        ∙ ap last_entry (filter-map (λ e. is_lt (cmp e.0 k)) (entry_of tail) heads) ∙ last_or-map (entry_of tail) None (entries_below cmp heads k)

-- ---- the first entry goes

module _ {K V : Type 0} {cmp : K → K → Ordering} (o : IsTotalOrder cmp) (e : K × V) (es : List (K × V)) (tail later : K → List V)
    (h : IsStrictlySortedBy cmp (keys_of (e ∷ es))) (others : (q : K) → eq_by_cmp cmp q e.0 ≡ false → later q ≡ tail q) where
  same_behind : (fs : List (K × V)) → AllByRecursion (λ y. cmp e.0 y ≡ Less) (keys_of fs) → map (entry_of tail) fs ≡ map (entry_of later) fs
  same_behind [] below = refl
  same_behind (f ∷ fs) below =
      let apart : eq_by_cmp cmp f.0 e.0 ≡ false = ap is_eq (o.antisymm f.0 e.0 ∙ ap ordering_reverse below.0) in
      (λ i. (f.0, f.1 ∷ sym (others f.0 apart) i) ∷ same_behind fs below.1 i)

  pub content_of-popped : content_of cmp (e ∷ es) tail ≡ (e.0, e.1 ∷ tail e.0) ∷ content_of cmp es later
  content_of-popped =
      content_of-in_order cmp (e ∷ es) tail h
      ∙ ap (λ c. (e.0, e.1 ∷ tail e.0) ∷ c) (same_behind es (sorted_head cmp e.0 _ h) ∙ sym (content_of-in_order cmp es later (sorted_tail cmp e.0 _ h)))

  pub IsLinked-popped : ((x y : K) → cmp x y ≡ Equal → x ≡ y) → IsLinked cmp (e ∷ es) tail → later e.0 ≡ [] → IsLinked cmp es later
  IsLinked-popped exact linked none =
      let counts = linked.sized ∙ ap (λ c. length c) content_of-popped in
      record {
        sized = omega (arith, counts);
        headed = holds_at_every_key cmp exact (λ q. is_some (value_of cmp es q) ≡ false → length (later q) ≡ 0) e.0 (λ _. ap (λ l. length l) none) (λ q apart is.
            ap (λ l. length l) (others q apart) ∙ linked.headed q (ap (λ b. is_some (cond b (Some e.1) (value_of cmp es q))) apart ∙ is));
      }

-- ---- what a range has

is_lt-reverse : (r : Ordering) → not (is_le r) ≡ is_lt (ordering_reverse r)
is_lt-reverse Less = refl
is_lt-reverse Equal = refl
is_lt-reverse Greater = refl

from_equal : (r : Ordering) → is_eq r ≡ true → (is_le r && true) ≡ true
from_equal Less h = refl
from_equal Equal h = refl
from_equal Greater h = cc

module _ {K V : Type 0} (cmp : K → K → Ordering) (k : K) where
  -- the first entry above the key, by the first one from it on and those behind that
  abbrev pub first_behind : Option (K × V) → List (K × V) → Option (K × V)
  first_behind None l = None
  first_behind (Some e) l = cond (is_eq (cmp k e.0)) (first_entry l) (Some e)

module _ {K V : Type 0} (cmp : K → K → Ordering) (es : List (K × V)) (k : K) where
  pub range_below : IsTotalOrder cmp → entries_between cmp Unbounded (Excluded k) es ≡ entries_below cmp es k
  range_below o = filter_alike _ _ (λ e. is_lt-reverse (cmp k e.0) ∙ ap is_lt (sym (o.antisymm e.0 k))) es

  pub lookup-from : lookup (eq_by_cmp cmp k) (entries_between cmp (Included k) Unbounded es) ≡ value_of cmp es k
  lookup-from = lookup-filter-keys (eq_by_cmp cmp k) _ true (λ q. from_equal (cmp k q)) es

  abbrev from_key : List (K × V) → List (K × V)
  from_key l = entries_between cmp (Included k) Unbounded l

  above_from : (d : K) → ((q : K) → cmp d q ≡ Less → cmp k q ≡ Less) → (l : List (K × V)) → AllByRecursion (λ q. cmp d q ≡ Less) (keys_of l) → entries_above cmp l k ≡ from_key l
  above_from d less [] h = refl
  above_from d less (e ∷ l) h =
      let is : cmp k e.0 ≡ Less = less e.0 h.0 in
      ap (λ r. cond (is_lt r) (e ∷ entries_above cmp l k) (entries_above cmp l k)) is
      ∙ ap (λ m. e ∷ m) (above_from d less l h.1)
      ∙ sym (ap (λ r. cond (is_le r && true) (e ∷ from_key l) (from_key l)) is)

  above_by_first : IsTotalOrder cmp → (l : List (K × V)) → IsStrictlySortedBy cmp (keys_of l) → first_entry (entries_above cmp l k) ≡ first_behind cmp k (first_entry (from_key l)) (drop 1 (from_key l))
  above_by_first o [] h = refl
  above_by_first o (e ∷ l) h =
      let above = entries_above cmp l k in
      let from = from_key l in
      elim (cmp k e.0) as (λ r. cmp k e.0 ≡ r → first_entry (cond (is_lt r) (e ∷ above) above)
      ≡ first_behind cmp k (first_entry (cond (is_le r && true) (e ∷ from) from)) (drop 1 (cond (is_le r && true) (e ∷ from) from))) [
        | Less ↦ λ is. sym (ap (λ r. cond (is_eq r) (first_entry from) (Some e)) is)
        | Equal ↦ λ is. ap first_entry (above_from e.0 (λ q less. o.congr k e.0 q is ∙ less) l (sorted_head cmp e.0 _ h)) ∙ sym (ap (λ r. cond (is_eq r) (first_entry from) (Some e)) is)
        | Greater ↦ λ is. above_by_first o l (sorted_tail cmp e.0 _ h)
      ] refl

  pub first_above : IsTotalOrder cmp → IsStrictlySortedBy cmp (keys_of es) → (from : List (K × V)) → from ≡ from_key es → (first : Option (K × V)) → first ≡ first_entry from
      → first_behind cmp k first (drop 1 from) ≡ first_entry (entries_above cmp es k)
  first_above o sorted from is first found =
      ap (λ f. first_behind cmp k f (drop 1 from)) found ∙ ap (λ l. first_behind cmp k (first_entry l) (drop 1 l)) is ∙ sym (above_by_first o es sorted)
