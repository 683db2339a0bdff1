-- On the neighbours of a key: where each list stands in the order of its keys, the positions of an index stand for the entries of the map.
--     IsTold                                  of a position that is found: it is live, and its entry is the one that is asked for
--     next_list, next_filled                  behind the last place of a list stand the values of the next one, which has some
--     values_split                            of a content stand the values under lower index keys first, then those of one, then those of higher ones
--     last_value, last_lower                  the last value of all, and the last one below a key
--     place_in                                a place in a list, by what stands there if something does
--     last_taken                              the last of some items, and of the first ones of a list
--     KeepsOrdered                            what a store keeps of its log, by an index whose keys are in order
--     entries_held                            the entries of all positions are those of the map
--     above_told, below_told                  the nearest position above a key, and below it
--     above_all, from_all                     all entries above a key, and from it on, of positions that begin no later than its place
--     above_behind                            all entries above a key, of positions that begin behind its own
--     live_from                               these positions are live
--     first_told, last_told                   the first and the last of all
use Rattle.std.proofs.Common.{◌≡◌, ◌≤◌, ◌<◌, ◌+◌, ◌-◌, ℕ, zero, suc, Bool, true, false, cond, List, [], ◌∷◌, ◌++◌, map, length, take, drop, T, All, Option, Some, None, is_some, unwrap_or, refl, sym, ap, subst, ◌∙◌, append_assoc, append-nil, length-append, slice_get, arith}
use Rattle.std.proofs.lemmas.Bool.{false≢true}
use Rattle.std.proofs.lemmas.Grind.{flat_map-append}
use Rattle.std.proofs.lemmas.List.{drop_all, drop_at, drop-append-le, drop-map, map-append, take_at, take-map}
use Rattle.std.proofs.lemmas.List.Elements.{All-append, All-cons, All-drop, All-filter, All-head, All-map, All-nil, All-tail, All-take, All-weaker, filter-append, filter_passes}
use Rattle.std.proofs.lemmas.Map.Lookups.{exact_bytes}
use Rattle.std.specs.Cmp.{IsTotalOrder, tied_itself}
use Rattle.std.specs.Cmp.Lexicographic.{nat_list_cmp_total}
use Rattle.std.specs.FinMap.{entries, entries-from_sorted, find, from_sorted, get, get-from_sorted, is_sorted, same_map}
use Rattle.std.specs.FinMap.Entries.{below_all}
use Rattle.std.specs.List.{filter, last_or}
use Rattle.std.specs.Option.{IfSome, option_map}
use Rattle.std.specs.Ordering.{is_eq, is_gt, is_le, is_lt, ordering_reverse}
use Rattle.std.specs.declared.cmp.Ordering.{Ordering}
use Rattle.std.specs.declared.cmp.Ordering.TheVariants.{Less, Equal, Greater}
use Rattle.key_index_flat.specs.Content.{Content, IsLawful, all_filled, is_filled, list_at}
use Rattle.key_index_flat.specs.FullKeys.{IsBytes, byte_cmp, unflagged}
use Rattle.key_index_flat.specs.Neighbours.{KeepsOrder, entries_above, entries_below, first_entry, last_entry, last_list, or_cycled, prev_list}
use Rattle.key_index_flat.specs.Values.{values_of}
use Rattle.key_index_flat.specs.View.{View, run_at, run_of}
use Rattle.key_index_flat.specs.Walk.{entries_from}
use Rattle.key_index_flat.specs.laws.Laws.{T-and, T-and_first, T-and_second, all_filled-where_key}
use Rattle.key_index_flat.proofs.content.ContentLemmas.{Less-is_lt, list_at-below_all}
use Rattle.key_index_flat.proofs.entries.MapLemmas.{own_list}
use Rattle.key_index_flat.proofs.neighbours.NeighbourLemmas.{last_or-map}
use Rattle.key_index_flat.proofs.neighbours.WalkLemmas.{above_next}
use Rattle.key_index_store.specs.Indexed.{Indexes, IsLive, IsIn, IsPlace, IsUnder, Keeps, entry_at}
use Rattle.key_index_store.specs.Positions.{positions_before, positions_from}
use Rattle.key_index_store.specs.Stored.{Values, entry_after, entry_before, held_by}
use Rattle.key_index_store.specs.declared.store.Tail.{Tail}
use Rattle.key_index_store.proofs.KeepLemmas.{kept_held}
use Rattle.key_index_store.proofs.SearchLemmas.{at_below, at_held}

abbrev pub Pair : Type 0
Pair = List ℕ × List ℕ

-- the position that is found is live, and its entry is told
abbrev pub IsTold : List ℕ → Option ℕ → Option Pair → Type 0
IsTold log r answer = IfSome r (IsLive log) × (option_map (entry_at log) r ≡ answer)

-- ---- lists

both : {X : Type 0} (P Q : X → Type 0) (l : List X) → All P l → All Q l → All (λ x. P x × Q x) l
both P Q [] p q = All-nil (λ x. P x × Q x)
both P Q (x ∷ xs) p q = All-cons (λ x. P x × Q x) x xs (All-head P x xs p, All-head Q x xs q) (both P Q xs (All-tail P x xs p) (All-tail Q x xs q))

all_pass : {X : Type 0} (p : X → Bool) (l : List X) → All (λ x. p x ≡ true) l → filter p l ≡ l
all_pass p [] h = refl
all_pass p (x ∷ xs) h =
    ap (λ b. cond b (x ∷ filter p xs) (filter p xs)) (All-head (λ x. p x ≡ true) x xs h) ∙ ap (λ l. x ∷ l) (all_pass p xs (All-tail (λ x. p x ≡ true) x xs h))

none_pass : {X : Type 0} (p : X → Bool) (l : List X) → All (λ x. p x ≡ false) l → filter p l ≡ []
none_pass p [] h = refl
none_pass p (x ∷ xs) h =
    ap (λ b. cond b (x ∷ filter p xs) (filter p xs)) (All-head (λ x. p x ≡ false) x xs h) ∙ none_pass p xs (All-tail (λ x. p x ≡ false) x xs h)

first_entry-map : {X Y : Type 0} (f : X → Y) (l : List X) → option_map f (first_entry l) ≡ first_entry (map f l)
first_entry-map f [] = refl
first_entry-map f (x ∷ xs) = refl

first_has : {X : Type 0} (P : X → Type 0) (l : List X) → All P l → IfSome (first_entry l) P
first_has P [] h = tt
first_has P (x ∷ xs) h = All-head P x xs h

last_has : {X : Type 0} (P : X → Type 0) (o : Option X) (l : List X) → IfSome o P → All P l → IfSome (last_or o l) P
last_has P o [] at h = at
last_has P o (x ∷ xs) at h = last_has P (Some x) xs (All-head P x xs h) (All-tail P x xs h)

last_or-append : {X : Type 0} (o : Option X) (xs ys : List X) → last_or o (xs ++ ys) ≡ last_or (last_or o xs) ys
last_or-append o [] ys = refl
last_or-append o (x ∷ xs) ys = last_or-append (Some x) xs ys

is_some-last_or : {X : Type 0} (x : X) (xs : List X) → is_some (last_or (Some x) xs) ≡ true
is_some-last_or x [] = refl
is_some-last_or x (y ∷ ys) = is_some-last_or y ys

take-next : {X : Type 0} (l : List X) (n : ℕ) (x : X) → slice_get l n ≡ Some x → take (suc n) l ≡ take n l ++ x ∷ []
take-next [] n x at = absurd (false≢true (ap is_some at))
take-next (y ∷ ys) zero x at = ap (λ z. z ∷ []) (ap (λ o. unwrap_or o y) at)
take-next (y ∷ ys) (suc n) x at = ap (λ l. y ∷ l) (take-next ys n x at)

place_within : {X : Type 0} (l : List X) (n : ℕ) (x : X) → slice_get l n ≡ Some x → n < length l
place_within [] n x at = absurd (false≢true (ap is_some at))
place_within (y ∷ ys) zero x at = omega arith
place_within (y ∷ ys) (suc n) x at = let rest = place_within ys n x at in omega (arith, rest)

-- a place where an item may stand
pub place_in : {X : Type 0} (of : X → ℕ) (l : List ℕ) (n : ℕ) (o : Option X) → n ≤ length l → IfSome o (λ x. slice_get l n ≡ Some (of x)) → IsIn l n (is_some o)
place_in of l n None within at = within
place_in of l n (Some x) within at = place_within l n (of x) at

-- behind some items stand the first ones of a list
pub last_taken : {X : Type 0} (lower l : List X) (place : ℕ) (x : X) → 0 < place → slice_get l (place - 1) ≡ Some x → Some x ≡ last_entry (lower ++ take place l)
last_taken lower l zero x some at = absurd (omega (arith, some))
last_taken lower l (suc n) x some at =
    sym (last_or-append None lower (take (suc n) l)
    ∙ ap (last_or (last_or None lower)) (take-next l n x (subst (λ m. slice_get l m ≡ Some x) (omega arith) at))
    ∙ last_or-append (last_or None lower) (take n l) (x ∷ []))

-- ---- entries in the order of their keys, beside a key

module _ {K X : Type 0} {R : K → K → Ordering} (o : IsTotalOrder R) (k : K) where
  -- the key's own
  abbrev own : List (K × X) → List (K × X)
  own es = filter (λ e. is_eq (R k e.0)) es

  abbrev above : List (K × X) → List (K × X)
  above es = entries_above R es k

  abbrev below : List (K × X) → List (K × X)
  below es = entries_below R es k

  -- its own and those above it
  abbrev from : List (K × X) → List (K × X)
  from es = filter (λ e. is_le (R k e.0)) es

  behind : (x : K) (es : List (K × X)) → ((y : K) → R x y ≡ Less → R k y ≡ Less) → T (below_all R x es) → All (λ e. R k e.0 ≡ Less) es
  behind x [] through h = All-nil (λ (e : K × X). R k e.0 ≡ Less)
  behind x (e ∷ es) through h = All-cons (λ (e : K × X). R k e.0 ≡ Less) e es (through e.0 (Less-is_lt _ (T-and_first _ _ h))) (behind x es through (T-and_second _ _ h))

  none_below : (es : List (K × X)) → All (λ e. R k e.0 ≡ Less) es → below es ≡ []
  none_below es h =
      none_pass (λ e. is_lt (R e.0 k)) es
      (All-weaker (λ (e : K × X). R k e.0 ≡ Less) (λ e. is_lt (R e.0 k) ≡ false) (λ e q. ap is_lt (o.antisymm e.0 k ∙ ap ordering_reverse q)) es h)

  none_own : (es : List (K × X)) → All (λ e. R k e.0 ≡ Less) es → own es ≡ []
  none_own es h = none_pass (λ e. is_eq (R k e.0)) es (All-weaker (λ (e : K × X). R k e.0 ≡ Less) (λ e. is_eq (R k e.0) ≡ false) (λ e q. ap is_eq q) es h)

  all_above : (es : List (K × X)) → All (λ e. R k e.0 ≡ Less) es → above es ≡ es
  all_above es h = all_pass (λ e. is_lt (R k e.0)) es (All-weaker (λ (e : K × X). R k e.0 ≡ Less) (λ e. is_lt (R k e.0) ≡ true) (λ e q. ap is_lt q) es h)

  all_from : (es : List (K × X)) → All (λ e. R k e.0 ≡ Less) es → from es ≡ es
  all_from es h = all_pass (λ e. is_le (R k e.0)) es (All-weaker (λ (e : K × X). R k e.0 ≡ Less) (λ e. is_le (R k e.0) ≡ true) (λ e q. ap is_le q) es h)

  all_below : (es : List (K × X)) → All (λ e. R e.0 k ≡ Less) es → below es ≡ es
  all_below es h = all_pass (λ e. is_lt (R e.0 k)) es (All-weaker (λ (e : K × X). R e.0 k ≡ Less) (λ e. is_lt (R e.0 k) ≡ true) (λ e q. ap is_lt q) es h)

  none_above : (es : List (K × X)) → All (λ e. R e.0 k ≡ Less) es → above es ≡ []
  none_above es h =
      none_pass (λ e. is_lt (R k e.0)) es
      (All-weaker (λ (e : K × X). R e.0 k ≡ Less) (λ e. is_lt (R k e.0) ≡ false) (λ e q. ap is_lt (o.antisymm k e.0 ∙ ap ordering_reverse q)) es h)

  none_from : (es : List (K × X)) → All (λ e. R e.0 k ≡ Less) es → from es ≡ []
  none_from es h =
      none_pass (λ e. is_le (R k e.0)) es
      (All-weaker (λ (e : K × X). R e.0 k ≡ Less) (λ e. is_le (R k e.0) ≡ false) (λ e q. ap is_le (o.antisymm k e.0 ∙ ap ordering_reverse q)) es h)

  above_above : (es : List (K × X)) → above (above es) ≡ above es
  above_above es = all_pass (λ e. is_lt (R k e.0)) (above es) (filter_passes (λ e. is_lt (R k e.0)) es)

  -- behind an entry that isn't below the key all are above it
  behind_less : (e : K × X) (es : List (K × X)) → R k e.0 ≡ Less → T (is_sorted R (e ∷ es)) → All (λ e. R k e.0 ≡ Less) es
  behind_less e es q h = behind e.0 es (λ y p. o.trans k e.0 y q p) (T-and_first _ _ h)

  behind_equal : (e : K × X) (es : List (K × X)) → R k e.0 ≡ Equal → T (is_sorted R (e ∷ es)) → All (λ e. R k e.0 ≡ Less) es
  behind_equal e es q h = behind e.0 es (λ y p. o.congr k e.0 y q ∙ p) (T-and_first _ _ h)

  split_at : (es : List (K × X)) → T (is_sorted R es) → es ≡ below es ++ (own es ++ above es)
  split_at [] h = refl
  split_at (e ∷ es) h =
      let rest = split_at es (T-and_second _ _ h) in
      elim (R k e.0) as (λ r. R k e.0 ≡ r → e ∷ es ≡ cond (is_lt (ordering_reverse r)) (e ∷ below es) (below es) ++ (cond (is_eq r) (e ∷ own es) (own es) ++ cond (is_lt r) (e ∷ above es) (above es))) [
        | Less ↦ λ q.
            let all = behind_less e es q h in
            ap (λ l. e ∷ l) (sym (all_above es all)) ∙ (λ i. sym (none_below es all) i ++ (sym (none_own es all) i ++ (e ∷ above es)))
        | Equal ↦ λ q.
            let none = none_below es (behind_equal e es q h) in
            ap (λ l. e ∷ l) (rest ∙ ap (λ l. l ++ (own es ++ above es)) none) ∙ ap (λ l. l ++ ((e ∷ own es) ++ above es)) (sym none)
        | Greater ↦ λ q. ap (λ l. e ∷ l) rest
      ] refl ∙ ap (λ r. cond (is_lt r) (e ∷ below es) (below es) ++ (own (e ∷ es) ++ above (e ∷ es))) (sym (o.antisymm e.0 k))

  length-own : (es : List (K × X)) → T (is_sorted R es) → length (own es) ≡ cond (is_some (find R k es)) 1 0
  length-own [] h = refl
  length-own (e ∷ es) h =
      elim (R k e.0) as (λ r. R k e.0 ≡ r → length (cond (is_eq r) (e ∷ own es) (own es)) ≡ cond (is_some (cond (is_eq r) (Some e.1) (find R k es))) 1 0) [
        | Less ↦ λ q. length-own es (T-and_second _ _ h)
        | Equal ↦ λ q. ap (λ (l : List (K × X)). length (e ∷ l)) (none_own es (behind_equal e es q h))
        | Greater ↦ λ q. length-own es (T-and_second _ _ h)
      ] refl

  -- at the place behind those that are below it
  module _ (es : List (K × X)) (h : T (is_sorted R es)) (place : ℕ) (at : place ≡ length (below es)) where
    take_place : take place es ≡ below es
    take_place = ap (take place) (split_at es h) ∙ take_at (below es) (own es ++ above es) place (sym at)

    drop_behind : (is_held : Bool) → is_held ≡ is_some (find R k es) → drop (place + cond is_held 1 0) es ≡ above es
    drop_behind is_held held =
        let counted : length (below es ++ own es) ≡ place + cond is_held 1 0 = length-append (below es) (own es) ∙ (λ i. sym at i + (length-own es h ∙ ap (λ b. cond b 1 0) (sym held)) i) in
        ap (drop (place + cond is_held 1 0)) (split_at es h ∙ sym (append_assoc (below es) (own es) (above es)))
        ∙ drop_at (below es ++ own es) (above es) (place + cond is_held 1 0) counted

  -- from a place on that is not behind those that are below it
  module _ (es : List (K × X)) (h : T (is_sorted R es)) (place : ℕ) (low : place ≤ length (below es)) where
    all_lower : All (λ e. R e.0 k ≡ Less) (below es)
    all_lower =
        All-weaker (λ (e : K × X). is_lt (R e.0 k) ≡ true) (λ e. R e.0 k ≡ Less) (λ e q. Less-is_lt _ (subst T (sym q) tt)) (below es) (filter_passes (λ e. is_lt (R e.0 k)) es)

    abbrev not_below : List (K × X)
    not_below = own es ++ above es

    drop_low : drop place es ≡ drop place (below es) ++ not_below
    drop_low = ap (drop place) (split_at es h) ∙ drop-append-le place (below es) not_below low

    above_drop : above (drop place es) ≡ above es
    above_drop =
        ap above drop_low ∙ above_behind (drop place (below es)) (All-drop (λ (e : K × X). R e.0 k ≡ Less) place (below es) all_lower)
        ∙ sym (ap above (split_at es h) ∙ above_behind (below es) all_lower)
      where
        above_behind : (xs : List (K × X)) → All (λ e. R e.0 k ≡ Less) xs → above (xs ++ not_below) ≡ above not_below
        above_behind xs all = filter-append (λ e. is_lt (R k e.0)) xs not_below ∙ ap (λ l. l ++ above not_below) (none_above xs all)

    from_drop : from (drop place es) ≡ from es
    from_drop =
        ap from drop_low ∙ from_behind (drop place (below es)) (All-drop (λ (e : K × X). R e.0 k ≡ Less) place (below es) all_lower)
        ∙ sym (ap from (split_at es h) ∙ from_behind (below es) all_lower)
      where
        from_behind : (xs : List (K × X)) → All (λ e. R e.0 k ≡ Less) xs → from (xs ++ not_below) ≡ from not_below
        from_behind xs all = filter-append (λ e. is_le (R k e.0)) xs not_below ∙ ap (λ l. l ++ from not_below) (none_from xs all)

  -- between lower entries and higher ones
  module _ (lower mid upper : List (K × X)) (low : All (λ e. R e.0 k ≡ Less) lower) (high : All (λ e. R k e.0 ≡ Less) upper) where
    above_between : above (lower ++ (mid ++ upper)) ≡ above mid ++ upper
    above_between =
        filter-append (λ e. is_lt (R k e.0)) lower (mid ++ upper) ∙ ap (λ l. l ++ above (mid ++ upper)) (none_above lower low)
        ∙ filter-append (λ e. is_lt (R k e.0)) mid upper ∙ ap (λ l. above mid ++ l) (all_above upper high)

    from_between : from (lower ++ (mid ++ upper)) ≡ from mid ++ upper
    from_between =
        filter-append (λ e. is_le (R k e.0)) lower (mid ++ upper) ∙ ap (λ l. l ++ from (mid ++ upper)) (none_from lower low)
        ∙ filter-append (λ e. is_le (R k e.0)) mid upper ∙ ap (λ l. from mid ++ l) (all_from upper high)

    below_between : below (lower ++ (mid ++ upper)) ≡ lower ++ below mid
    below_between =
        filter-append (λ e. is_lt (R e.0 k)) lower (mid ++ upper)
        ∙ (λ i. all_below lower low i ++ filter-append (λ e. is_lt (R e.0 k)) mid upper i)
        ∙ ap (λ l. lower ++ (below mid ++ l)) (none_below upper high) ∙ ap (λ l. lower ++ l) (append-nil (below mid))

-- ---- a content

-- where no list is empty
module _ {K V : Type 0} where
  last_behind : (o : Option V) (e : K × List V) (es : Content K V) → T (all_filled (e ∷ es)) → last_or o (values_of (e ∷ es)) ≡ last_entry (unwrap_or (option_map (λ (f : K × List V). f.1) (last_or (Some e) es)) [])
  last_behind o e [] h = ap (last_or o) (append-nil e.1) ∙ of e.1 (T-and_first _ _ h)
    where
      of : (l : List V) → T (is_filled l) → last_or o l ≡ last_entry l
      of [] t = absurd t
      of (x ∷ xs) t = refl
  last_behind o e (f ∷ fs) h = last_or-append o e.1 (values_of (f ∷ fs)) ∙ last_behind (last_or o e.1) f fs (T-and_second (is_filled e.1) _ h)

  pub last_value : (c : Content K V) → T (all_filled c) → last_entry (values_of c) ≡ last_entry (unwrap_or (last_list c) [])
  last_value [] h = refl
  last_value (e ∷ es) h = last_behind None e es h

  uncycled : (d : Content K V) (other : Option (K × List V)) → T (all_filled d) → last_entry (values_of d) ≡ last_entry (unflagged (option_map (λ n. (n.0.1, n.1)) (or_cycled (last_entry d) other)))
  uncycled [] None h = refl
  uncycled [] (Some f) h = refl
  uncycled (e ∷ es) other h = last_behind None e es h ∙ of (last_or (Some e) es) (is_some-last_or e es)
    where
      of : (r : Option (K × List V)) → is_some r ≡ true → last_entry (unwrap_or (option_map (λ (f : K × List V). f.1) r) []) ≡ last_entry (unflagged (option_map (λ n. (n.0.1, n.1)) (or_cycled r other)))
      of None t = absurd (false≢true t)
      of (Some f) t = refl

module _ {K V : Type 0} {cmp : K → K → Ordering} (o : IsTotalOrder cmp) where
  -- the last value of the lists below a key
  pub last_lower : (s : View K V) (k : K) (place : ℕ) → IsLawful cmp s.content → place ≡ 0 → last_entry (unflagged (prev_list cmp s.content k)) ≡ last_entry (positions_before cmp s k place)
  last_lower s k place h none =
      let lower = entries_below cmp s.content k in
      sym (ap (λ n. last_entry (values_of lower ++ take n (run_at cmp s k))) none ∙ ap last_entry (append-nil (values_of lower))
      ∙ uncycled lower (last_entry s.content) (all_filled-where_key o (λ x. is_lt (cmp x k)) s.content h.1))

  list_own : (k : K) (c : Content K V) → T (is_sorted cmp c) → list_at cmp c k ≡ values_of (own o k c)
  list_own k [] h = refl
  list_own k (e ∷ es) h =
      elim (cmp k e.0) as (λ r. cmp k e.0 ≡ r → unwrap_or (cond (is_eq r) (Some e.1) (find cmp k es)) [] ≡ values_of (cond (is_eq r) (e ∷ own o k es) (own o k es))) [
        | Less ↦ λ q. list_own k es (T-and_second _ _ h)
        | Equal ↦ λ q. sym (append-nil e.1) ∙ ap (λ (l : Content K V). e.1 ++ values_of l) (sym (none_own o k es (behind_equal o k e es q h)))
        | Greater ↦ λ q. list_own k es (T-and_second _ _ h)
      ] refl

  -- the values of lower lists, of a key's own and of higher ones
  pub values_split : (k : K) (c : Content K V) → T (is_sorted cmp c) → values_of c ≡ values_of (entries_below cmp c k) ++ (list_at cmp c k ++ values_of (entries_above cmp c k))
  values_split k c h =
      ap values_of (split_at o k c h)
      ∙ flat_map-append (λ (e : K × List V). e.1) (below o k c) (own o k c ++ above o k c)
      ∙ ap (λ l. values_of (below o k c) ++ l)
      (flat_map-append (λ (e : K × List V). e.1) (own o k c) (above o k c) ∙ ap (λ l. l ++ values_of (above o k c)) (sym (list_own k c h)))

  -- the list of the first entry above a key
  above_list : (k : K) (c : Content K V) (e : K × List V) → T (is_sorted cmp c) → first_entry (entries_above cmp c k) ≡ Some e → list_at cmp c e.0 ≡ e.1
  above_list k [] e h is = absurd (false≢true (ap is_some is))
  above_list k (d ∷ ds) e h is =
      let past : first_entry (entries_above cmp ds k) ≡ Some e → list_at cmp (d ∷ ds) e.0 ≡ e.1 = λ found.
      let over : cmp d.0 e.0 ≡ Less =
      subst (λ (r : Option (K × List V)). IfSome r (λ f. cmp d.0 f.0 ≡ Less)) found
      (first_has (λ (f : K × List V). cmp d.0 f.0 ≡ Less) (entries_above cmp ds k)
      (All-filter (λ (f : K × List V). is_lt (cmp k f.0)) (λ (f : K × List V). cmp d.0 f.0 ≡ Less) ds (behind o d.0 d.0 ds (λ y q. q) (T-and_first _ _ h)))) in
      ap (λ r. unwrap_or (cond (is_eq r) (Some d.1) (find cmp e.0 ds)) []) (o.antisymm e.0 d.0 ∙ ap ordering_reverse over) ∙ above_list k ds e (T-and_second _ _ h) found in
      elim (is_lt (cmp k d.0)) as (λ b. first_entry (cond b (d ∷ entries_above cmp ds k) (entries_above cmp ds k)) ≡ Some e → list_at cmp (d ∷ ds) e.0 ≡ e.1) [
        | true ↦ λ found.
            let same : d ≡ e = ap (λ (r : Option (K × List V)). unwrap_or r d) found in
            ap (λ (f : K × List V). list_at cmp (d ∷ ds) f.0) (sym same) ∙ ap (λ r. unwrap_or (cond (is_eq r) (Some d.1) (find cmp d.0 ds)) []) (tied_itself o d.0) ∙ ap (λ (f : K × List V). f.1) same
        | false ↦ past
      ] is

  above_filled : (k : K) (c : Content K V) (e : K × List V) → IsLawful cmp c → first_entry (entries_above cmp c k) ≡ Some e → T (is_filled e.1)
  above_filled k c e h is = of (entries_above cmp c k) (all_filled-where_key o (λ x. is_lt (cmp k x)) c h.1) is
    where
      of : (l : Content K V) → T (all_filled l) → first_entry l ≡ Some e → T (is_filled e.1)
      of [] t f = absurd (false≢true (ap is_some f))
      of (d ∷ ds) t f = subst (λ (g : K × List V). T (is_filled g.1)) (ap (λ (r : Option (K × List V)). unwrap_or r d) f) (T-and_first _ _ t)

  -- where a list ends, the next one begins
  module _ (s : View K V) (h : IsLawful cmp s.content) (k there : K) (place : ℕ) (values : List V) (past : length (run_at cmp s k) ≤ place)
      (next : first_entry (entries_above cmp s.content k) ≡ Some (there, values)) where
    pub next_list : (v : V) (rest : List V) → values ≡ v ∷ rest → positions_from cmp s k place ≡ v ∷ positions_from cmp s there 1
    next_list v rest is =
        let run : run_at cmp s there ≡ v ∷ rest = above_list k s.content (there, values) h.0 next ∙ is in
        ap (λ l. l ++ values_of (entries_above cmp s.content k)) (drop_all place (run_at cmp s k) past)
        ∙ ap values_of (above_next o s.content k (there, values) h.0 next)
        ∙ ap (λ l. l ++ values_of (entries_above cmp s.content there)) is
        ∙ ap (λ l. v ∷ (drop 1 l ++ values_of (entries_above cmp s.content there))) (sym run)

    pub next_filled : values ≡ [] → ⊥
    next_filled none = subst (λ l. T (is_filled l)) none (above_filled k s.content (there, values) h next)

  -- what holds of the list at each index key
  lists_have : (P : K → V → Type 0) (c : Content K V) → T (is_sorted cmp c) → ((k : K) → All (P k) (list_at cmp c k)) → All (λ (e : K × List V). All (P e.0) e.1) c
  lists_have P [] h all = All-nil (λ (e : K × List V). All (P e.0) e.1)
  lists_have P (e ∷ es) h all =
      All-cons (λ (e : K × List V). All (P e.0) e.1) e es
      (subst (λ r. All (P e.0) (unwrap_or (cond (is_eq r) (Some e.1) (find cmp e.0 es)) [])) (tied_itself o e.0) (all e.0))
      (lists_have P es (T-and_second _ _ h) (λ k.
      elim (cmp k e.0) as (λ r. cmp k e.0 ≡ r → All (P k) (unwrap_or (cond (is_eq r) (Some e.1) (find cmp k es)) []) → All (P k) (list_at cmp es k)) [
        | Less ↦ λ p x. x
        | Equal ↦ λ p x. subst (All (P k)) (sym (list_at-below_all o k e.0 es (λ y q. o.congr k e.0 y p ∙ q) (T-and_first _ _ h))) (All-nil (P k))
        | Greater ↦ λ p x. x
      ] refl (all k)))

  values_have : (P : V → Type 0) (c : Content K V) → All (λ (e : K × List V). All P e.1) c → All P (values_of c)
  values_have P [] h = All-nil P
  values_have P (e ∷ es) h =
      All-append P e.1 (values_of es) (All-head (λ (e : K × List V). All P e.1) e es h) (values_have P es (All-tail (λ (e : K × List V). All P e.1) e es h))

  -- of the values under index keys that are told of
  values_told : (P : K → V → Type 0) (Q : K → Type 0) (S : V → Type 0) → ((k : K) (v : V) → P k v → Q k → S v) → (c : Content K V)
      → All (λ (e : K × List V). All (P e.0) e.1) c → All (λ (e : K × List V). Q e.0) c → All S (values_of c)
  values_told P Q S f c p q =
      values_have S c
      (All-weaker (λ (e : K × List V). All (P e.0) e.1 × Q e.0) (λ (e : K × List V). All S e.1) (λ e h. All-weaker (P e.0) S (λ v u. f e.0 v u h.1) e.1 h.0) c (both (λ (e : K × List V). All (P e.0) e.1) (λ (e : K × List V). Q e.0) c p q))

-- ---- entries of values, in order

module _ {V X : Type 0} (entry : V → List ℕ × X) where
  abbrev key : V → List ℕ
  key v = (entry v).0

  below_mapped : (x : List ℕ) (vs ws : List V) → T (below_all byte_cmp x (map entry vs)) → All (λ w. byte_cmp x (key w) ≡ Less) ws → T (below_all byte_cmp x (map entry (vs ++ ws)))
  below_mapped x [] [] h all = tt
  below_mapped x [] (w ∷ ws) h all =
      T-and _ _ (subst (λ r. T (is_lt r)) (sym (All-head (λ w. byte_cmp x (key w) ≡ Less) w ws all)) tt) (below_mapped x [] ws tt (All-tail (λ w. byte_cmp x (key w) ≡ Less) w ws all))
  below_mapped x (v ∷ vs) ws h all = T-and _ _ (T-and_first _ _ h) (below_mapped x vs ws (T-and_second _ _ h) all)

  sorted_mapped : (vs ws : List V) → T (is_sorted byte_cmp (map entry vs)) → T (is_sorted byte_cmp (map entry ws)) → All (λ v. All (λ w. byte_cmp (key v) (key w) ≡ Less) ws) vs
      → T (is_sorted byte_cmp (map entry (vs ++ ws)))
  sorted_mapped [] ws h k all = k
  sorted_mapped (v ∷ vs) ws h k all =
      T-and _ _ (below_mapped (key v) vs ws (T-and_first _ _ h) (All-head (λ v. All (λ w. byte_cmp (key v) (key w) ≡ Less) ws) v vs all))
      (sorted_mapped vs ws (T-and_second _ _ h) k (All-tail (λ v. All (λ w. byte_cmp (key v) (key w) ≡ Less) ws) v vs all))

  module _ {K : Type 0} {cmp : K → K → Ordering} (o : IsTotalOrder cmp) (slot : List ℕ → K) (keeps : KeepsOrder cmp slot) where
    abbrev Filed : K → V → Type 0
    Filed k v = IsBytes (key v) × (slot (key v) ≡ k)

    less_by_slot : (a b : List ℕ) → IsBytes a → IsBytes b → cmp (slot a) (slot b) ≡ Less → byte_cmp a b ≡ Less
    less_by_slot a b p q e =
        let back : is_gt (cmp (slot b) (slot a)) ≡ true = ap is_gt (o.antisymm (slot b) (slot a) ∙ ap ordering_reverse e) in
        let never : is_gt (byte_cmp b a) ≡ false → ⊥ = λ h. false≢true (sym (keeps b a q p h) ∙ back) in
        elim (byte_cmp a b) as (λ r. byte_cmp b a ≡ ordering_reverse r → r ≡ Less) [
          | Less ↦ λ t. refl
          | Equal ↦ λ t. absurd (never (ap is_gt t))
          | Greater ↦ λ t. absurd (never (ap is_gt t))
        ] (nat_list_cmp_total.antisymm b a)

    all_sorted : (c : Content K V) → T (is_sorted cmp c) → All (λ (e : K × List V). All (Filed e.0) e.1) c → All (λ (e : K × List V). T (is_sorted byte_cmp (map entry e.1))) c
        → T (is_sorted byte_cmp (map entry (values_of c)))
    all_sorted [] h filed sorted = tt
    all_sorted (e ∷ es) h filed sorted =
        let rest = All-tail (λ (e : K × List V). All (Filed e.0) e.1) e es filed in
        let higher : All (λ (f : K × List V). cmp e.0 f.0 ≡ Less) es = behind o e.0 e.0 es (λ y q. q) (T-and_first _ _ h) in
        sorted_mapped e.1 (values_of es) (All-head (λ (e : K × List V). T (is_sorted byte_cmp (map entry e.1))) e es sorted)
        (all_sorted es (T-and_second _ _ h) rest (All-tail (λ (e : K × List V). T (is_sorted byte_cmp (map entry e.1))) e es sorted))
        (All-weaker (Filed e.0) (λ v. All (λ w. byte_cmp (key v) (key w) ≡ Less) (values_of es))
        (λ v u. values_told o Filed (λ k. cmp e.0 k ≡ Less) (λ w. byte_cmp (key v) (key w) ≡ Less)
        (λ k w f q. less_by_slot (key v) (key w) u.0 f.0 ((λ i. cmp (u.1 i) (f.1 i)) ∙ q)) es rest higher)
        e.1 (All-head (λ (e : K × List V). All (Filed e.0) e.1) e es filed))

-- ---- an index

-- what a store keeps of its log, by an index whose keys are in order
pub record KeepsOrdered {K : Type 0} (cmp : K → K → Ordering) (log : List ℕ) (s : View K ℕ) (end : ℕ) (t : Tail) : Type 0 where
  pub total : IsTotalOrder cmp
  pub lawful : IsLawful cmp s.content
  pub in_order : KeepsOrder cmp s.slot
  pub kept : Keeps cmp log s end t

module _ {K : Type 0} {cmp : K → K → Ordering} {whole : List ℕ} {s : View K ℕ} {end : ℕ} {t : Tail} (ordered : KeepsOrdered cmp whole s end t) where
  abbrev o : IsTotalOrder cmp
  o = ordered.total

  abbrev lawful : IsLawful cmp s.content
  lawful = ordered.lawful

  abbrev keeps : KeepsOrder cmp s.slot
  keeps = ordered.in_order

  abbrev log : List ℕ
  log = take end whole

  abbrev entry : ℕ → Pair
  entry = entry_at log

  abbrev h : Indexes cmp log s
  h = ordered.kept.indexed

  abbrev m : Values
  m = held_by whole

  abbrev all : List ℕ
  all = values_of s.content

  abbrev Under : K → ℕ → Type 0
  Under k p = IsUnder log s.slot k p

  all_under : All (λ (e : K × List ℕ). All (Under e.0) e.1) s.content
  all_under = lists_have o Under s.content lawful.0 h.live

  all_filed : All (λ (e : K × List ℕ). All (Filed entry o s.slot keeps e.0) e.1) s.content
  all_filed =
      All-weaker (λ (e : K × List ℕ). All (Under e.0) e.1) (λ (e : K × List ℕ). All (Filed entry o s.slot keeps e.0) e.1)
      (λ e u. All-weaker (Under e.0) (Filed entry o s.slot keeps e.0) (λ p q. (q.1, q.2)) e.1 u) s.content all_under

  lists_sorted : All (λ (e : K × List ℕ). T (is_sorted byte_cmp (map entry e.1))) s.content
  lists_sorted = sorted_in s.content lawful.0 h.sorted
    where
      sorted_in : (c : Content K ℕ) → T (is_sorted cmp c) → ((k : K) → T (is_sorted byte_cmp (map entry (list_at cmp c k)))) → All (λ (e : K × List ℕ). T (is_sorted byte_cmp (map entry e.1))) c
      sorted_in [] h f = All-nil (λ (e : K × List ℕ). T (is_sorted byte_cmp (map entry e.1)))
      sorted_in (e ∷ es) h f =
          All-cons (λ (e : K × List ℕ). T (is_sorted byte_cmp (map entry e.1))) e es
          (subst (λ r. T (is_sorted byte_cmp (map entry (unwrap_or (cond (is_eq r) (Some e.1) (find cmp e.0 es)) [])))) (tied_itself o e.0) (f e.0))
          (sorted_in es (T-and_second _ _ h) (λ k.
          elim (cmp k e.0) as (λ r. cmp k e.0 ≡ r → T (is_sorted byte_cmp (map entry (unwrap_or (cond (is_eq r) (Some e.1) (find cmp k es)) []))) → T (is_sorted byte_cmp (map entry (list_at cmp es k)))) [
            | Less ↦ λ p x. x
            | Equal ↦ λ p x. subst (λ l. T (is_sorted byte_cmp (map entry l))) (sym (list_at-below_all o k e.0 es (λ y q. o.congr k e.0 y p ∙ q) (T-and_first _ _ h))) tt
            | Greater ↦ λ p x. x
          ] refl (f k)))

  sorted : T (is_sorted byte_cmp (map entry all))
  sorted = all_sorted entry o s.slot keeps s.content lawful.0 all_filed lists_sorted

  pub entries_held : map entry all ≡ entries m
  entries_held =
      sym (entries-from_sorted byte_cmp (map entry all) sorted)
      ∙ ap entries (same_map nat_list_cmp_total exact_bytes (from_sorted (map entry all)) m (λ q.
      get-from_sorted byte_cmp (map entry all) q sorted
      ∙ own_list entry o s.slot q s.content lawful.0 (λ k. All-weaker (Under k) (Filed entry o s.slot keeps k) (λ p u. (u.1, u.2)) (run_at cmp s k) (h.live k))
      ∙ h.found q ∙ ap (λ x. get x q) (sym (kept_held cmp whole s end t ordered.kept))))

  live_in : (p : K × List ℕ → Bool) → All (IsLive log) (values_of (filter p s.content))
  live_in p =
      values_have o (IsLive log) (filter p s.content)
      (All-weaker (λ (e : K × List ℕ). All (Under e.0) e.1) (λ (e : K × List ℕ). All (IsLive log) e.1) (λ e u. All-weaker (Under e.0) (IsLive log) (λ q v. v.0) e.1 u) (filter p s.content)
      (All-filter p (λ (e : K × List ℕ). All (Under e.0) e.1) s.content all_under))

  live_all : All (IsLive log) all
  live_all =
      values_have o (IsLive log) s.content
      (All-weaker (λ (e : K × List ℕ). All (Under e.0) e.1) (λ (e : K × List ℕ). All (IsLive log) e.1) (λ e u. All-weaker (Under e.0) (IsLive log) (λ q v. v.0) e.1 u) s.content all_under)

  live_at : (k : K) → All (IsLive log) (run_at cmp s k)
  live_at k = All-weaker (Under k) (IsLive log) (λ q v. v.0) (run_at cmp s k) (h.live k)

  pub first_told : IsTold log (first_entry all) (first_entry (entries m))
  first_told = (first_has (IsLive log) all live_all, first_entry-map entry all ∙ ap first_entry entries_held)

  pub last_told : IsTold log (last_entry all) (last_entry (entries m))
  last_told = (last_has (IsLive log) None all tt live_all, sym (last_or-map entry None all) ∙ ap last_entry entries_held)

  -- ---- beside a key, whose place in its list is known

  module _ (a : List ℕ) (bytes : IsBytes a) where
    abbrev k : K
    k = s.slot a

    abbrev run : List ℕ
    run = run_of cmp s a

    abbrev lower : List ℕ
    lower = values_of (entries_below cmp s.content k)

    abbrev upper : List ℕ
    upper = values_of (entries_above cmp s.content k)

    lower_less : All (λ (e : Pair). byte_cmp e.0 a ≡ Less) (map entry lower)
    lower_less =
        All-map (λ (e : Pair). byte_cmp e.0 a ≡ Less) entry lower
        (values_told o (Filed entry o s.slot keeps) (λ x. is_lt (cmp x k) ≡ true) (λ p. byte_cmp (entry p).0 a ≡ Less)
        (λ x p u q. less_by_slot entry o s.slot keeps (entry p).0 a u.0 bytes (ap (λ y. cmp y k) u.1 ∙ Less-is_lt _ (subst T (sym q) tt)))
        (entries_below cmp s.content k)
        (All-filter (λ (e : K × List ℕ). is_lt (cmp e.0 k)) (λ (e : K × List ℕ). All (Filed entry o s.slot keeps e.0) e.1) s.content all_filed)
        (filter_passes (λ (e : K × List ℕ). is_lt (cmp e.0 k)) s.content))

    upper_more : All (λ (e : Pair). byte_cmp a e.0 ≡ Less) (map entry upper)
    upper_more =
        All-map (λ (e : Pair). byte_cmp a e.0 ≡ Less) entry upper
        (values_told o (Filed entry o s.slot keeps) (λ x. is_lt (cmp k x) ≡ true) (λ p. byte_cmp a (entry p).0 ≡ Less)
        (λ x p u q. less_by_slot entry o s.slot keeps a (entry p).0 bytes u.0 (ap (λ y. cmp k y) u.1 ∙ Less-is_lt _ (subst T (sym q) tt)))
        (entries_above cmp s.content k)
        (All-filter (λ (e : K × List ℕ). is_lt (cmp k e.0)) (λ (e : K × List ℕ). All (Filed entry o s.slot keeps e.0) e.1) s.content all_filed)
        (filter_passes (λ (e : K × List ℕ). is_lt (cmp k e.0)) s.content))

    entries_split : entries m ≡ map entry lower ++ (map entry run ++ map entry upper)
    entries_split =
        sym entries_held ∙ ap (map entry) (values_split o k s.content lawful.0)
        ∙ map-append entry lower (run ++ upper) ∙ ap (λ l. map entry lower ++ l) (map-append entry run upper)

    above_held : entries_above byte_cmp (entries m) a ≡ entries_above byte_cmp (map entry run) a ++ map entry upper
    above_held =
        ap (λ es. entries_above byte_cmp es a) entries_split
        ∙ above_between nat_list_cmp_total a (map entry lower) (map entry run) (map entry upper) lower_less upper_more

    pub live_from : (place : ℕ) → All (IsLive log) (positions_from cmp s k place)
    live_from place = All-append (IsLive log) (drop place run) upper (All-drop (IsLive log) place run (live_at k)) (live_in (λ (e : K × List ℕ). is_lt (cmp k e.0)))

    live_before : (place : ℕ) → All (IsLive log) (positions_before cmp s k place)
    live_before place = All-append (IsLive log) lower (take place run) (live_in (λ (e : K × List ℕ). is_lt (cmp e.0 k))) (All-take (IsLive log) place run (live_at k))

    entries-positions_from : (place : ℕ) → map entry (positions_from cmp s k place) ≡ drop place (map entry run) ++ map entry upper
    entries-positions_from place = map-append entry (drop place run) upper ∙ ap (λ l. l ++ map entry upper) (sym (drop-map entry place run))

    entries-positions_before : (place : ℕ) → map entry (positions_before cmp s k place) ≡ map entry lower ++ take place (map entry run)
    entries-positions_before place = map-append entry lower (take place run) ∙ ap (λ l. map entry lower ++ l) (sym (take-map entry place run))

    module _ (place : ℕ) (is_held : Bool) (at : IsPlace entry a run place is_held) where
      abbrev behind_own : List ℕ
      behind_own = positions_from cmp s k (place + cond is_held 1 0)

      entries-behind_own : map entry behind_own ≡ entries_above byte_cmp (entries m) a
      entries-behind_own =
          entries-positions_from (place + cond is_held 1 0)
          ∙ ap (λ l. l ++ map entry upper) (drop_behind nat_list_cmp_total a (map entry run) (h.sorted k) place (at_below entry a run place is_held at) is_held (at_held entry a run place is_held at)) ∙ sym above_held

      pub above_told : IsTold log (first_entry behind_own) (entry_after m a)
      above_told = (
        first_has (IsLive log) behind_own (live_from (place + cond is_held 1 0)),
        first_entry-map entry behind_own ∙ ap first_entry entries-behind_own,
      )

      pub above_behind : entries_above byte_cmp (map entry behind_own) a ≡ entries_above byte_cmp (entries m) a
      above_behind = ap (λ es. entries_above byte_cmp es a) entries-behind_own ∙ above_above nat_list_cmp_total a (entries m)

      pub below_told : IsTold log (last_entry (positions_before cmp s k place)) (entry_before m a)
      below_told = (
        last_has (IsLive log) None (positions_before cmp s k place) tt (live_before place),
        sym (last_or-map entry None (positions_before cmp s k place))
            ∙ ap last_entry (entries-positions_before place
            ∙ ap (λ l. map entry lower ++ l) (take_place nat_list_cmp_total a (map entry run) (h.sorted k) place (at_below entry a run place is_held at))
            ∙ sym (ap (λ es. entries_below byte_cmp es a) entries_split ∙ below_between nat_list_cmp_total a (map entry lower) (map entry run) (map entry upper) lower_less upper_more)),
      )

    -- the positions from a place on that is not behind the key's own
    module _ (place : ℕ) (low : place ≤ length (entries_below byte_cmp (map entry run) a)) where
      pub above_all : entries_above byte_cmp (map entry (positions_from cmp s k place)) a ≡ entries_above byte_cmp (entries m) a
      above_all =
          ap (λ es. entries_above byte_cmp es a) (entries-positions_from place)
          ∙ above_between nat_list_cmp_total a [] (drop place (map entry run)) (map entry upper) (All-nil (λ (e : Pair). byte_cmp e.0 a ≡ Less)) upper_more
          ∙ ap (λ l. l ++ map entry upper) (above_drop nat_list_cmp_total a (map entry run) (h.sorted k) place low) ∙ sym above_held

      pub from_all : entries_from byte_cmp (map entry (positions_from cmp s k place)) a ≡ entries_from byte_cmp (entries m) a
      from_all =
          ap (λ es. entries_from byte_cmp es a) (entries-positions_from place)
          ∙ from_between nat_list_cmp_total a [] (drop place (map entry run)) (map entry upper) (All-nil (λ (e : Pair). byte_cmp e.0 a ≡ Less)) upper_more
          ∙ ap (λ l. l ++ map entry upper) (from_drop nat_list_cmp_total a (map entry run) (h.sorted k) place low)
          ∙ sym (ap (λ es. entries_from byte_cmp es a) entries_split ∙ from_between nat_list_cmp_total a (map entry lower) (map entry run) (map entry upper) lower_less upper_more)
