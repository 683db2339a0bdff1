-- On the entries of a map next to a key that it lacks.
--     Excludes-positions  they show that it lacks the key
use Rattle.std.proofs.Common.{◌≡◌, ℕ, Bool, true, false, cond, ◌||◌, T, List, [], ◌∷◌, ◌++◌, append_assoc, Option, Some, None, is_some, All, refl, sym, ap, subst, ◌∙◌}
use Rattle.std.proofs.lemmas.Bool.{false≢true}
use Rattle.std.proofs.lemmas.List.Elements.{All-nil, All-cons, All-head, All-append, All-weaker, All-filter}
use Rattle.std.specs.BTreeMap.Range.{IsLeBy}
use Rattle.std.specs.Cmp.Lexicographic.{nat_list_cmp_total, texts_ties}
use Rattle.std.specs.FinMap.{entries, entries_sorted, find, get, get-entries, is_sorted}
use Rattle.std.specs.FinMap.Entries.{below_all}
use Rattle.std.specs.List.{filter, last_or}
use Rattle.std.specs.Ordering.{is_eq, is_gt, is_lt, eq_by_cmp, flip_args, ordering_reverse}
use Rattle.std.specs.Str.{bytes_eq}
use Rattle.std.specs.declared.cmp.Ordering.{Ordering}
use Rattle.std.specs.declared.cmp.Ordering.TheVariants.{Less, Equal, Greater}
use Rattle.key_index_flat.specs.FullKeys.{byte_cmp, IsLeast, cmp_keys}
use Rattle.key_index_flat.specs.laws.Laws.{T-and_first, T-and_second}
use Rattle.key_index_flat.specs.Neighbours.{entries_above, entries_below, first_entry, last_entry}
use Rattle.key_index_flat.proofs.content.ContentLemmas.{Less-is_lt}
use Rattle.key_index_flat.proofs.content.ChainLemmas.{None-is_some}
use Rattle.key_index.specs.Snapshot.{Positions, next_position, prev_position}
use Rattle.key_index_uses.specs.Exclusion.{has_key, Excludes}
use Rattle.key_index_uses.proofs.ExclusionLemmas.{Excludes-IsLeast}

abbrev Entry : Type 0
Entry = List ℕ × ℕ

abbrev key_of : Entry → List ℕ
key_of e = e.0

-- each key is below those behind it
abbrev Rising : List Entry → Type 0
Rising [] = T true
Rising (e ∷ es) = All (λ w. byte_cmp e.0 w.0 ≡ Less) es × Rising es

All-below_all : (a : List ℕ) (es : List Entry) → T (below_all byte_cmp a es) → All (λ w. byte_cmp a w.0 ≡ Less) es
All-below_all a [] h = All-nil (λ w. byte_cmp a w.0 ≡ Less)
All-below_all a (e ∷ es) h = All-cons (λ w. byte_cmp a w.0 ≡ Less) e es (Less-is_lt _ (T-and_first _ _ h)) (All-below_all a es (T-and_second _ _ h))

Rising-is_sorted : (es : List Entry) → T (is_sorted byte_cmp es) → Rising es
Rising-is_sorted [] h = tt
Rising-is_sorted (e ∷ es) h = (All-below_all e.0 es (T-and_first _ _ h), Rising-is_sorted es (T-and_second _ _ h))

rising_filter : (p : Entry → Bool) (es : List Entry) → Rising es → Rising (filter p es)
rising_filter p [] h = tt
rising_filter p (e ∷ es) h =
    elim (p e) as (λ b. Rising (cond b (e ∷ filter p es) (filter p es))) [
      | true ↦ (All-filter p (λ w. byte_cmp e.0 w.0 ≡ Less) es h.0, rising_filter p es h.1)
      | false ↦ rising_filter p es h.1
    ]

IsLeast-first_entry : (es : List Entry) → Rising es → IsLeast (cmp_keys key_of) es (first_entry es)
IsLeast-first_entry [] h = refl
IsLeast-first_entry (e ∷ es) h =
    ([], es, refl, All-nil (λ w. byte_cmp e.0 w.0 ≡ Less), All-weaker (λ w. byte_cmp e.0 w.0 ≡ Less) (λ w. IsLeBy (cmp_keys key_of) e w) (λ w q. ap is_gt q) es h.0)

-- the last of those behind some lower keys
last_least : (before : List Entry) (e : Entry) (es : List Entry) → All (λ w. byte_cmp w.0 e.0 ≡ Less) before → Rising (e ∷ es) → IsLeast (flip_args (cmp_keys key_of)) (before ++ e ∷ es) (last_or (Some e) es)
last_least before e [] lower h = (before, [], refl, lower, All-nil (λ w. IsLeBy (flip_args (cmp_keys key_of)) e w))
last_least before e (x ∷ xs) lower h =
    let next : byte_cmp e.0 x.0 ≡ Less = All-head (λ w. byte_cmp e.0 w.0 ≡ Less) x xs h.0 in
    let all : All (λ w. byte_cmp w.0 x.0 ≡ Less) (before ++ e ∷ []) =
    All-append (λ w. byte_cmp w.0 x.0 ≡ Less) before (e ∷ []) (All-weaker (λ w. byte_cmp w.0 e.0 ≡ Less) (λ w. byte_cmp w.0 x.0 ≡ Less) (λ w q. nat_list_cmp_total.trans w.0 e.0 x.0 q next) before lower)
    (All-cons (λ w. byte_cmp w.0 x.0 ≡ Less) e [] next (All-nil (λ w. byte_cmp w.0 x.0 ≡ Less))) in
    subst (λ l. IsLeast (flip_args (cmp_keys key_of)) l (last_or (Some x) xs)) (append_assoc before (e ∷ []) (x ∷ xs)) (last_least (before ++ e ∷ []) x xs all h.1)

greatest_last : (es : List Entry) → Rising es → IsLeast (flip_args (cmp_keys key_of)) es (last_entry es)
greatest_last [] h = refl
greatest_last (e ∷ es) h = last_least [] e es (All-nil (λ w. byte_cmp w.0 e.0 ≡ Less)) h

is_eq-reverse : (r : Ordering) → is_eq (ordering_reverse r) ≡ is_eq r
is_eq-reverse Less = refl
is_eq-reverse Equal = refl
is_eq-reverse Greater = refl

has_key-not_found : (a : List ℕ) (es : List Entry) → find byte_cmp a es ≡ None → has_key key_of a es ≡ false
has_key-not_found a [] h = refl
has_key-not_found a (e ∷ es) h =
    let turned : bytes_eq e.0 a ≡ eq_by_cmp byte_cmp a e.0 = texts_ties e.0 a ∙ ap is_eq (nat_list_cmp_total.antisymm e.0 a) ∙ is_eq-reverse (byte_cmp a e.0) in
    ap (λ b. b || has_key key_of a es) turned
    ∙ elim (eq_by_cmp byte_cmp a e.0) as (λ b. cond b (Some e.1) (find byte_cmp a es) ≡ None → (b || has_key key_of a es) ≡ false) [
      | true ↦ λ q. absurd (false≢true (sym (ap is_some q)))
      | false ↦ λ q. has_key-not_found a es q
    ] h

pub Excludes-positions : (m : Positions) (a : List ℕ) (below above : Option Entry) → is_some (get m a) ≡ false → below ≡ prev_position m a → above ≡ next_position m a → Excludes key_of (entries m) a below above
Excludes-positions m a below above none prev next =
    let es = entries m in
    let sorted = Rising-is_sorted es (entries_sorted m) in
    Excludes-IsLeast key_of a es below above (has_key-not_found a es (sym (get-entries m a) ∙ None-is_some (get m a) none))
    (subst (IsLeast (flip_args (cmp_keys key_of)) (entries_below byte_cmp es a)) (sym prev) (greatest_last (entries_below byte_cmp es a) (rising_filter (λ e. is_lt (byte_cmp e.0 a)) es sorted)))
    (subst (IsLeast (cmp_keys key_of) (entries_above byte_cmp es a)) (sym next) (IsLeast-first_entry (entries_above byte_cmp es a) (rising_filter (λ e. is_lt (byte_cmp a e.0)) es sorted)))
