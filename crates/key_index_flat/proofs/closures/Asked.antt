-- A closure that is asked on one value of a list after another: what `find` and `retain` of a cursor do.
--     drop-value, take-value                what is left at a place, and what is behind it, by the value there
--     drop-remove, take-remove              and after that value is taken out
--     AskedTo                               f was asked on the values from a place to another, and said false of each
--     asked_more                            and of the next one
--     Finds-by_asking, FindsNone-by_asking  where `find` ends
--     KeptTo                                what f said of the values before stands in the list, and the rest is still to be asked on
--     kept_first, ..                        at the start, after a value that stays, after one that goes, and at the end
use Rattle.std.proofs.Common.{◌≡◌, ℕ, suc, ◌+◌, ◌-◌, ◌<◌, ◌≤◌, Bool, true, false, cond, List, [], ◌∷◌, ◌++◌, length, take, drop, replicate, slice_get, Some, nat_lt, refl, sym, ap, subst, ◌∙◌, arith, length-drop, append-nil, append_assoc}
use Rattle.std.proofs.lemmas.Bool.{lt-ltb, le-ltb}
use Rattle.std.proofs.lemmas.List.{replicate_more, take_at, take_more, drop_more, length-take-le}
use Rattle.std.proofs.lemmas.Option.{slice_get_within, get_or_from_slice_get}
use Rattle.std.proofs.Math.Seq.{drop-append_seam}
use Rattle.std.specs.Bool.{MatchBool}
use Rattle.std.specs.List.{items_where_true, remove}
use Rattle.std.specs.List.Retain.{ReturnsInTurn}
use Rattle.key_index_flat.specs.Cursor.{Place, Active, Done, next_place, place_from, values_left, Retains, Finds, FindsNone}

pub drop-value : {V : Type 0} (xs : List V) (i : ℕ) (x : V) → slice_get xs i ≡ Some x → drop i xs ≡ x ∷ drop (i + 1) xs
drop-value xs i x e = drop_more xs i x (slice_get_within xs i x e) ∙ ap (λ y. y ∷ drop (i + 1) xs) (get_or_from_slice_get xs i x x e)

pub take-value : {V : Type 0} (xs : List V) (i : ℕ) (x : V) → slice_get xs i ≡ Some x → take i xs ++ x ∷ [] ≡ take (i + 1) xs
take-value xs i x e = sym (take_more xs i x (slice_get_within xs i x e) ∙ ap (λ y. take i xs ++ y ∷ []) (get_or_from_slice_get xs i x x e))

pub take-remove : {V : Type 0} (xs : List V) (i : ℕ) → i < length xs → take i (remove xs i) ≡ take i xs
take-remove xs i h = take_at (take i xs) (drop (suc i) xs) i (length-take-le i xs (omega (arith, h)))

pub drop-remove : {V : Type 0} (xs : List V) (i : ℕ) → i < length xs → drop i (remove xs i) ≡ drop (i + 1) xs
drop-remove xs i h =
    let next : suc i ≡ i + 1 = omega arith in
    let long = length-take-le i xs (omega (arith, h)) in
    ap (λ n. drop n (remove xs i)) (sym long) ∙ drop-append_seam (take i xs) (drop (suc i) xs) ∙ ap (λ n. drop n xs) next

module _ {F V : Type 0} where
  module _ (R : F → V → Bool → F → Type 0) where
    -- whatever is answered on the rest, false was answered on each before
    abbrev pub AskedTo : F → List V → ℕ → ℕ → F → Type 0
    AskedTo f xs start at now = (bs : List Bool) (last : F) → ReturnsInTurn R now bs (drop at xs) last → ReturnsInTurn R f (replicate (at - start) false ++ bs) (drop start xs) last

    ReturnsInTurn-same_answers : (f : F) (bs cs : List Bool) (xs : List V) (last : F) → bs ≡ cs → ReturnsInTurn R f bs xs last → ReturnsInTurn R f cs xs last
    ReturnsInTurn-same_answers f bs cs xs last e h = subst (λ (x : List Bool). ReturnsInTurn R f x xs last) e h

    ReturnsInTurn-same_values : (f : F) (bs : List Bool) (xs ys : List V) (last : F) → xs ≡ ys → ReturnsInTurn R f bs xs last → ReturnsInTurn R f bs ys last
    ReturnsInTurn-same_values f bs xs ys last e h = subst (λ (x : List V). ReturnsInTurn R f bs x last) e h

    pub asked_more : (f now next : F) (xs : List V) (start at : ℕ) (x : V) → start ≤ at → slice_get xs at ≡ Some x → R now x false next → AskedTo f xs start at now → AskedTo f xs start (at + 1) next
    asked_more f now next xs start at x from e said asked bs last h =
        let more : at - start + 1 ≡ at + 1 - start = omega (arith, from) in
        ReturnsInTurn-same_answers f _ _ (drop start xs) last
        (sym (append_assoc (replicate (at - start) false) (false ∷ []) bs) ∙ ap (λ y. y ++ bs) (replicate_more (at - start) false) ∙ ap (λ n. replicate n false ++ bs) more)
        (asked (false ∷ bs) last (ReturnsInTurn-same_values now (false ∷ bs) _ _ last (sym (drop-value xs at x e)) (next, said, h)))

    pub Finds-by_asking : (f now last : F) (xs : List V) (p : Place) (at n : ℕ) (x : V) (new : Place) → length xs ≡ n → next_place xs p ≤ at → slice_get xs at ≡ Some x → R now x true last
        → AskedTo f xs (next_place xs p) at now → new ≡ place_from xs at → MatchBool (nat_lt at n) (Finds R f xs p new) (FindsNone R f xs p new)
    Finds-by_asking f now last xs p at n x new len from e said asked goes =
        let within : at < length xs = slice_get_within xs at x e in
        let start = next_place xs p in
        let left = length-drop start xs in
        let place : at ≡ start + (at - start) = omega (arith, from) in
        let at_n : nat_lt at n ≡ true = lt-ltb at n (omega (arith, within, len)) in
        subst (λ (b : Bool). MatchBool b (Finds R f xs p new) (FindsNone R f xs p new)) (sym at_n) (
          at - start,
          last,
          omega (arith, left, within, from),
          asked (true ∷ []) last (ReturnsInTurn-same_values now (true ∷ []) _ _ last (sym (drop-value xs at x e)) (last, said, refl)),
          goes ∙ ap (λ b. cond b (Active at) Done) (lt-ltb at (length xs) within) ∙ ap (λ i. Active i) place,
        )

    pub FindsNone-by_asking : (f now : F) (xs : List V) (p : Place) (at n : ℕ) (new : Place) → length xs ≡ n → next_place xs p ≤ at → at ≡ n
        → AskedTo f xs (next_place xs p) at now → new ≡ place_from xs at → MatchBool (nat_lt at n) (Finds R f xs p new) (FindsNone R f xs p new)
    FindsNone-by_asking f now xs p at n new len from all asked goes =
        let start = next_place xs p in
        let left = length-drop start xs in
        let count : at - start ≡ length (drop start xs) = omega (arith, left, all, len) in
        let at_n : nat_lt at n ≡ false = le-ltb at n (omega (arith, all)) in
        let past : nat_lt at (length xs) ≡ false = le-ltb at (length xs) (omega (arith, all, len)) in
        subst (λ (b : Bool). MatchBool b (Finds R f xs p new) (FindsNone R f xs p new)) (sym at_n)
        (now, ReturnsInTurn-same_answers f _ _ (drop start xs) now (append-nil _ ∙ ap (λ k. replicate k false) count) (asked [] now refl), goes ∙ ap (λ b. cond b (Active at) Done) past)

    -- f was asked on xs from a place on: the list is now `front`, which is decided, and `back`, which is not
    abbrev pub KeptTo : F → List V → ℕ → F → List V → List V → Type 0
    KeptTo f xs start now front back =
        (bs : List Bool) (last : F) → length bs ≡ length back → ReturnsInTurn R now bs back last
        → (cs : List Bool) × (length cs ≡ length (drop start xs)) × ReturnsInTurn R f cs (drop start xs) last × (take start xs ++ items_where_true cs (drop start xs) ≡ front ++ items_where_true bs back)

    pub kept_first : (f : F) (xs : List V) (start : ℕ) → KeptTo f xs start f (take start xs) (drop start xs)
    kept_first f xs start bs last e h = (bs, e, h, refl)

    pub kept_more : (f now next : F) (xs front back : List V) (start : ℕ) (x : V) → R now x true next → KeptTo f xs start now front (x ∷ back) → KeptTo f xs start next (front ++ x ∷ []) back
    kept_more f now next xs front back start x said kept bs last e h =
        let was = kept (true ∷ bs) last (ap (λ n. suc n) e) (next, said, h) in
        (was.0, was.1, was.2, was.3 ∙ sym (append_assoc front (x ∷ []) (items_where_true bs back)))

    pub kept_less : (f now next : F) (xs front back : List V) (start : ℕ) (x : V) → R now x false next → KeptTo f xs start now front (x ∷ back) → KeptTo f xs start next front back
    kept_less f now next xs front back start x said kept bs last e h = kept (false ∷ bs) last (ap (λ n. suc n) e) (next, said, h)

    pub kept_parts : (f now : F) (xs front front' back back' : List V) (start : ℕ) → front ≡ front' → back ≡ back' → KeptTo f xs start now front back → KeptTo f xs start now front' back'
    kept_parts f now xs front front' back back' start e h kept =
        subst (λ (b : List V). KeptTo f xs start now front' b) h (subst (λ (a : List V). KeptTo f xs start now a back) e kept)

    pub Retains-KeptTo : (f now : F) (xs ys : List V) (p : Place) → KeptTo f xs (next_place xs p) now ys [] → Retains R f xs p ys
    Retains-KeptTo f now xs ys p kept =
        let all = kept [] now refl refl in
        (items_where_true all.0 (values_left xs p), (all.0, now, all.1, all.2, refl), sym (all.3 ∙ append-nil ys))
