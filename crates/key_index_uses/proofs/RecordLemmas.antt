-- Answers that a batch fills with the records of its keys, by the place of each visit.
--     fold-visits_of              what the visits of a batch leave, in any order of its probes
--     fold-with_event             what the events of a batch that looks ahead leave, of which its visits alone count
--     kept_events, folded_events  what calls of a closure on events don't change, and what they leave
--     zip-map                     keys that stand behind something
use Rattle.std.proofs.Common.{◌≡◌, ℕ, ◌+◌, ◌<◌, ◌≤◌, Bool, true, false, cond, ◌&&◌, Option, Some, None, List, [], ◌∷◌, ◌++◌, length, map, zip, slice_set, slice_index_or, nat_eq, nat_lt, All, refl, sym, ap, subst, ◌∙◌, inl, inr, arith, append_assoc}
use Rattle.std.proofs.Math.Seq.{get_or-append_seam}
use Rattle.std.proofs.lemmas.Bool.{lt-ltb}
use Rattle.std.proofs.lemmas.Bool.Decides.{eqb_tells}
use Rattle.std.proofs.lemmas.Grind.{get_or-set_at}
use Rattle.std.proofs.lemmas.List.{ext_get_or, get_or-map, get_or-set_other, length-map, length-set, length_push}
use Rattle.std.proofs.lemmas.List.Elements.{All-cons, All-nil, All-head, All-tail, All-weaker}
use Rattle.std.proofs.lemmas.List.Sorted.{All-permutation, sum_by-IsPermutation}
use Rattle.std.proofs.lemmas.List.Sums.{fold-append, sum_by-cons}
use Rattle.std.proofs.lemmas.Slice.Zip.{get_or-zip, length-zip}
use Rattle.std.specs.Fn.{Mut, Called}
use Rattle.std.specs.List.{FoldsTo, fold, last_or, sum_by}
use Rattle.std.specs.List.Sorted.{IsPermutation}
use Rattle.key_index_flat.specs.Visits.{probes_from, visits_of}
use Rattle.key_index_parts.specs.Ahead.{Event, Found, Visit, TellsAt, visits_in}
use Rattle.key_index_parts.specs.declared.index.partitioned.ordered.Ahead.{Ahead}
use Rattle.key_index_parts.specs.declared.index.partitioned.ordered.Ahead.TheVariants as ahead
use Rattle.key_index_uses.specs.Records.{event_of, is_record, records_of, with_event, with_visit}

-- how many probes have a place
module _ {K : Type 0} (i : ℕ) where
  abbrev at_place : K × ℕ → ℕ
  at_place p = cond (nat_eq p.1 i) 1 0

  abbrev places : List (K × ℕ) → ℕ
  places ps = sum_by at_place ps

  places-here : (p : K × ℕ) (ps : List (K × ℕ)) → p.1 ≡ i → nat_eq p.1 i ≡ true → places (p ∷ ps) ≡ 1 + places ps
  places-here p ps same is =
      let one : at_place p ≡ 1 = ap (λ b. cond b 1 0) is in
      let parts = sum_by-cons at_place p ps in omega (arith, parts, one)

  places-other : (p : K × ℕ) (ps : List (K × ℕ)) → nat_eq p.1 i ≡ false → places (p ∷ ps) ≡ places ps
  places-other p ps apart =
      let none : at_place p ≡ 0 = ap (λ b. cond b 1 0) apart in
      let parts = sum_by-cons at_place p ps in omega (arith, parts, none)

-- the probes of a batch have each place once, with the index key of its key
module _ {K : Type 0} (slot : List ℕ → K) where
  places-before_start : (i n : ℕ) (bs : List (List ℕ)) → i < n → places i (probes_from slot n bs) ≡ 0
  places-before_start i n [] low = refl
  places-before_start i n (b ∷ bs) low =
      elim (eqb_tells n i) as (λ _. places i (probes_from slot n (b ∷ bs)) ≡ 0) [
        | inl same ↦ absurd (omega (arith, low, same.1))
        | inr other ↦ places-other i (slot b, n) (probes_from slot (n + 1) bs) other.0 ∙ places-before_start i (n + 1) bs (omega (arith, low))
      ]

  one_each : (i n : ℕ) (bs : List (List ℕ)) → n ≤ i → i < n + length bs → places i (probes_from slot n bs) ≡ 1
  one_each i n [] low high = absurd (omega (arith, low, high))
  one_each i n (b ∷ bs) low high =
      elim (eqb_tells n i) as (λ _. places i (probes_from slot n (b ∷ bs)) ≡ 1) [
        | inl same ↦ places-here i (slot b, n) (probes_from slot (n + 1) bs) same.1 same.0 ∙ ap (λ m. 1 + m) (places-before_start i (n + 1) bs (omega (arith, same.1)))
        | inr other ↦ places-other i (slot b, n) (probes_from slot (n + 1) bs) other.0 ∙ one_each i (n + 1) bs (omega (arith, low, other.1)) (omega (arith, high))
      ]

  own_keys : (xs ys : List (List ℕ)) (n : ℕ) → n ≡ length xs → All (λ p. p.0 ≡ slot (slice_index_or (xs ++ ys) p.1 [])) (probes_from slot n ys)
  own_keys xs [] n e = All-nil (λ p. p.0 ≡ slot (slice_index_or (xs ++ []) p.1 []))
  own_keys xs (y ∷ ys) n e =
      let all = xs ++ y ∷ ys in
      let long = length_push xs y in
      let here : slot y ≡ slot (slice_index_or all n []) = ap slot (sym (ap (λ m. slice_index_or all m []) e ∙ get_or-append_seam xs y ys [])) in
      let rest = own_keys (xs ++ y ∷ []) ys (n + 1) (omega (arith, long, e)) in
      All-cons (λ p. p.0 ≡ slot (slice_index_or all p.1 [])) (slot y, n) (probes_from slot (n + 1) ys) here
      (subst (λ l. All (λ p. p.0 ≡ slot (slice_index_or l p.1 [])) (probes_from slot (n + 1) ys)) (append_assoc xs (y ∷ []) ys) rest)

module _ (log keys : List (List ℕ)) where
  abbrev put : List (Option ℕ) → ℕ × ℕ → List (Option ℕ)
  put = with_visit log keys

  abbrev records : ℕ → List ℕ → List ℕ
  records i l = records_of log (slice_index_or keys i []) l

  abbrev tests : ℕ × ℕ → Bool
  tests v = nat_lt v.0 (length keys) && is_record log (slice_index_or keys v.0 []) v.1

  length-put_at : (a : List (Option ℕ)) (v : ℕ × ℕ) → length (put a v) ≡ length a
  length-put_at a v = elim (tests v) as (λ b. length (cond b (slice_set a v.0 (Some v.1)) a) ≡ length a) [
    | true ↦ length-set a v.0 (Some v.1)
    | false ↦ refl
  ]

  length-fold_put : (a : List (Option ℕ)) (vs : List (ℕ × ℕ)) → length (fold put a vs) ≡ length a
  length-fold_put a [] = refl
  length-fold_put a (v ∷ vs) = length-fold_put (put a v) vs ∙ length-put_at a v

  put-other : (a : List (Option ℕ)) (v : ℕ × ℕ) (i : ℕ) → ¬ (i ≡ v.0) → slice_index_or (put a v) i None ≡ slice_index_or a i None
  put-other a v i apart = elim (tests v) as (λ b. slice_index_or (cond b (slice_set a v.0 (Some v.1)) a) i None ≡ slice_index_or a i None) [
    | true ↦ get_or-set_other a v.0 i (Some v.1) None apart
    | false ↦ refl
  ]

  -- the visits of one list
  filled-other : (a : List (Option ℕ)) (n i : ℕ) (l : List ℕ) → ¬ (i ≡ n) → slice_index_or (fold put a (map (λ v. (n, v)) l)) i None ≡ slice_index_or a i None
  filled-other a n i [] apart = refl
  filled-other a n i (v ∷ l) apart = filled-other (put a (n, v)) n i l apart ∙ put-other a (n, v) i apart

  filled-here : (a : List (Option ℕ)) (n : ℕ) (l : List ℕ) → n < length keys → n < length a
      → slice_index_or (fold put a (map (λ v. (n, v)) l)) n None ≡ last_or (slice_index_or a n None) (records n l)
  filled-here a n [] asked within = refl
  filled-here a n (v ∷ l) asked within =
      let rest = records n l in
      let is : nat_lt n (length keys) ≡ true = lt-ltb n (length keys) asked in
      let same = length-put_at a (n, v) in
      let first : last_or (slice_index_or (put a (n, v)) n None) rest ≡ last_or (slice_index_or a n None) (records n (v ∷ l)) =
      ap (λ t. last_or (slice_index_or (cond (t && is_record log (slice_index_or keys n []) v) (slice_set a n (Some v)) a) n None) rest) is
      ∙ (elim (is_record log (slice_index_or keys n []) v) as (λ b. last_or (slice_index_or (cond b (slice_set a n (Some v)) a) n None) rest ≡ last_or (slice_index_or a n None) (cond b (v ∷ rest) rest)) [
        | true ↦ ap (λ o. last_or o rest) (get_or-set_at a n n (Some v) None refl within)
        | false ↦ refl
      ]) in
      filled-here (put a (n, v)) n l asked (omega (arith, same, within)) ∙ first

  module _ {K : Type 0} (run : K → List ℕ) (i : ℕ) where
    abbrev left : List (Option ℕ) → List (K × ℕ) → Option ℕ
    left a ps = slice_index_or (fold put a (visits_of run ps)) i None

    left-next : (a : List (Option ℕ)) (p : K × ℕ) (ps : List (K × ℕ)) → left a (p ∷ ps) ≡ left (fold put a (map (λ v. (p.1, v)) (run p.0))) ps
    left-next a p ps = ap (λ b. slice_index_or b i None) (fold-append put a (map (λ v. (p.1, v)) (run p.0)) (visits_of run ps))

    left-none : (a : List (Option ℕ)) (ps : List (K × ℕ)) → places i ps ≡ 0 → left a ps ≡ slice_index_or a i None
    left-none a [] none = refl
    left-none a (p ∷ ps) none =
        elim (eqb_tells p.1 i) as (λ _. left a (p ∷ ps) ≡ slice_index_or a i None) [
          | inl same ↦ absurd (omega (arith, none, places-here i p ps same.1 same.0))
          | inr other ↦
              left-next a p ps ∙ left-none (fold put a (map (λ v. (p.1, v)) (run p.0))) ps (sym (places-other i p ps other.0) ∙ none)
              ∙ filled-other a p.1 i (run p.0) (λ e. other.1 (sym e))
        ]

    left-once : (k : K) (a : List (Option ℕ)) (ps : List (K × ℕ)) → i < length keys → i < length a → places i ps ≡ 1 → All (λ p. p.1 ≡ i → p.0 ≡ k) ps
        → left a ps ≡ last_or (slice_index_or a i None) (records i (run k))
    left-once k a [] asked within once own = absurd (omega (arith, once))
    left-once k a (p ∷ ps) asked within once own =
        let next = fold put a (map (λ v. (p.1, v)) (run p.0)) in
        let long = length-fold_put a (map (λ v. (p.1, v)) (run p.0)) in
        elim (eqb_tells p.1 i) as (λ _. left a (p ∷ ps) ≡ last_or (slice_index_or a i None) (records i (run k))) [
          | inl same ↦
              let none : places i ps ≡ 0 = omega (arith, once, places-here i p ps same.1 same.0) in
              left-next a p ps ∙ left-none next ps none ∙ ap (λ n. slice_index_or (fold put a (map (λ v. (n, v)) (run p.0))) i None) same.1
              ∙ filled-here a i (run p.0) asked within ∙ ap (λ q. last_or (slice_index_or a i None) (records i (run q))) (All-head (λ q. q.1 ≡ i → q.0 ≡ k) p ps own same.1)
          | inr other ↦
              left-next a p ps
              ∙ left-once k next ps asked (omega (arith, long, within)) (sym (places-other i p ps other.0) ∙ once) (All-tail (λ q. q.1 ≡ i → q.0 ≡ k) p ps own)
              ∙ ap (λ o. last_or o (records i (run k))) (filled-other a p.1 i (run p.0) (λ e. other.1 (sym e)))
        ]

  module _ {K : Type 0} (run : K → List ℕ) (slot : List ℕ → K) where
    abbrev answer_of : Option ℕ × List ℕ → Option ℕ
    answer_of p = last_or p.0 (records_of log p.1 (run (slot p.1)))

    pub fold-visits_of : (a : List (Option ℕ)) (sorted : List (K × ℕ)) → length a ≡ length keys → IsPermutation (probes_from slot 0 keys) sorted
        → fold put a (visits_of run sorted) ≡ map answer_of (zip a keys)
    fold-visits_of a sorted size moved =
        let probes = probes_from slot 0 keys in
        let filled = fold put a (visits_of run sorted) in
        let wide : length (zip a keys) ≡ length a = length-zip a keys ∙ omega (arith, size) in
        let long : length filled ≡ length a = length-fold_put a (visits_of run sorted) in
        let count = length-map (zip a keys) answer_of in
        ext_get_or None filled (map answer_of (zip a keys)) (omega (arith, wide, long, count)) (λ i low.
        let within : i < length a = omega (arith, low, long) in
        let asked : i < length keys = omega (arith, within, size) in
        let below : i < length (zip a keys) = omega (arith, within, wide) in
        let key = slice_index_or keys i [] in
        let once : places i sorted ≡ 1 = sum_by-IsPermutation (at_place i) probes sorted moved ∙ one_each slot i 0 keys (omega arith) (omega (arith, asked)) in
        let own = All-permutation (λ p. p.0 ≡ slot (slice_index_or keys p.1 [])) probes sorted moved (own_keys slot [] keys 0 refl) in
        let mine = All-weaker (λ p. p.0 ≡ slot (slice_index_or keys p.1 [])) (λ p. p.1 ≡ i → p.0 ≡ slot key) (λ p e same. e ∙ ap (λ n. slot (slice_index_or keys n [])) same) sorted own in
        left-once run i (slot key) a sorted asked within once mine
        ∙ ap answer_of (sym (get_or-zip a keys i (None, []) within asked)) ∙ sym (get_or-map answer_of (zip a keys) i (None, []) None below))

  -- an event that finds a list changes no answer
  pub fold-with_event : (a : List (Option ℕ)) (es : List (Event ℕ)) → fold (with_event log keys) a es ≡ fold put a (visits_in es)
  fold-with_event a [] = refl
  fold-with_event a (Found place len ∷ es) = fold-with_event a es
  fold-with_event a (Visit place position ∷ es) = fold-with_event (put a (place, position)) es

-- keys that stand behind something
pub zip-map : {A B C D : Type 0} (f : A × B → C) (g : D → B) (xs : List A) (ys : List D) → map f (zip xs (map g ys)) ≡ map (λ p. f (p.0, g p.1)) (zip xs ys)
zip-map f g [] ys = refl
zip-map f g (x ∷ xs) [] = refl
zip-map f g (x ∷ xs) (y ∷ ys) = ap (λ l. f (x, g y) ∷ l) (zip-map f g xs ys)

-- what calls on events change, and what they don't
module _ {F V B : Type 0} (g : Mut F (Ahead V × Unit {0}) (Unit {0})) (inside : F → B) where
  pub kept_events : ((p : F) (t : Ahead V) (q : F) → Called g p (t, tt) tt q → inside p ≡ inside q) → (p q : F) (es : List (Event V)) → FoldsTo (TellsAt g) p es q
      → inside p ≡ inside q
  kept_events f p q [] h = ap inside h
  kept_events f p q (Found place len ∷ es) h = f p (ahead.Found place len) h.0 h.1 ∙ kept_events f h.0 q es h.2
  kept_events f p q (Visit place value ∷ es) h = f p (ahead.Visit place h.1.0) h.0 h.1.2 ∙ kept_events f h.0 q es h.2

  pub folded_events : (put : B → Event V → B) → ((p : F) (t : Ahead V) (q : F) → Called g p (t, tt) tt q → inside q ≡ put (inside p) (event_of t)) → (p q : F) (es : List (Event V))
      → FoldsTo (TellsAt g) p es q → inside q ≡ fold put (inside p) es
  folded_events put f p q [] h = ap inside (sym h)
  folded_events put f p q (Found place len ∷ es) h =
      folded_events put f h.0 q es h.2 ∙ ap (λ b. fold put b es) (f p (ahead.Found place len) h.0 h.1)
  folded_events put f p q (Visit place value ∷ es) h =
      folded_events put f h.0 q es h.2
      ∙ ap (λ b. fold put b es) (f p (ahead.Visit place h.1.0) h.0 h.1.2 ∙ ap (λ v. put (inside p) (Visit place v)) h.1.1)

-- answers beside the log and the keys, which stay
abbrev pub beside : List (List ℕ) × List (List ℕ) × List (Option ℕ) → Event ℕ → List (List ℕ) × List (List ℕ) × List (Option ℕ)
beside s e = (s.0, s.1, with_event s.0 s.1 s.2 e)

pub fold-beside : (log keys : List (List ℕ)) (a : List (Option ℕ)) (es : List (Event ℕ)) → fold beside (log, keys, a) es ≡ (log, keys, fold (with_event log keys) a es)
fold-beside log keys a [] = refl
fold-beside log keys a (e ∷ es) = fold-beside log keys (with_event log keys a e) es
