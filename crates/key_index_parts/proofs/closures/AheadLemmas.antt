-- Lists that wait, each in the cell of its number, and the events of a batch that looks ahead, one after another.
use Rattle.std.proofs.Common.{◌≡◌, ℕ, zero, suc, ◌+◌, ◌<◌, ◌≤◌, ◌%◌, List, [], ◌∷◌, ◌++◌, length, map, take, drop, Option, Some, None, slice_get, slice_set, slice_index_or, refl, sym, ap, subst, ◌∙◌, inl, inr, arith, append_assoc}
use Rattle.std.proofs.lemmas.Bool.{cases_eq}
use Rattle.std.proofs.lemmas.Grind.{get_or-set_at}
use Rattle.std.proofs.lemmas.List.{get_or-set_other, drop_more, drop-drop, map-append}
use Rattle.std.specs.Fn.{Mut, Called}
use Rattle.std.specs.List.{FoldsTo}
use Rattle.std.specs.Option.{option_map}
use Rattle.key_index_flat.specs.Visits.{visits_of}
use Rattle.key_index_flat.proofs.closures.VisitLemmas.{folds_append, folds_through}
use Rattle.key_index_parts.specs.Ahead.{Event, Found, Visit, SameVisits, TellsAt, events_from, found_at, visits_at, visits_in}
use Rattle.key_index_parts.specs.declared.index.partitioned.ordered.ahead.Ahead.{Ahead}
use Rattle.key_index_parts.specs.declared.index.partitioned.ordered.ahead.Ahead.TheVariants as ahead

take-suc : {A : Type 0} (n : ℕ) (l : List A) → take (suc n) l ≡ take n l ++ take 1 (drop n l)
take-suc zero l = refl
take-suc (suc n) [] = refl
take-suc (suc n) (x ∷ l) = ap (λ r. x ∷ r) (take-suc n l)

get_dropped : {A : Type 0} (n : ℕ) (l : List A) → slice_get (drop n l) 0 ≡ slice_get l n
get_dropped zero l = refl
get_dropped (suc n) [] = refl
get_dropped (suc n) (x ∷ l) = get_dropped n l

module _ {K V : Type 0} (run : K → List V) (probes : List (K × ℕ)) where
  -- the lists of the probes of these numbers wait, each in its cell
  abbrev pub Waits : List (Option (List V)) → ℕ → ℕ → Type 0
  Waits cells from to = (i : ℕ) (p : K × ℕ) → from ≤ i → i < to → slice_get probes i ≡ Some p → slice_index_or cells (i % 4) None ≡ Some (run p.0)

  -- the one of the next number is put into a cell that none of them needs
  pub waits_next : (cells : List (Option (List V))) (found : Option (List V)) (from to cell : ℕ) → length cells ≡ 4 → to < from + 4 → cell ≡ to % 4
      → found ≡ option_map (λ p. run p.0) (slice_get (drop to probes) 0) → Waits cells from to → Waits (slice_set cells cell found) from (to + 1)
  waits_next cells found from to cell size near at is waits i p low below here =
      elim (cases_eq i to) as (λ _. slice_index_or (slice_set cells cell found) (i % 4) None ≡ Some (run p.0)) [
        | inl same ↦ get_or-set_at cells cell (i % 4) found None (omega arith) (omega arith) ∙ is
            ∙ ap (λ o. option_map (λ p. run p.0) o) (get_dropped to probes ∙ ap (λ n. slice_get probes n) (sym same) ∙ here)
        | inr other ↦ get_or-set_other cells cell (i % 4) found None (λ (e : i % 4 ≡ cell). omega arith) ∙ waits i p low (omega arith) here
      ]

  -- and then the first of them isn't needed
  pub waits_turn : (cells : List (Option (List V))) (found : Option (List V)) (n : ℕ) → length cells ≡ 4 → found ≡ option_map (λ p. run p.0) (slice_get (drop (n + 4) probes) 0)
      → Waits cells n (n + 4) → Waits (slice_set cells (n % 4) found) (n + 1) (n + 1 + 4)
  waits_turn cells found n size is waits =
      let more : n + 4 + 1 ≡ n + 1 + 4 = omega arith in
      subst (λ m. Waits (slice_set cells (n % 4) found) (n + 1) m) more
      (waits_next cells found (n + 1) (n + 4) (n % 4) size (omega arith) (omega arith) is (λ i p low below here. waits i p (omega arith) below here))

  module _ {F : Type 0} (R : F → Event V → F → Type 0) where
    -- one finding more, before the first visit
    pub folds_found : (f q u : F) (n : ℕ) (later : List (K × ℕ)) → later ≡ drop n probes
        → FoldsTo R f (map (found_at run) (take n probes)) q → FoldsTo R q (map (found_at run) (take 1 later)) u → FoldsTo R f (map (found_at run) (take (n + 1) probes)) u
    folds_found f q u n later is h k =
        let next : suc n ≡ n + 1 = omega arith in
        let all : map (found_at run) (take n probes) ++ map (found_at run) (take 1 later) ≡ map (found_at run) (take (n + 1) probes) =
        ap (λ l. map (found_at run) (take n probes) ++ map (found_at run) (take 1 l)) is ∙ sym (map-append (found_at run) (take n probes) (take 1 (drop n probes)))
        ∙ ap (λ l. map (found_at run) l) (sym (take-suc n probes) ∙ ap (λ m. take m probes) next) in
        subst (λ l. FoldsTo R f l u) all (folds_append R f q u (map (found_at run) (take n probes)) (map (found_at run) (take 1 later)) h k)

    -- what is left, behind the events of one probe
    pub folds_step : (f g h last : F) (n : ℕ) (p : K × ℕ) → n < length probes → p ≡ slice_index_or probes n p
        → FoldsTo R f (map (found_at run) (take 1 (drop (n + 4) probes))) g → FoldsTo R g (visits_at p.1 (run p.0)) h
        → FoldsTo R h (events_from run (drop (n + 1 + 4) probes) (drop (n + 1) probes)) last → FoldsTo R f (events_from run (drop (n + 4) probes) (drop n probes)) last
    folds_step f g h last n p within is found visited rest =
        let later = drop (n + 4) probes in
        let after = drop (n + 1) probes in
        let behind : n + 1 + 4 ≡ n + 4 + 1 = omega arith in
        let dropped : drop (n + 1 + 4) probes ≡ drop 1 later = ap (λ m. drop m probes) behind ∙ sym (drop-drop 1 (n + 4) probes) in
        let here : p ∷ after ≡ drop n probes = ap (λ x. x ∷ after) is ∙ sym (drop_more probes n p within) in
        subst (λ l. FoldsTo R f (events_from run later l) last) here
        (folds_append R f h last (map (found_at run) (take 1 later) ++ visits_at p.1 (run p.0)) (events_from run (drop 1 later) after)
        (folds_append R f g h (map (found_at run) (take 1 later)) (visits_at p.1 (run p.0)) found visited)
        (subst (λ l. FoldsTo R h (events_from run l after) last) dropped rest))

-- the visits among events are those of the lists, in turn
module _ {K V : Type 0} (run : K → List V) where
  visits_found : (ps : List (K × ℕ)) (es : List (Event V)) → visits_in (map (found_at run) ps ++ es) ≡ visits_in es
  visits_found [] es = refl
  visits_found (p ∷ ps) es = visits_found ps es

  visits_list : (n : ℕ) (l : List V) (es : List (Event V)) → visits_in (visits_at n l ++ es) ≡ map (λ v. (n, v)) l ++ visits_in es
  visits_list n [] es = refl
  visits_list n (v ∷ l) es = ap (λ r. (n, v) ∷ r) (visits_list n l es)

  visits_from : (later ps : List (K × ℕ)) → visits_in (events_from run later ps) ≡ visits_of run ps
  visits_from later [] = refl
  visits_from later (p ∷ ps) =
      ap (λ es. visits_in es) (append_assoc (map (found_at run) (take 1 later)) (visits_at p.1 (run p.0)) (events_from run (drop 1 later) ps))
      ∙ visits_found (take 1 later) (visits_at p.1 (run p.0) ++ events_from run (drop 1 later) ps)
      ∙ visits_list p.1 (run p.0) (events_from run (drop 1 later) ps)
      ∙ ap (λ r. map (λ v. (p.1, v)) (run p.0) ++ r) (visits_from (drop 1 later) ps)

pub visits_same : {K V : Type 0} → SameVisits K V
visits_same run probes = visits_found run (take 4 probes) (events_from run (drop 4 probes) probes) ∙ visits_from run (drop 4 probes) probes

-- what a closure that only calls another is told, that one is told
module _ {F G V : Type 0} (g : Mut F (Ahead V × Unit {0}) (Unit {0})) (k : Mut G (Ahead V × Unit {0}) (Unit {0})) (inside : F → G)
    (calls : (p : F) (t : Ahead V) (q : F) → Called g p (t, tt) tt q → Called k (inside p) (t, tt) tt (inside q)) where
  told_through : (p : F) (e : Event V) (q : F) → TellsAt g p e q → TellsAt k (inside p) e (inside q)
  told_through p (Found place len) q h = calls p (ahead.Found place len) q h
  told_through p (Visit place value) q h = (h.0, h.1, calls p (ahead.Visit place h.0) q h.2)

  pub tells_through : (p q : F) (es : List (Event V)) → FoldsTo (TellsAt g) p es q → FoldsTo (TellsAt k) (inside p) es (inside q)
  tells_through p q es h = folds_through (TellsAt g) (TellsAt k) inside told_through p q es h
