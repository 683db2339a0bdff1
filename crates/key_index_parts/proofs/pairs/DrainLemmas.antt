-- The runs of pairs whose keys never fall, one after another.
--     grouped-first, first_split   the first run: its key, as it stands last in the run, its values, and what the pairs behind it stand for
--     values_of-grouped            the lists of the content, one behind another, are the values
--     values_drained, first_run, next_room     by the keys and the values; the room for one run more
--     run_filled, ..               one run more has its values
use Rattle.std.proofs.Common.{◌≡◌, ℕ, zero, suc, ◌+◌, ◌-◌, ◌<◌, ◌≤◌, false, cond, T, List, [], ◌∷◌, ◌++◌, length, take, drop, map, slice_set, get_or, All, refl, sym, ap, subst, ◌∙◌, arith}
use Rattle.std.proofs.Math.Seq.{take-add, take-append_seam, drop-append_seam}
use Rattle.std.proofs.lemmas.Slice.{between_from_start}
use Rattle.std.proofs.lemmas.List.{length-drop, length-take-le, drop-map, drop-drop, drop_more, get_or-drop, length-append, take-append-drop, take_more_set, map_push, drop-set-lt}
use Rattle.std.proofs.lemmas.Map.Made.{keys_of-zip}
use Rattle.std.proofs.lemmas.List.Elements.{All-cons, All-head, All-weaker}
use Rattle.std.specs.List.{filter, flat_map, zip}
use Rattle.std.specs.List.Sorted.{IsSorted}
use Rattle.std.specs.Map.{keys_of, values_of}
use Rattle.std.specs.Cmp.{IsTotalOrder, tied_itself, alike_right}
use Rattle.std.specs.FinMap.{put}
use Rattle.std.specs.FinMap.Entries.{by_order}
use Rattle.std.specs.declared.cmp.Ordering.{Ordering}
use Rattle.std.specs.declared.cmp.Ordering.TheVariants.{Less, Equal, Greater}
use Rattle.std.specs.Ordering.{is_lt, is_eq, eq_by_cmp, ordering_reverse}
use Rattle.std.specs.declared.vec.Vec.{Vec}
use Rattle.std.specs.Vec.{vec_capacity}
use Rattle.key_index_flat.specs.Content.{Content}
use Rattle.key_index_parts.specs.Pairs.{Paired, count_upto, run_of, grouped, list_of, room_of, room_for}
use Rattle.key_index_parts.proofs.pairs.SearchLemmas.{Rises, Rises-drop, Rises-IsSorted, IsSorted-Rises, above_too}
use Rattle.key_index_parts.proofs.pairs.ZipLemmas.{drop-zip, values_of-zip}
use Rattle.key_index_parts.proofs.pairs.PairLemmas.{filter-none}
use Rattle.key_index_parts.proofs.pairs.RunLemmas.{all_keys, pairs_at-all_greater, pairs_at, found_in, run_slice}
use Rattle.key_index_parts.proofs.pairs.GroupLemmas.{list_at-grouped, run_of-alike}

module _ {K V : Type 0} {cmp : K → K → Ordering} (o : IsTotalOrder cmp) where
  -- what stands at the front once a first pair is put to a content that begins with this entry
  put-by_order : (k : K) (l : List V) (f : K) (m : List V) (c : Content K V) (r : Ordering) → cmp k f ≡ r → put cmp k l ((f, m) ∷ c) ≡ by_order r ((k, l) ∷ (f, m) ∷ c) ((f, l) ∷ c) ((f, m) ∷ put cmp k l c)
  put-by_order k l f m c r e = ap (λ r. by_order r ((k, l) ∷ (f, m) ∷ c) ((f, l) ∷ c) ((f, m) ∷ put cmp k l c)) e

  abbrev FirstRun : K × V → List (K × V) → Content K V → K → List V → Type 0
  FirstRun e es c d r =
      (c ≡ (get_or (keys_of (e ∷ es)) (length r) d, e.1 ∷ r) ∷ grouped cmp (drop (length r) es)) × (cmp e.0 (get_or (keys_of (e ∷ es)) (length r) d) ≡ Equal)

  pub grouped-first : (e : K × V) (es : List (K × V)) (d : K) → Rises cmp (keys_of (e ∷ es)) → FirstRun e es (grouped cmp (e ∷ es)) d (run_of cmp es e.0)
  grouped-first e [] d h = (refl, tied_itself o e.0)
  grouped-first e (f ∷ fs) d h =
      let rest : FirstRun f fs (grouped cmp (f ∷ fs)) d (run_of cmp fs f.0) = grouped-first f fs d h.1 in
      let k = get_or (keys_of (f ∷ fs)) (length (run_of cmp fs f.0)) d in
      let behind = grouped cmp (drop (length (run_of cmp fs f.0)) fs) in
      let same : cmp e.0 k ≡ cmp e.0 f.0 = sym (alike_right o f.0 k e.0 rest.1) in
      elim (cmp e.0 f.0) as (λ r. cmp e.0 f.0 ≡ r → FirstRun e (f ∷ fs) (grouped cmp (e ∷ f ∷ fs)) d (run_of cmp (f ∷ fs) e.0)) [
        | Less ↦ λ q.
            let least : All (λ g. is_lt (cmp g.0 e.0) ≡ false) (f ∷ fs) = all_keys (λ x. is_lt (cmp x e.0) ≡ false) (f ∷ fs) h.0 in
            let first : All (λ g. is_lt (cmp g.0 f.0) ≡ false) fs = all_keys (λ x. is_lt (cmp x f.0) ≡ false) fs h.1.0 in
            let over : All (λ g. cmp e.0 g.0 ≡ Less) (f ∷ fs) = All-cons (λ g. cmp e.0 g.0 ≡ Less) f fs q (All-weaker (λ g. is_lt (cmp g.0 f.0) ≡ false) (λ g. cmp e.0 g.0 ≡ Less) (λ g n. above_too o e.0 f.0 g.0 n q) fs first) in
            let none : run_of cmp (f ∷ fs) e.0 ≡ [] = ap values_of (pairs_at-all_greater o (f ∷ fs) e.0 over) in
            subst (λ r. FirstRun e (f ∷ fs) (grouped cmp (e ∷ f ∷ fs)) d r) (sym none) (
              ap (λ l. put cmp e.0 (e.1 ∷ l) (grouped cmp (f ∷ fs))) (list_at-grouped o (f ∷ fs) e.0 ∙ none)
                  ∙ ap (put cmp e.0 (e.1 ∷ [])) rest.0 ∙ put-by_order e.0 (e.1 ∷ []) k _ behind Less (same ∙ q) ∙ ap (λ c. (e.0, e.1 ∷ []) ∷ c) (sym rest.0),
              tied_itself o e.0,
            )
        | Equal ↦ λ q.
            let at = filter (λ g. eq_by_cmp cmp f.0 g.0) fs in
            let run : run_of cmp (f ∷ fs) e.0 ≡ f.1 ∷ run_of cmp fs f.0 =
            run_of-alike o (f ∷ fs) e.0 f.0 q ∙ ap (λ r. values_of (cond (is_eq r) (f ∷ at) at)) (tied_itself o f.0) in
            subst (λ r. FirstRun e (f ∷ fs) (grouped cmp (e ∷ f ∷ fs)) d r) (sym run) (
              ap (λ l. put cmp e.0 (e.1 ∷ l) (grouped cmp (f ∷ fs))) (list_at-grouped o (f ∷ fs) e.0 ∙ run)
                  ∙ ap (put cmp e.0 (e.1 ∷ f.1 ∷ run_of cmp fs f.0)) rest.0 ∙ put-by_order e.0 _ k _ behind Equal (same ∙ q),
              same ∙ q,
            )
        | Greater ↦ λ q.
            let under : is_lt (cmp f.0 e.0) ≡ false = All-head (λ x. is_lt (cmp x e.0) ≡ false) f.0 (keys_of fs) h.0 in
            absurd (subst T (sym (ap is_lt (o.antisymm f.0 e.0 ∙ ap ordering_reverse q)) ∙ under) tt)
      ] refl

  -- the first run, by how many keys are not above the first, and the others
  pub first_split : (e : K × V) (es : List (K × V)) (d : K) (count : ℕ) → Rises cmp (keys_of (e ∷ es)) → count ≡ count_upto cmp (keys_of (e ∷ es)) e.0
      → (0 < count) × (grouped cmp (e ∷ es) ≡ (get_or (keys_of (e ∷ es)) (count - 1) d, take count (values_of (e ∷ es))) ∷ grouped cmp (drop count (e ∷ es)))
  first_split e es d count h counted =
      let run = run_of cmp es e.0 in
      let at = pairs_at o es e.0 in
      let none = filter-none (λ x. is_lt (cmp x e.0)) (e.0 ∷ keys_of es) (All-cons (λ x. is_lt (cmp x e.0) ≡ false) e.0 (keys_of es) (ap is_lt (tied_itself o e.0)) h.0) in
      let found = found_in o {es = e ∷ es} (IsSorted-Rises o (keys_of (e ∷ es)) h) e.0 0 count (sym (ap length none)) counted in
      let own : run_of cmp (e ∷ es) e.0 ≡ e.1 ∷ run = ap (λ r. values_of (cond (is_eq r) (e ∷ at) at)) (tied_itself o e.0) in
      let many : suc (length run) ≡ count = omega (arith, found.run.upto, ap (λ l. length l) own) in
      let last : length run ≡ count - 1 = omega (arith, many) in
      let values = sym own ∙ sym (run_slice o found.sorted found.run) ∙ between_from_start (values_of (e ∷ es)) count in
      (omega (arith, many), (grouped-first e es d h).0 ∙ (λ i. (get_or (keys_of (e ∷ es)) (last i) d, values i) ∷ grouped cmp (drop (many i) (e ∷ es))))

  values_upto : (n : ℕ) (es : List (K × V)) → length es ≤ n → Rises cmp (keys_of es) → flat_map (λ e. e.1) (grouped cmp es) ≡ values_of es
  values_upto n [] l h = refl
  values_upto zero (e ∷ es) l h = absurd (omega arith)
  values_upto (suc n) (e ∷ es) l h =
      let count = count_upto cmp (keys_of (e ∷ es)) e.0 in
      let first = first_split e es e.0 count h refl in
      let up = subst (Rises cmp) (drop-map (λ e. e.0) count (e ∷ es)) (Rises-drop o count (keys_of (e ∷ es)) h) in
      ap (flat_map (λ e. e.1)) first.1 ∙ ap (λ l. take count (values_of (e ∷ es)) ++ l) (values_upto n (drop count (e ∷ es)) (omega (arith, length-drop count (e ∷ es), l, first.0)) up ∙ sym (drop-map (λ e. e.1) count (e ∷ es)))
      ∙ take-append-drop count (values_of (e ∷ es))

  pub values_of-grouped : (es : List (K × V)) → Rises cmp (keys_of es) → flat_map (λ e. e.1) (grouped cmp es) ≡ values_of es
  values_of-grouped es h = values_upto (length es) es (omega arith) h

  -- by the keys and the values
  pub values_drained : {ks : List K} {vs : List V} → Paired cmp ks vs → flat_map (λ e. e.1) (grouped cmp (zip ks vs)) ≡ vs
  values_drained {ks} {vs} paired =
      values_of-grouped (zip ks vs) (subst (Rises cmp) (sym (keys_of-zip ks vs (sym paired.sized))) (Rises-IsSorted o ks paired.sorted)) ∙ values_of-zip ks vs paired.sized

  pub first_run : (ks : List K) (vs : List V) → length ks ≡ length vs → Rises cmp ks → (k d : K) (count : ℕ) → 0 < length ks → k ≡ get_or ks 0 d → count ≡ count_upto cmp ks k
      → grouped cmp (zip ks vs) ≡ (get_or ks (count - 1) d, take count vs) ∷ grouped cmp (drop count (zip ks vs))
  first_run [] vs sized h k d count some here counted = absurd (omega arith)
  first_run (x ∷ xs) [] sized h k d count some here counted = absurd (omega (arith, sized))
  first_run (x ∷ xs) (v ∷ vs) sized h k d count some here counted =
      let keys : keys_of (zip (x ∷ xs) (v ∷ vs)) ≡ x ∷ xs = keys_of-zip (x ∷ xs) (v ∷ vs) (sym sized) in
      let counts : count ≡ count_upto cmp (keys_of (zip (x ∷ xs) (v ∷ vs))) x = counted ∙ (λ i. count_upto cmp (sym keys i) (here i)) in
      (first_split (x, v) (zip xs vs) d count (subst (Rises cmp) (sym keys) h) counts).1
      ∙ (λ i. (get_or (keys i) (count - 1) d, take count (values_of-zip (x ∷ xs) (v ∷ vs) sized i)) ∷ grouped cmp (drop count (zip (x ∷ xs) (v ∷ vs))))

  pub next_room : (ks : List K) (vs : List V) → length ks ≡ length vs → IsSorted cmp ks → (start count : ℕ) (k d : K) → start < length ks → k ≡ get_or ks start d → count ≡ count_upto cmp (drop start ks) k → count ≤ length (drop start ks)
      → map room_for (grouped cmp (drop start (zip ks vs))) ≡ ((get_or ks (start + (count - 1)) d, []), count) ∷ map room_for (grouped cmp (drop (start + count) (zip ks vs)))
  next_room ks vs sized h start count k d within here counted few =
      let same : length (drop start ks) ≡ length (drop start vs) = omega (arith, length-drop start ks, length-drop start vs, sized) in
      let begin : start ≡ start + 0 = omega arith in
      let first = first_run (drop start ks) (drop start vs) same (Rises-drop o start ks (Rises-IsSorted o ks h)) k d count (omega (arith, length-drop start ks, within)) (here ∙ ap (λ n. get_or ks n d) begin ∙ sym (get_or-drop start ks 0 d)) counted in
      ap (λ l. map room_for (grouped cmp l)) (drop-zip start ks vs) ∙ ap (map room_for) first
      ∙ (λ i. ((get_or-drop start ks (count - 1) d i, []), length-take-le count (drop start vs) (omega (arith, few, same)) i) ∷ map room_for (grouped cmp ((ap (drop count) (sym (drop-zip start ks vs)) ∙ drop-drop count start (zip ks vs)) i)))

-- ---- runs that are filled in turn

take-next_dropped : {X : Type 0} (i : ℕ) (xs : List X) (x : X) (rest : List X) → drop i xs ≡ x ∷ rest → take (i + 1) xs ≡ take i xs ++ x ∷ []
take-next_dropped i xs x rest h = take-add i 1 xs ∙ ap (λ l. take i xs ++ take 1 l) h

module _ {K V A : Type 0} (c : Content K V) (rs : List (K × Vec V A)) (i : ℕ) (r : K × Vec V A) (within : i < length rs) (here : r ≡ get_or rs i r)
    (rooms : map room_of (drop i rs) ≡ map room_for (drop i c)) where
  drop-found : (l : Content K V) → drop i c ≡ l → (e : K × List V) × (drop i c ≡ e ∷ drop (i + 1) c) × (room_of r ≡ room_for e) × (map room_of (drop (i + 1) rs) ≡ map room_for (drop (i + 1) c))
  drop-found [] is =
      let none : room_of (get_or rs i r) ∷ map room_of (drop (i + 1) rs) ≡ [] = ap (map room_of) (sym (drop_more rs i r within)) ∙ rooms ∙ ap (map room_for) is in cc
  drop-found (e ∷ es) is =
      let behind : es ≡ drop (i + 1) c = ap (drop 1) (sym is) ∙ drop-drop 1 i c in
      let both : room_of (get_or rs i r) ∷ map room_of (drop (i + 1) rs) ≡ room_for e ∷ map room_for es = ap (map room_of) (sym (drop_more rs i r within)) ∙ rooms ∙ ap (map room_for) is in
      let first : room_of (get_or rs i r) ≡ room_for e = cc in
      let others : map room_of (drop (i + 1) rs) ≡ map room_for es = cc in
      (e, is ∙ ap (λ l. e ∷ l) behind, ap room_of here ∙ first, others ∙ ap (map room_for) behind)

  -- the entry that stands beside the run at a place
  pub drop-at_place : (e : K × List V) × (drop i c ≡ e ∷ drop (i + 1) c) × (room_of r ≡ room_for e) × (map room_of (drop (i + 1) rs) ≡ map room_for (drop (i + 1) c))
  drop-at_place = drop-found (drop i c) refl

  module _ (left : List V) (is : left ≡ flat_map (λ e. e.1) (drop i c)) where
    next_values : left ≡ drop-at_place.0.1 ++ flat_map (λ e. e.1) (drop (i + 1) c)
    next_values = is ∙ ap (flat_map (λ e. e.1)) drop-at_place.1

    room_is : vec_capacity r.1 ≡ length drop-at_place.0.1
    room_is = ap (λ p. p.1) drop-at_place.2

    pub run_empty : r.1.items ≡ []
    run_empty = ap (λ p. p.0.1) drop-at_place.2

    pub run_enough : vec_capacity r.1 ≤ length left
    run_enough = omega (arith, ap length next_values, length-append drop-at_place.0.1 (flat_map (λ e. e.1) (drop (i + 1) c)), room_is)

    -- once it has its values
    pub run_filled : (new : Vec V A) → new.items ≡ take (vec_capacity r.1) left → map list_of (take i rs) ≡ take i c → map list_of (take (i + 1) (slice_set rs i (r.0, new))) ≡ take (i + 1) c
    run_filled new filled done =
        let values : new.items ≡ drop-at_place.0.1 = filled ∙ (λ j. take (room_is j) (next_values j)) ∙ take-append_seam drop-at_place.0.1 (flat_map (λ e. e.1) (drop (i + 1) c)) in
        ap (map list_of) (take_more_set rs i (r.0, new) within) ∙ map_push list_of (take i rs) (r.0, new)
        ∙ (λ j. done j ++ (ap (λ p. p.0.0) drop-at_place.2 j, values j) ∷ [])
        ∙ sym (take-next_dropped i c drop-at_place.0 (drop (i + 1) c) drop-at_place.1)

    pub rooms_left : (new : Vec V A) → map room_of (drop (i + 1) (slice_set rs i (r.0, new))) ≡ map room_for (drop (i + 1) c)
    rooms_left new = ap (map room_of) (drop-set-lt (i + 1) rs i (r.0, new) (omega arith)) ∙ drop-at_place.3

    pub flat_map-rest : (rest : List V) → rest ≡ drop (vec_capacity r.1) left → rest ≡ flat_map (λ e. e.1) (drop (i + 1) c)
    flat_map-rest rest h = h ∙ (λ j. drop (room_is j) (next_values j)) ∙ drop-append_seam drop-at_place.0.1 (flat_map (λ e. e.1) (drop (i + 1) c))
