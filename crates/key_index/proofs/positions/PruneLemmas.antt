-- What stays of an immutable index whose first cells go.
--     past_key, below_key            no key is behind the cells, nor in front of the start
--     released_none, released_more   no cell goes, and one more
--     jumped_log                     the start may be raised once it is reached or no cell is left
--     Pruned                         what a pruning changes
--     Pruned-all_released            it does so
use Rattle.std.proofs.Common.{◌≡◌, ℕ, suc, zero, ◌+◌, ◌-◌, ◌^◌, ◌<◌, ◌≤◌, ◌⊎◌, min, max, Bool, true, false, cond, ◌&&◌, [], length, drop, slice_get, nat_le, nat_eq, None, is_some, refl, sym, ap, ◌∙◌, inl, inr, arith, count_by, length-drop}
use Rattle.std.specs.List.{range_with_len}
use Rattle.std.specs.Option.{option_map}
use Rattle.std.proofs.lemmas.Bool.{leb-true, leb-false, eqb-true, eqb-false}
use Rattle.std.proofs.lemmas.List.Sums.{sum_by-cons}
use Rattle.std.proofs.lemmas.Option.{slice_get_past}
use Rattle.key_index.specs.Table.{stored_at}
use Rattle.key_index.specs.Immutable.{Log, key_at, end_of, hashes, indexed_count, IsLog, IsReleased}
use Rattle.key_index.proofs.tables.TableMaps.{files_same}
use Rattle.key_index.proofs.positions.ImmutableLemmas.{lt-leb}

module _ (q : ℕ → Bool) where
  one : ℕ → ℕ
  one p = cond {A = ℕ} (q p) 1 0

  count_more : (a n : ℕ) → count_by q (range_with_len a (suc n)) ≡ count_by q (range_with_len a n) + cond {A = ℕ} (q (a + n)) 1 0
  count_more a zero =
      let place : a + 0 ≡ a = omega arith in
      let same : cond {A = ℕ} (q (a + 0)) 1 0 ≡ cond {A = ℕ} (q a) 1 0 = ap (λ p. cond {A = ℕ} (q p) 1 0) place in
      sum_by-cons (λ p. cond {A = ℕ} (q p) 1 0) a [] ∙ omega (arith, same)
  count_more a (suc n) =
      let place : (a + 1) + n ≡ a + suc n = omega arith in
      let same : cond {A = ℕ} (q ((a + 1) + n)) 1 0 ≡ cond {A = ℕ} (q (a + suc n)) 1 0 = ap (λ p. cond {A = ℕ} (q p) 1 0) place in
      omega (arith, count_more (a + 1) n, same, sum_by-cons (λ p. cond {A = ℕ} (q p) 1 0) a (range_with_len (a + 1) (suc n)), sum_by-cons (λ p. cond {A = ℕ} (q p) 1 0) a (range_with_len (a + 1) n))

  count_on : (a n m : ℕ) → ((p : ℕ) → a + n ≤ p → q p ≡ false) → count_by q (range_with_len a (n + m)) ≡ count_by q (range_with_len a n)
  count_on a n zero h = let e : n + 0 ≡ n = omega arith in ap (λ k. count_by q (range_with_len a k)) e
  count_on a n (suc m) h =
      let e : n + suc m ≡ suc (n + m) = omega arith in
      let none : cond {A = ℕ} (q (a + (n + m))) 1 0 ≡ 0 = ap (λ b. cond {A = ℕ} b 1 0) (h (a + (n + m)) (omega arith)) in
      let step : count_by q (range_with_len a (n + suc m)) ≡ count_by q (range_with_len a (suc (n + m))) = ap (λ k. count_by q (range_with_len a k)) e in
      omega (arith, step, count_more a (n + m), count_on a n m h, none)

module _ {T K : Type 0} where
  pub past_key : (t : Log T K) (p : ℕ) → length t.keys ≤ p - t.start → key_at t p ≡ None
  past_key t p le =
      elim (nat_le t.start p && stored_at t.cells p) as (λ b. cond b (slice_get t.keys (p - t.start)) None ≡ None) [
        | true ↦ slice_get_past t.keys (p - t.start) le
        | false ↦ refl
      ]

  pub below_key : (t : Log T K) (p : ℕ) → p < t.start → key_at t p ≡ None
  below_key t p lt = ap (λ b. cond (b && stored_at t.cells p) (slice_get t.keys (p - t.start)) None) (lt-leb t.start p lt)

  pub released_none : (hashed : T → K → ℕ) (s : Log T K) → IsLog hashed s → IsReleased s s
  released_none hashed s l =
      let zero_long : s.start - s.start ≡ 0 = omega arith in
      let none : indexed_count s s.start (s.start - s.start) ≡ 0 = ap (indexed_count s s.start) zero_long in
      record {
        translator = refl;
        start = omega arith;
        end = refl;
        keys = λ p le. refl;
        pruned = let f = l.pruned_fits in omega (arith, none, f);
        removals = let f = l.removals_fit in omega (arith, f);
      }

  pub released_more : (s t u : Log T K) → IsReleased s t → u.translator ≡ t.translator → 0 < length t.keys → u.start ≡ t.start + 1 → u.keys ≡ drop 1 t.keys
      → ((p : ℕ) → u.start ≤ p → key_at u p ≡ key_at t p)
      → u.pruned ≡ min (t.pruned + cond {A = ℕ} (is_some (key_at t t.start)) 1 0) (2 ^ 64 - 1)
      → u.cells.removals ≡ min (t.cells.removals + 1) (2 ^ 64 - 1) → IsReleased s u
  released_more s t u r same held start cells keys pruned removals =
      let from = r.start in
      let long : length u.keys ≡ length t.keys - 1 = ap length cells ∙ length-drop 1 t.keys in
      let next : u.start - s.start ≡ suc (t.start - s.start) = omega (arith, from, start) in
      let place : s.start + (t.start - s.start) ≡ t.start = omega (arith, from) in
      let counted : indexed_count s s.start (u.start - s.start) ≡ indexed_count s s.start (t.start - s.start) + cond {A = ℕ} (is_some (key_at t t.start)) 1 0 =
      ap (indexed_count s s.start) next ∙ count_more (λ p. is_some (key_at s p)) s.start (t.start - s.start)
      ∙ ap (λ p. indexed_count s s.start (t.start - s.start) + cond {A = ℕ} (is_some (key_at s p)) 1 0) place
      ∙ ap (λ o. indexed_count s s.start (t.start - s.start) + cond {A = ℕ} (is_some o) 1 0) (sym (r.keys t.start (omega arith))) in
      record {
        translator = same ∙ r.translator;
        start = omega (arith, from, start);
        end = let e = r.end in omega (arith, e, long, start, held);
        keys = λ p le. keys p le ∙ r.keys p (omega (arith, le, start));
        pruned = let e = r.pruned in omega (arith, counted, e, pruned);
        removals = let e = r.removals in omega (arith, e, removals, start, from);
      }

  pub record Pruned (s : Log T K) (start : ℕ) (u : Log T K) : Type 0 where
    pub keys : (p : ℕ) → key_at u p ≡ cond (nat_le start p) (key_at s p) None
    pub start_is : u.start ≡ max s.start start
    pub end : end_of u ≡ max (end_of s) start
    pub pruned : u.pruned ≡ min (s.pruned + indexed_count s s.start (start - s.start)) (2 ^ 64 - 1)
    pub removals : u.cells.removals ≡ min (s.cells.removals + (min (end_of s) start - s.start)) (2 ^ 64 - 1)

  module _ (s t : Log T K) (start : ℕ) (below : t.start ≤ start) (reached : 0 < length t.keys → t.start ≡ start) where
    start_or_no_keys : (t.start ≡ start) ⊎ (length t.keys ≡ 0)
    start_or_no_keys =
        elim (nat_eq (length t.keys) 0) as (λ b. nat_eq (length t.keys) 0 ≡ b → (t.start ≡ start) ⊎ (length t.keys ≡ 0)) [
          | true ↦ λ e. inr (eqb-true _ _ e)
          | false ↦ λ e. let some = eqb-false _ _ e in inl (reached (omega (arith, some)))
        ] refl

    jumped_key : (p : ℕ) → key_at (record t { start = start }) p ≡ key_at t p
    jumped_key p =
        elim start_or_no_keys [
          | inl e ↦ ap (λ n. key_at (record t { start = n }) p) (sym e)
          | inr e ↦ past_key (record t { start = start }) p (omega (arith, e)) ∙ sym (past_key t p (omega (arith, e)))
        ]

    pub jumped_log : (hashed : T → K → ℕ) → IsLog hashed t → start < 2 ^ 64 → IsLog hashed (record t { start = start })
    jumped_log hashed l fits = record {
      stored = files_same (hashes hashed t) (hashes hashed (record t { start = start })) (λ q. ap (option_map (hashed t.translator)) (sym (jumped_key q))) l.stored;
      fits = let f = l.fits in elim start_or_no_keys [ inl e ↦ omega (arith, f, e) | inr e ↦ omega (arith, fits, e) ];
      pruned_fits = l.pruned_fits;
      removals_fit = l.removals_fit;
    }

    pub Pruned-all_released : IsReleased s t → Pruned s start (record t { start = start })
    Pruned-all_released r =
        let from = r.start in
        let end = r.end in
        let more = r.removals in
        let place : s.start + (t.start - s.start) ≡ t.start = omega (arith, from) in
        let counted : indexed_count s s.start (start - s.start) ≡ indexed_count s s.start (t.start - s.start) =
        elim start_or_no_keys [
          | inl e ↦ ap (λ n. indexed_count s s.start (n - s.start)) (sym e)
          | inr e ↦
              let parts : start - s.start ≡ (t.start - s.start) + (start - t.start) = omega (arith, from, below) in
              ap (indexed_count s s.start) parts ∙ count_on (λ p. is_some (key_at s p)) s.start (t.start - s.start) (start - t.start)
              (λ p le. ap is_some (sym (r.keys p (omega (arith, le, place))) ∙ past_key t p (omega (arith, e))))
        ] in
        record {
          keys = λ p. elim (nat_le start p) as (λ b. nat_le start p ≡ b → key_at (record t { start = start }) p ≡ cond b (key_at s p) None) [
            | true ↦ λ e. let le : start ≤ p = leb-true _ _ e in jumped_key p ∙ r.keys p (omega (arith, le, below))
            | false ↦ λ e. let lt : p < start = leb-false _ _ e in below_key (record t { start = start }) p lt
          ] refl;
          start_is = omega (arith, from, below);
          end = elim start_or_no_keys [ inl e ↦ omega (arith, e, end) | inr e ↦ omega (arith, e, end, below) ];
          pruned = let e = r.pruned in omega (arith, e, counted);
          removals = elim start_or_no_keys [ inl e ↦ omega (arith, e, end, more, from) | inr e ↦ omega (arith, e, end, more, from, below) ];
        }
