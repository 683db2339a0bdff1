-- On what a store keeps of its log.
--     kept_held, kept_end, kept_front, kept_tail  the map, the end and the tail of the whole log
--     undamaged_spelled                           what a salvage copies of it where there is no damage
--     cut_keeps                                   after the tail was cut off
--     HasRoom, at_end                             a record that is to stand behind the others: refused, written, or nothing to write
--     read_keeps                                  after calls that only read
--     same_front                                  it makes room behind the same records
--     written_keeps, begun_keeps                  after a record was written behind the others, or a part of it
use Rattle.std.proofs.Common.{◌≡◌, ◌≢◌, ◌⊎◌, ◌<◌, ℕ, ◌+◌, ◌-◌, ◌^◌, ◌==◌, ◌||◌, if◌then◌else◌, None, Some, Bool, true, false, cond, List, [], ◌∷◌, ◌++◌, length, take, drop, Option, is_some, Result, Ok, Err, inl, inr, refl, sym, ap, subst, ◌∙◌, length-append, length-take, length-drop, take-append-drop, arith}
use Rattle.std.proofs.lemmas.List.{append-nil, drop_at, nil_from_length, take_all, take-append-le}
use Rattle.std.proofs.lemmas.Bool.{cases_lt, eqb-true}
use Rattle.std.specs.Cmp.{IsTotalOrder}
use Rattle.std.specs.FinMap.{empty, get, len}
use Rattle.std.specs.List.{fold}
use Rattle.std.specs.Result.{OnOk}
use Rattle.std.specs.declared.cmp.Ordering.{Ordering}
use Rattle.std.specs.declared.cmp.Ordering.TheVariants.{Equal}
use Rattle.key_index_flat.specs.Content.{IsLawful}
use Rattle.key_index_flat.specs.FullKeys.{IsBytes}
use Rattle.key_index_flat.specs.View.{View, growth_fault_in, items_in, run_of}
use Rattle.key_index_flat.specs.declared.index.Fault.TheVariants as index_fault
use Rattle.key_index_store.specs.Device.{Adds, IsBegun, IsKnown, IsRead, Sees}
use Rattle.key_index_store.specs.Indexed.{Indexes, IsPlace, IsTail, Keeps, KeepsLists, Settles, entry_at}
use Rattle.key_index_store.specs.Record.{Entry, Fits, Outcome, Complete, Torn, Damaged, Stops, encoded, log_of, reading, size_of}
use Rattle.key_index_store.specs.Stored.{HasChanged, HasRefused, HasRoom, IsBeforeOrAfter, MayRead, MayRefuse, after_record, end_of, held_by, is_zeros, records_of, refusal_of, tail_by, tail_in, tail_of, with_record, with_value, without_tail}
use Rattle.key_index_store.specs.declared.store.Fault.{Fault}
use Rattle.key_index_store.specs.declared.store.Fault.TheVariants as fault
use Rattle.key_index_store.specs.declared.store.Tail.{Tail}
use Rattle.key_index_store.specs.declared.store.Tail.TheVariants as tail
use Rattle.key_index_store.proofs.IndexLemmas.{Indexes-filed, indexes_kept}
use Rattle.key_index_store.proofs.LogLemmas.{held_more, spelled_records}
use Rattle.key_index_store.proofs.RecordLemmas.{begun_torn, length-encoded}
use Rattle.key_index_store.proofs.SalvageLemmas.{every, none_behind, salvaged_split, spelled}
use Rattle.key_index_store.proofs.StoreLemmas.{remove_absent}

module _ {D : Type 0} {seen : D → Option (List ℕ)} {damaged : D → ℕ → Type 0} {may_leave : D → Option (List ℕ) → Type 0} {K : Type 0} (cmp : K → K → Ordering) (s : View K ℕ) (t : Tail) (is_synced : Bool) where
  -- after calls that only read
  pub read_keeps : (before after : D) (m n : ℕ) → IsRead seen damaged may_leave before after → n ≡ m
      → Sees (seen before) (λ log. Keeps cmp log s m t) × (is_synced ≡ true → Sees (seen before) (λ log. IsKnown (may_leave before)))
      → Sees (seen after) (λ log. Keeps cmp log s n t) × (is_synced ≡ true → Sees (seen after) (λ log. IsKnown (may_leave after)))
  read_keeps before after m n read same kept = (
    λ log now. subst (λ e. Keeps cmp log s e t) (sym same) (kept.0 log (read.stays log now)),
    λ synced log now none. kept.1 synced log (read.stays log now) (read.crash None none),
  )

module _ {K : Type 0} (cmp : K → K → Ordering) (log : List ℕ) (s : View K ℕ) (end : ℕ) (t : Tail) (h : Keeps cmp log s end t) where
  front_end : length (log_of (records_of (take end log))) ≡ end
  front_end = ap (λ l. length l) h.indexed.spelled ∙ omega (arith, length-take end log, h.within)

  pub kept_records : records_of log ≡ records_of (take end log)
  kept_records =
      ap records_of (sym (take-append-drop end log) ∙ ap (λ l. l ++ drop end log) (sym h.indexed.spelled))
      ∙ spelled_records (records_of (take end log)) (drop end log) h.indexed.fit (subst (λ n. Stops (reading n (drop end log))) (sym front_end) h.stops)

  pub kept_held : held_by log ≡ held_by (take end log)
  kept_held = ap (fold after_record empty) kept_records

  pub kept_end : end_of log ≡ end
  kept_end =
      ap (λ rs. length (log_of rs)) kept_records ∙ front_end

  pub kept_front : without_tail log ≡ take end log
  kept_front = ap (λ n. take n log) kept_end

  pub kept_tail : IsTail t (end_of log) (drop (end_of log) log)
  kept_tail = subst (λ n. IsTail t n (drop n log)) (sym kept_end) h.told

  -- without damage a salvage copies these records
  pub undamaged_spelled : ¬ (tail_in log ≡ tail.Damaged) → spelled log ≡ without_tail log
  undamaged_spelled undamaged =
      let stops = subst (λ n. Stops (reading n (drop n log))) (sym kept_end) h.stops in
      ap log_of (salvaged_split log ∙ ap (λ l. records_of log ++ l) (none_behind every log (end_of log) stops undamaged) ∙ append-nil (records_of log))
      ∙ ap log_of kept_records ∙ h.indexed.spelled ∙ sym kept_front

  take_twice : take end (take end log) ≡ take end log
  take_twice = take_all end (take end log) (omega (arith, length-take end log))

  pub cut_keeps : Keeps cmp (take end log) s end tail.Nothing
  cut_keeps =
      let none : drop end (take end log) ≡ [] = nil_from_length (drop end (take end log)) (omega (arith, length-drop end (take end log), length-take end log)) in
      record {
        within = omega (arith, length-take end log, h.within);
        indexed = subst (λ l. Indexes cmp l s) (sym take_twice) h.indexed;
        stops = subst (λ l. Stops (reading end l)) (sym none) tt;
        told = none;
      }

  pub cut_held : held_by (take end log) ≡ held_by log
  cut_held = sym kept_held

  pub cut_end : end_of (take end log) ≡ length (take end log)
  cut_end = ap (λ l. length l) h.indexed.spelled

  -- nothing stands behind the records
  pub ends_keep : end ≡ length log → Keeps cmp log s end tail.Nothing
  ends_keep all = record {
    within = h.within;
    indexed = h.indexed;
    stops = h.stops;
    told = nil_from_length (drop end log) (omega (arith, length-drop end log, all));
  }

  pub nothing_cut : t ≡ tail.Nothing → (log ≡ without_tail log) × (end_of log ≡ length log) × (¬ (tail_in log ≡ tail.Damaged))
  nothing_cut is =
      let none : drop end log ≡ [] = subst (λ x. IsTail x end (drop end log)) is h.told in
      let all : end ≡ length log = omega (arith, ap (λ l. length l) none, length-drop end log, h.within) in (
        sym (kept_front ∙ take_all end log (omega (arith, all))),
        kept_end ∙ all,
        λ e. (let both = sym (ap (tail_of (end_of log)) (ap (λ n. drop n log) kept_end ∙ none)) ∙ e in cc),
      )

  pub torn_undamaged : t ≡ tail.Torn → ¬ (tail_in log ≡ tail.Damaged)
  torn_undamaged is = subst (λ x. IsTail x (end_of log) (drop (end_of log) log)) is kept_tail

  -- where bytes stand behind the records, and are no damage
  pub torn_tail : t ≡ tail.Torn → end ≢ length log → tail_in log ≡ tail.Torn
  torn_tail is some =
      ap (λ n. tail_of n (drop n log)) kept_end ∙ of (drop end log) h.stops (subst (λ x. IsTail x end (drop end log)) is h.told)
      (λ none. some (omega (arith, ap (λ l. length l) none, length-drop end log, h.within)))
    where
      torn : (z : Bool) (o : Outcome) → Stops o → ¬ (cond z tail.Torn (tail_by o) ≡ tail.Damaged) → cond z tail.Torn (tail_by o) ≡ tail.Torn
      torn true o stops undamaged = refl
      torn false (Complete r) stops undamaged = absurd stops
      torn false Torn stops undamaged = refl
      torn false Damaged stops undamaged = absurd (undamaged refl)

      of : (l : List ℕ) → Stops (reading end l) → ¬ (tail_of end l ≡ tail.Damaged) → ¬ (l ≡ []) → tail_of end l ≡ tail.Torn
      of [] stops undamaged some = absurd (some refl)
      of (b ∷ l) stops undamaged some = torn (is_zeros (b ∷ l)) (reading end (b ∷ l)) stops undamaged

  -- where none do
  pub no_tail : end ≡ length log → tail_in log ≡ tail.Nothing
  no_tail all =
      ap (λ n. tail_of n (drop n log)) kept_end ∙ ap (tail_of end) (nil_from_length (drop end log) (omega (arith, length-drop end log, all)))

  pub damaged_tail : t ≡ tail.Damaged → tail_in log ≡ tail.Damaged
  damaged_tail is = subst (λ x. IsTail x (end_of log) (drop (end_of log) log)) is kept_tail

-- a part of a record from its front on is no damage
begun_undamaged : (place : ℕ) (r : Entry) (n : ℕ) → Fits r → n < size_of r → ¬ (tail_of place (take n (encoded place r)) ≡ tail.Damaged)
begun_undamaged place r n fits less = of (take n (encoded place r)) (begun_torn place r n fits less)
  where
    torn : (z : Bool) (o : Outcome) → o ≡ Torn → ¬ (cond z tail.Torn (tail_by o) ≡ tail.Damaged)
    torn true o is e = cc
    torn false o is e = (let both = ap tail_by (sym is) ∙ e in cc)

    of : (l : List ℕ) → reading place l ≡ Torn → ¬ (tail_of place l ≡ tail.Damaged)
    of [] is e = cc
    of (b ∷ l) is e = torn (is_zeros (b ∷ l)) (reading place (b ∷ l)) is e

-- a log that ends with its records, and one more record or a part of it
module _ {K : Type 0} {cmp : K → K → Ordering} (o : IsTotalOrder cmp) (exact : (x y : K) → cmp x y ≡ Equal → x ≡ y) (log : List ℕ) (s : View K ℕ) (end : ℕ) (h : Keeps cmp log s end tail.Nothing) (r : Entry) (fits : Fits r) where
  pub end-at : end ≡ length log
  end-at = omega (arith, h.within, length-drop end log, ap (λ l. length l) h.told)

  pub all_front : take end log ≡ log
  all_front = take_all end log (omega (arith, end-at))

  indexed-all : Indexes cmp log s
  indexed-all = subst (λ l. Indexes cmp l s) all_front h.indexed

  pub held_written : held_by (log ++ encoded end r) ≡ after_record (held_by log) r
  held_written =
      ap (λ n. held_by (log ++ encoded n r)) end-at ∙ held_more log r (record { spelled = indexed-all.spelled; fit = indexed-all.fit }) fits

  pub written_keeps : IsBytes r.key → (t : View K ℕ) → IsLawful cmp s.content → (b : Bool) → b ≡ is_some r.value → (place : ℕ) (is_held : Bool)
      → IsPlace (entry_at (take end log)) r.key (run_of cmp s r.key) place is_held → Settles cmp s r.key b is_held place end t → (longer : ℕ) → longer ≡ end + size_of r
      → Keeps cmp (log ++ encoded end r) t longer tail.Nothing
  written_keeps bytes t hs b has place is_held at is longer size =
      let more : List ℕ = log ++ encoded end r in
      let all : longer ≡ length more = omega (arith, size, end-at, length-append log (encoded end r), length-encoded end r) in
      let whole : take longer more ≡ more = take_all longer more (omega (arith, all)) in
      let none : drop longer more ≡ [] = nil_from_length (drop longer more) (omega (arith, length-drop longer more, all)) in
      let filed = Indexes-filed o exact log [] (take end log) r fits bytes s t hs indexed-all (all_front ∙ sym (append-nil log)) b has place is_held at end end-at is in
      record {
        within = omega (arith, all);
        indexed = subst (λ l. Indexes cmp l t) (sym whole) filed;
        stops = subst (λ l. Stops (reading longer l)) (sym none) tt;
        told = none;
      }

  module _ (n : ℕ) (less : (n < size_of r) ⊎ (n ≡ 0)) where
    part_behind : drop end (log ++ take n (encoded end r)) ≡ take n (encoded end r)
    part_behind = drop_at log (take n (encoded end r)) end (sym end-at)

    part_in_front : take end (log ++ take n (encoded end r)) ≡ log
    part_in_front = take-append-le end log (take n (encoded end r)) (omega (arith, end-at)) ∙ all_front

    pub begun_keeps : (t : View K ℕ) → KeepsLists s t → Keeps cmp (log ++ take n (encoded end r)) t end tail.Torn
    begun_keeps t same = record {
      within = omega (arith, length-append log (take n (encoded end r)), end-at);
      indexed = subst (λ l. Indexes cmp l t) (sym part_in_front) (indexes_kept cmp log s t indexed-all same);
      stops = subst (λ l. Stops (reading end l)) (sym part_behind) (stopped less);
      told = subst (λ l. ¬ (tail_of end l ≡ tail.Damaged)) (sym part_behind) (undamaged less);
    }
      where
        stopped : (n < size_of r) ⊎ (n ≡ 0) → Stops (reading end (take n (encoded end r)))
        stopped (inl lt) = subst Stops (sym (begun_torn end r n fits lt)) tt
        stopped (inr none) = subst (λ m. Stops (reading end (take m (encoded end r)))) (sym none) tt

        undamaged : (n < size_of r) ⊎ (n ≡ 0) → ¬ (tail_of end (take n (encoded end r)) ≡ tail.Damaged)
        undamaged (inl lt) = begun_undamaged end r n fits lt
        undamaged (inr none) = subst (λ m. ¬ (tail_of end (take m (encoded end r)) ≡ tail.Damaged)) (sym none) (λ e. cc)

    pub held_begun : held_by (log ++ take n (encoded end r)) ≡ held_by log
    held_begun =
        kept_held cmp (log ++ take n (encoded end r)) s end tail.Torn (begun_keeps s (refl, refl)) ∙ ap held_by part_in_front

  -- whatever part of it was written
  pub held_part : (n : ℕ) → (held_by (log ++ take n (encoded end r)) ≡ held_by log) ⊎ (held_by (log ++ take n (encoded end r)) ≡ after_record (held_by log) r)
  held_part n = elim (cases_lt n (size_of r)) [
    | inl lt ↦ inl (held_begun n (inl lt))
    | inr le ↦ inr (ap (λ l. held_by (log ++ l)) (take_all n (encoded end r) (omega (arith, le, length-encoded end r))) ∙ held_written)
  ]

-- a part that is shorter than the record's bytes
pub begun_size : (place : ℕ) (r : Entry) (n : ℕ) → (n < length (encoded place r)) ⊎ (n ≡ 0) → (n < size_of r) ⊎ (n ≡ 0)
begun_size place r n (inl less) = inl (omega (arith, less, length-encoded place r))
begun_size place r n (inr none) = inr none

-- ---- a record that is to stand behind the others: the log before the call, and where room was made

pub same_front : (old mid : List ℕ) → HasRoom old mid → without_tail mid ≡ without_tail old
same_front old mid room = take_all (end_of mid) mid (omega (arith, room.all)) ∙ room.cut

module _ (old mid : List ℕ) (room : HasRoom old mid) (r : Entry) where
  pub refused_early : (hides : List ℕ → List ℕ → Type 0) (f : Fault) → MayRefuse hides old r f → HasRefused hides old r f mid
  refused_early hides f may = record {
    refused = (room.held, inr (0, room.cut ∙ sym (append-nil (without_tail old)), inr refl));
    fault = may;
  }

  module _ {K : Type 0} {cmp : K → K → Ordering} (o : IsTotalOrder cmp) (exact : (x y : K) → cmp x y ≡ Equal → x ≡ y) (s : View K ℕ) (end : ℕ) (t : Tail) (h : Keeps cmp mid s end t) (fits : Fits r) where
    pub all_kept : end ≡ length mid
    all_kept = sym (kept_end cmp mid s end t h) ∙ room.all

    at_old : end ≡ end_of old
    at_old = all_kept ∙ sym room.end

    pub at_end : Keeps cmp mid s end tail.Nothing
    at_end = ends_keep cmp mid s end t h all_kept

    pub begun_refused : (hides : List ℕ → List ℕ → Type 0) (n : ℕ) → (n < length (encoded end r)) ⊎ (n ≡ 0) → (f : Fault) → MayRefuse hides old r f → HasRefused hides old r f (mid ++ take n (encoded end r))
    begun_refused hides n less f may = record {
      refused = (
        held_begun o exact mid s end at_end r fits n (begun_size end r n less) ∙ room.held,
        inr (subst (λ p. IsBegun (encoded p r) (without_tail old) (mid ++ take n (encoded end r))) at_old (n, ap (λ l. l ++ take n (encoded end r)) room.cut, less)),
      );
      fault = may;
    }

    pub held_any : (n : ℕ) → IsBeforeOrAfter old r (mid ++ take n (encoded end r))
    held_any n = elim (held_part o exact mid s end at_end r fits n) [
      | inl same ↦ inl (same ∙ room.held)
      | inr more ↦ inr (more ∙ ap (λ m. after_record m r) room.held)
    ]

    pub written_changed : (had : Bool) → had ≡ is_some (get (held_by old) r.key) → (is_some r.value || had) ≡ true → HasChanged old r had (mid ++ encoded end r)
    written_changed had was some = record {
      held = held_written o exact mid s end at_end r fits ∙ ap (λ m. after_record m r) room.held;
      was_there = was;
      logged = (λ i. room.cut i ++ encoded (at_old i) r) ∙ sym (ap (λ b. cond b (with_record old r) (without_tail old)) some);
      undamaged = room.undamaged;
    }

  -- a key without a value is taken out
  pub nothing_changed : r.value ≡ None → get (held_by mid) r.key ≡ None → HasChanged old r false mid
  nothing_changed deleted absent = record {
    held = room.held ∙ remove_absent (held_by old) r.key none ∙ ap (with_value (held_by old) r.key) (sym deleted);
    was_there = sym (ap is_some none);
    logged = room.cut ∙ sym (ap (λ v. cond (is_some v || false) (with_record old r) (without_tail old)) deleted);
    undamaged = room.undamaged;
  }
    where
      none : get (held_by old) r.key ≡ None
      none = ap (λ m. get m r.key) (sym room.held) ∙ absent

-- ---- why it is refused, by what hides a key

module _ (hides : List ℕ → List ℕ → Type 0) (log : List ℕ) (r : Entry) (f : Fault) where
  pub may_read-refuse : MayRead f → MayRefuse hides log r f
  may_read-refuse (inl is) = subst (MayRefuse hides log r) (sym is) tt
  may_read-refuse (inr is) = subst (MayRefuse hides log r) (sym is) tt

  pub hidden-refuse : MayRead f ⊎ ((f ≡ fault.Damaged) × hides log r.key) → MayRefuse hides log r f
  hidden-refuse (inl may) = may_read-refuse may
  hidden-refuse (inr is) = subst (MayRefuse hides log r) (sym is.0) (inr is.1)

  pub room-refuse : (f ≡ fault.WriteFailed) ⊎ ((f ≡ fault.Damaged) × (tail_in log ≡ tail.Damaged)) → MayRefuse hides log r f
  room-refuse (inl is) = subst (MayRefuse hides log r) (sym is) tt
  room-refuse (inr is) = subst (MayRefuse hides log r) (sym is.0) (inl is.1)

  pub append-refuse : {X : Type 0} → (X → MayRefuse hides log r f) → (f ≡ fault.WriteFailed) ⊎ (f ≡ fault.Memory) ⊎ X → MayRefuse hides log r f
  append-refuse full (inl is) = subst (MayRefuse hides log r) (sym is) tt
  append-refuse full (inr (inl is)) = subst (MayRefuse hides log r) (sym is) tt
  append-refuse full (inr (inr x)) = full x

  pub full-refuse : {K : Type 0} (s : View K ℕ) → items_in s ≡ len (held_by log) → get (held_by log) r.key ≡ None → f ≡ refusal_of (growth_fault_in s) → MayRefuse hides log r f
  full-refuse s counted none is = subst (MayRefuse hides log r) (sym is) (of (items_in s == 2 ^ 64 - 1) refl)
    where
      of : (b : Bool) → (items_in s == 2 ^ 64 - 1) ≡ b → MayRefuse hides log r (refusal_of (if b then index_fault.Full else index_fault.Memory))
      of true e = (none, sym counted ∙ eqb-true _ _ e)
      of false e = tt

-- ---- outcomes

pub adds_weaker : {P Q : List ℕ → Type 0} {before after : Option (List ℕ) → Type 0} → ((l : List ℕ) → P l → Q l) → Adds P before after → Adds Q before after
adds_weaker f adds c left = elim (adds c left) [
  | inl could ↦ inl could
  | inr more ↦ inr (more.0, more.1, f more.0 more.2)
]

-- what is added is known
pub not_added : {A : Type 0} {P : List ℕ → Type 0} → A ⊎ ((bytes : List ℕ) × (None ≡ Some bytes) × P bytes) → A
not_added (inl a) = a
not_added (inr added) = absurd (cc)

pub ok_if : {A E P : Type 0} (r : Result A E) → P → OnOk r P
ok_if (Ok x) p = p
ok_if (Err e) p = tt

pub on_ok_with : {A E P Q R : Type 0} (r : Result A E) → OnOk r P → OnOk r Q → (P → Q → R) → OnOk r R
on_ok_with (Ok x) p q f = f p q
on_ok_with (Err e) p q f = tt

pub or-true : (a : Bool) → (a || true) ≡ true
or-true true = refl
or-true false = refl
