-- On what damaged records hide.
--     hidden_at                      one that hides a key's place
--     hidden_low                     the place of a key is not behind its own, whether that is known or hidden
--     shown, found_shown             it is known where no record is damaged, and where its record was found
--     hidden_hides, own_hides        a key is hidden by the records at its place, or by its own one
--     opened                         why a log can't be opened
--     missed_key, missed_own         why a look-up of a key is refused, by its list, and a read of its record
--     missed_at                      and a read of an entry
--     missed_room                    the same, where room was made for a record
--     beyond_all, beyond_behind      the entries beyond a key, of the positions from its place on;  those above it, of the positions behind its own
--     passed_whole                   what is passed of these positions is passed of the whole map
--     is_beyond                      an entry is beyond the key
--     beyond_none, beyond_append, beyond_first  of no entry, of one list behind another, and of one more entry
--     HasPassed                      what a walk over positions has passed: at first nothing, then one more, up to the first that reads
--     unread                         a read that is refused as damaged tells that the record is
--     runs_before                    where no record is damaged, none was before
use Rattle.std.proofs.Common.{◌≡◌, ◌⊎◌, ℕ, zero, suc, ◌+◌, ◌≤◌, ◌<◌, Bool, true, false, cond, List, [], ◌∷◌, ◌++◌, length, map, take, Option, Some, None, is_some, All, Result, slice_get, inl, inr, refl, sym, ap, subst, ◌∙◌, add-zero, append_assoc, arith}
use Rattle.std.proofs.lemmas.Bool.{false≢true}
use Rattle.std.proofs.lemmas.List.{map-append}
use Rattle.std.proofs.lemmas.List.Elements.{All-head, All-nil, All-push, All-tail, All-weaker, filter-append}
use Rattle.std.proofs.lemmas.Map.Lookups.{exact_bytes}
use Rattle.std.proofs.lemmas.Option.{slice_get-map}
use Rattle.std.proofs.lemmas.Result.{IfOk-weaker}
use Rattle.std.specs.Cmp.Lexicographic.{nat_list_cmp_total}
use Rattle.std.specs.FinMap.{entries, find}
use Rattle.std.specs.Option.{IfSome, IsSome, option_map}
use Rattle.std.specs.Result.{IfOk}
use Rattle.std.specs.Ordering.{is_le, is_lt}
use Rattle.std.specs.declared.cmp.Ordering.{Ordering}
use Rattle.key_index_flat.specs.FullKeys.{IsBytes, byte_cmp}
use Rattle.key_index_flat.specs.Neighbours.{entries_below, first_entry}
use Rattle.key_index_flat.specs.View.{View, run_of}
use Rattle.key_index_flat.proofs.entries.EntryLemmas.{some_injective}
use Rattle.key_index_store.specs.Damage.{Hides, HidesIn, MayMiss, MayMissAt, Passes, beyond}
use Rattle.key_index_store.specs.Device.{IsUndamaged, KeepsDamage}
use Rattle.key_index_store.specs.Indexed.{HasRuns, Indexes, IsHiddenIn, IsLatest, IsLive, IsPlace, Keeps, entry_at, key_at}
use Rattle.key_index_store.specs.Positions.{positions_from}
use Rattle.key_index_store.specs.Salvage.{is_listed}
use Rattle.key_index_store.specs.Stored.{HasRoom, MayOpen, MayRead, held_by, without_tail}
use Rattle.key_index_store.specs.declared.store.Fault.{Fault}
use Rattle.key_index_store.specs.declared.store.Fault.TheVariants as fault
use Rattle.key_index_store.specs.declared.store.Tail.{Tail}
use Rattle.key_index_store.specs.declared.store.neighbours.Passed.{Passed}
use Rattle.key_index_store.specs.declared.store.neighbours.Unreadable.{Unreadable}
use Rattle.key_index_store.proofs.KeepLemmas.{kept_front, same_front}
use Rattle.key_index_store.proofs.NearestLemmas.{IsTold, KeepsOrdered, Pair, above_all, above_behind, from_all}
use Rattle.key_index_store.proofs.NewestLemmas.{latest_listed}
use Rattle.key_index_store.proofs.SearchLemmas.{at_below, at_most-held, low_below}
use Rattle.key_index_store.proofs.SortedLemmas.{place_own}
use Rattle.key_index_store.proofs.StoreLemmas.{All-slice_get, listed-stands}

item_at : (l : List ℕ) (n : ℕ) → n < length l → (p : ℕ) × (slice_get l n ≡ Some p)
item_at [] n less = absurd (omega (arith, less))
item_at (x ∷ xs) zero less = (x, refl)
item_at (x ∷ xs) (suc n) less = item_at xs n (omega (arith, less))

-- ---- the place of a key in a list

module _ (damaged : ℕ → Type 0) (entry : ℕ → Pair) (key ps : List ℕ) (place : ℕ) where
  pub hidden_at : IsHiddenIn damaged entry key ps place → (p : ℕ) × (slice_get ps place ≡ Some p) × damaged p
  hidden_at hides =
      let at = item_at ps place (omega (arith, hides.some, hides.within)) in
      (at.0, at.1, hides.unread place at.0 (omega arith) hides.some at.1)

  pub hidden_low : (is_held is_hidden : Bool) → (is_hidden ≡ false → IsPlace entry key ps place is_held) → (is_hidden ≡ true → IsHiddenIn damaged entry key ps place)
      → place ≤ length (entries_below byte_cmp (map entry ps) key)
  hidden_low is_held true at hides = low_below entry key ps place (hides refl).low
  hidden_low is_held false at hides = omega (arith, at_below entry key ps place is_held (at refl))

  -- where no record is damaged
  pub shown : (is_hidden : Bool) → IsUndamaged damaged → (is_hidden ≡ true → IsHiddenIn damaged entry key ps place) → is_hidden ≡ false
  shown true undamaged hides = (let one = hidden_at (hides refl) in absurd (undamaged one.0 one.2))
  shown false undamaged hides = refl

-- where the key's record was found
pub found_shown : (is_held is_hidden : Bool) → (is_hidden ≡ true → is_held ≡ false) → is_held ≡ true → is_hidden ≡ false
found_shown is_held true none held = absurd (false≢true (sym (none refl) ∙ held))
found_shown is_held false none held = refl

-- ---- what hides a key of an index

module _ {K : Type 0} (cmp : K → K → Ordering) (damaged : ℕ → Type 0) (log : List ℕ) (s : View K ℕ) (h : Indexes cmp log s) (key : List ℕ) where
  abbrev ps : List ℕ
  ps = run_of cmp s key

  abbrev es : List Pair
  es = map (entry_at log) ps

  -- where the newest record of the key stands in its list
  stands : (p : ℕ) → IsLatest log p → key_at log p ≡ key → (i : ℕ) × (slice_get ps i ≡ Some p) × (i ≡ length (entries_below byte_cmp es key)) × (is_some (find byte_cmp key es) ≡ true)
  stands p latest own =
      let listed : is_listed p ps ≡ true = subst (λ k. is_listed p (run_of cmp s k) ≡ true) (sym latest.key ∙ own) (latest_listed cmp log s h p latest) in
      let at = listed-stands ps p listed in
      let there : slice_get es at.0 ≡ Some (entry_at log p) = slice_get-map (entry_at log) ps at.0 ∙ ap (option_map (entry_at log)) at.1 in
      let is = place_own nat_list_cmp_total exact_bytes es at.0 (entry_at log p) (h.sorted (s.slot key)) there in
      (at.0, at.1, is.0 ∙ ap (λ k. length (entries_below byte_cmp es k)) own, ap (λ k. is_some (find byte_cmp k es)) (sym own) ∙ ap is_some is.1)

  pub hidden_hides : (place : ℕ) → IsHiddenIn damaged (entry_at log) key ps place → HidesIn damaged log key
  hidden_hides place hides =
      let one = hidden_at damaged (entry_at log) key ps place hides in
      record {
        own = λ p latest own.
            let at = stands p latest own in
            let low = low_below (entry_at log) key ps place hides.low in
            let counted = at_most-held (entry_at log) key ps at.3 in
            hides.unread at.0 p (omega (arith, low, at.2)) (omega (arith, hides.high, at.2, counted)) at.1;
        some = one.0;
        latest = All-slice_get (IsLatest log) ps place one.0 (h.latest (s.slot key)) one.1;
        unread = one.2;
      }

  pub own_hides : (place p : ℕ) → place ≡ length (entries_below byte_cmp es key) → slice_get ps place ≡ Some p → damaged p → HidesIn damaged log key
  own_hides place p at stood unread = record {
    own = λ q latest own.
        let there = stands q latest own in
        subst damaged (some_injective p q (sym stood ∙ ap (slice_get ps) (at ∙ sym there.2) ∙ there.1)) unread;
    some = p;
    latest = All-slice_get (IsLatest log) ps place p (h.latest (s.slot key)) stood;
    unread = unread;
  }

-- ---- why a call of a store is refused

abbrev pub IsMissedAt : (ℕ → Type 0) → Option ℕ → Fault → Type 0
IsMissedAt damaged r f = MayRead f ⊎ ((f ≡ fault.Damaged) × IsSome r × IfSome r damaged)

-- of a look-up
abbrev pub IsMissed : {K : Type 0} → (K → K → Ordering) → (ℕ → Type 0) → List ℕ → View K ℕ → List ℕ → Fault → Type 0
IsMissed cmp damaged log s key f = MayRead f ⊎ ((f ≡ fault.Damaged) × ((place : ℕ) × IsHiddenIn damaged (entry_at log) key (run_of cmp s key) place))

pub opened : (damaged : ℕ → Type 0) (entry : ℕ → Pair) (key ps : List ℕ) (f : Fault) → MayRead f ⊎ ((f ≡ fault.Damaged) × ((place : ℕ) × IsHiddenIn damaged entry key ps place)) → MayOpen damaged f
opened damaged entry key ps f (inl may) = inl may
opened damaged entry key ps f (inr is) = (let one = hidden_at damaged entry key ps is.1.0 is.1.1 in inr (is.0, (one.0, one.2)))

module _ {K : Type 0} (cmp : K → K → Ordering) (damaged : ℕ → Type 0) (whole : List ℕ) (s : View K ℕ) (end : ℕ) (t : Tail) (kept : Keeps cmp whole s end t) where
  abbrev log : List ℕ
  log = take end whole

  to_whole : (key : List ℕ) → HidesIn damaged log key → Hides damaged whole key
  to_whole key hides = subst (λ l. HidesIn damaged l key) (sym (kept_front cmp whole s end t kept)) hides

  pub missed_key : (key : List ℕ) (f : Fault) → IsMissed cmp damaged log s key f → MayMiss damaged whole key f
  missed_key key f (inl may) = inl may
  missed_key key f (inr is) = inr (is.0, to_whole key (hidden_hides cmp damaged log s kept.indexed key is.1.0 is.1.1))

  -- of a read of the record that was found
  pub missed_own : (key : List ℕ) (f : Fault) (place p : ℕ) (is_held : Bool) → IsPlace (entry_at log) key (run_of cmp s key) place is_held → slice_get (run_of cmp s key) place ≡ Some p
      → MayRead f ⊎ ((f ≡ fault.Damaged) × damaged p) → MayMiss damaged whole key f
  missed_own key f place p is_held at stood (inl may) = inl may
  missed_own key f place p is_held at stood (inr is) = inr (is.0, to_whole key (own_hides cmp damaged log s kept.indexed key place p (at_below (entry_at log) key (run_of cmp s key) place is_held at) stood is.1))

  -- of a read of the entry at a position
  pub missed_at : (r : Option ℕ) (answer : Option Pair) (f : Fault) → IsTold log r answer → IsMissedAt damaged r f → MayMissAt damaged whole answer f
  missed_at r answer f told (inl may) = inl may
  missed_at None answer f told (inr is) = absurd (cc)
  missed_at (Some p) answer f told (inr is) =
      inr (is.0, (p, is.2, sym told.1 ∙ ap (λ l. Some (entry_at l p)) (sym (kept_front cmp whole s end t kept))))

-- where room was made for a record
pub missed_room : (damaged : ℕ → Type 0) (old mid key : List ℕ) (f : Fault) → HasRoom old mid → MayMiss damaged mid key f → MayMiss damaged old key f
missed_room damaged old mid key f room (inl may) = inl may
missed_room damaged old mid key f room (inr is) = inr (is.0, subst (λ l. HidesIn damaged l key) (same_front old mid room) is.1)

-- ---- the entries beyond a key

module _ {K : Type 0} {cmp : K → K → Ordering} {whole : List ℕ} {s : View K ℕ} {end : ℕ} {t : Tail} (ordered : KeepsOrdered cmp whole s end t) where
  pub beyond_all : (key : List ℕ) → IsBytes key → (place : ℕ) → place ≤ length (entries_below byte_cmp (map (entry_at (take end whole)) (run_of cmp s key)) key) → (is_above : Bool)
      → beyond is_above key (map (entry_at (take end whole)) (positions_from cmp s (s.slot key) place)) ≡ beyond is_above key (entries (held_by whole))
  beyond_all key bytes place low true = above_all ordered key bytes place low
  beyond_all key bytes place low false = from_all ordered key bytes place low

  -- the place behind its own is that of the next key, and where damage hides which key is there, the place itself
  pub beyond_behind : {damaged : ℕ → Type 0} (key : List ℕ) → IsBytes key → (place : ℕ) (is_held is_hidden : Bool) → (is_hidden ≡ true → is_held ≡ false)
      → (is_hidden ≡ false → IsPlace (entry_at (take end whole)) key (run_of cmp s key) place is_held) → (is_hidden ≡ true → IsHiddenIn damaged (entry_at (take end whole)) key (run_of cmp s key) place)
      → beyond true key (map (entry_at (take end whole)) (positions_from cmp s (s.slot key) (place + cond is_held 1 0))) ≡ beyond true key (entries (held_by whole))
  beyond_behind key bytes place is_held false none at hides = above_behind ordered key bytes place is_held (at refl)
  beyond_behind key bytes place is_held true none at hides =
      ap (λ n. beyond true key (map (entry_at (take end whole)) (positions_from cmp s (s.slot key) n))) (ap (λ b. place + cond b 1 0) (none refl) ∙ add-zero place)
      ∙ beyond_all key bytes place (low_below (entry_at (take end whole)) key (run_of cmp s key) place (hides refl).low) true

  -- what a walk over these positions has passed
  pub passed_whole : {E : Type 0} (r : Result Passed E) (is_above : Bool) (key : List ℕ) (k : K) (place : ℕ) → k ≡ s.slot key
      → beyond is_above key (map (entry_at (take end whole)) (positions_from cmp s (s.slot key) place)) ≡ beyond is_above key (entries (held_by whole))
      → IfOk r (Passes (entry_at (take end whole)) is_above key (map (entry_at (take end whole)) (positions_from cmp s k place)))
      → IfOk r (Passes (entry_at (without_tail whole)) is_above key (entries (held_by whole)))
  passed_whole r is_above key k place slot all passed =
      subst (λ l. IfOk r (Passes (entry_at l) is_above key (entries (held_by whole)))) (sym (kept_front cmp whole s end t ordered.kept))
      (IfOk-weaker r _ _ (λ p h. (h.0, sym (ap (λ k. beyond is_above key (map (entry_at (take end whole)) (positions_from cmp s k place))) slot ∙ all) ∙ h.1, h.2)) passed)

-- an entry is beyond the key
abbrev pub is_beyond : Bool → List ℕ → Pair → Bool
is_beyond is_above key e = cond is_above (is_lt (byte_cmp key e.0)) (is_le (byte_cmp key e.0))

beyond_none : (is_above : Bool) (key : List ℕ) → beyond is_above key [] ≡ []
beyond_none true key = refl
beyond_none false key = refl

beyond_append : (is_above : Bool) (key : List ℕ) (es fs : List Pair) → beyond is_above key (es ++ fs) ≡ beyond is_above key es ++ beyond is_above key fs
beyond_append true key es fs = filter-append (λ e. is_lt (byte_cmp key e.0)) es fs
beyond_append false key es fs = filter-append (λ e. is_le (byte_cmp key e.0)) es fs

beyond_first : (is_above : Bool) (key : List ℕ) (e : Pair) (es : List Pair) (b : Bool) → is_beyond is_above key e ≡ b → beyond is_above key (e ∷ es) ≡ cond b (e ∷ beyond is_above key es) (beyond is_above key es)
beyond_first true key e es b is = ap (λ c. cond c (e ∷ beyond true key es) (beyond true key es)) is
beyond_first false key e es b is = ap (λ c. cond c (e ∷ beyond false key es) (beyond false key es)) is

-- ---- a walk over positions

-- the entries of the records that were passed
abbrev pub entries_of : List ℕ → List Unreadable → List Pair
entries_of log passed = map (λ (u : Unreadable). entry_at log u.place) passed

-- the entries beyond a key are those of the records that were passed, and those of the positions that are left
pub record HasPassed (damaged : ℕ → Type 0) (log : List ℕ) (is_above : Bool) (key all left : List ℕ) (passed : List Unreadable) : Type 0 where
  pub live : All (IsLive log) left
  pub split : beyond is_above key (map (entry_at log) all) ≡ beyond is_above key (entries_of log passed) ++ beyond is_above key (map (entry_at log) left)
  pub unread : All (λ (u : Unreadable). damaged u.place) passed

-- what is given then
abbrev pub IsPassed : List ℕ → Bool → List ℕ → List Pair → Option Pair → List Unreadable → Type 0
IsPassed log is_above key es o passed = (rest : List Pair) × (beyond is_above key es ≡ beyond is_above key (entries_of log passed) ++ rest) × (o ≡ first_entry rest)

module _ {damaged : ℕ → Type 0} {log : List ℕ} {is_above : Bool} {key all : List ℕ} where
  pub passed_none : All (IsLive log) all → HasPassed damaged log is_above key all all []
  passed_none live = record {
    live = live;
    split = ap (λ l. l ++ beyond is_above key (map (entry_at log) all)) (sym (beyond_none is_above key));
    unread = All-nil (λ (u : Unreadable). damaged u.place);
  }

  pub passed_later : {later : ℕ → Type 0} {left : List ℕ} {passed : List Unreadable} → KeepsDamage damaged later → HasPassed damaged log is_above key all left passed → HasPassed later log is_above key all left passed
  passed_later {later} {left} {passed} keeps h = record {
    live = h.live;
    split = h.split;
    unread = All-weaker (λ (u : Unreadable). damaged u.place) (λ (u : Unreadable). later u.place) (λ u. keeps u.place) passed h.unread;
  }

  module _ {p : ℕ} {left : List ℕ} {passed : List Unreadable} (h : HasPassed damaged log is_above key all (p ∷ left) passed) where
    abbrev before : List Pair
    before = beyond is_above key (entries_of log passed)

    abbrev rest : List Pair
    rest = beyond is_above key (map (entry_at log) left)

    split_as : (b : Bool) → is_beyond is_above key (entry_at log p) ≡ b → beyond is_above key (map (entry_at log) all) ≡ before ++ cond b (entry_at log p ∷ rest) rest
    split_as b is = h.split ∙ ap (λ l. before ++ l) (beyond_first is_above key (entry_at log p) (map (entry_at log) left) b is)

    live_rest : All (IsLive log) left
    live_rest = All-tail (IsLive log) p left h.live

    pub passed_live : IsLive log p
    passed_live = All-head (IsLive log) p left h.live

    -- one that isn't beyond the key
    pub passed_other : is_beyond is_above key (entry_at log p) ≡ false → HasPassed damaged log is_above key all left passed
    passed_other is = record {
      live = live_rest;
      split = split_as false is;
      unread = h.unread;
    }

    -- one that is damaged
    pub passed_more : (n : ℕ) → damaged p → HasPassed damaged log is_above key all left (passed ++ record { place = p; length = n } ∷ [])
    passed_more n unread = record {
      live = live_rest;
      split = h.split
          ∙ ap (λ l. before ++ l) (beyond_append is_above key (entry_at log p ∷ []) (map (entry_at log) left))
          ∙ sym (append_assoc before (beyond is_above key (entry_at log p ∷ [])) rest)
          ∙ ap (λ l. l ++ rest) (sym (ap (beyond is_above key) (map-append (λ (u : Unreadable). entry_at log u.place) passed (one ∷ []))
          ∙ beyond_append is_above key (entries_of log passed) (entry_at log p ∷ [])));
      unread = All-push (λ (u : Unreadable). damaged u.place) passed one h.unread unread;
    }
      where
        one : Unreadable
        one = record { place = p; length = n }

    -- the first one that is beyond it
    pub passed_found : (o : Option Pair) → is_beyond is_above key (entry_at log p) ≡ true → o ≡ Some (entry_at log p) → IsPassed log is_above key (map (entry_at log) all) o passed
    passed_found o is told = (entry_at log p ∷ rest, split_as true is, told)

  -- none is left
  pub passed_all : {left : List ℕ} {passed : List Unreadable} → HasPassed damaged log is_above key all left passed → left ≡ [] → IsPassed log is_above key (map (entry_at log) all) None passed
  passed_all {left} {passed} h none =
      ([], h.split ∙ ap (λ l. beyond is_above key (entries_of log passed) ++ l) (ap (λ l. beyond is_above key (map (entry_at log) l)) none ∙ beyond_none is_above key), refl)

-- that a read of a record is refused as damaged tells that it is
pub unread : {P Q : Type 0} (f : Fault) → f ≡ fault.Damaged → MayRead f ⊎ ((f ≡ fault.Damaged) × P × Q) → Q
unread f is (inl (inl e)) = absurd (cc)
unread f is (inl (inr e)) = absurd (cc)
unread f is (inr damaged) = damaged.2

-- ---- lists without damage

pub runs_before : {K : Type 0} (cmp : K → K → Ordering) (s : View K ℕ) (before after : ℕ → Type 0) (is_all : Bool) (bytes : List ℕ) → KeepsDamage before after
    → HasRuns cmp s after is_all bytes → HasRuns cmp s before is_all bytes
runs_before cmp s before after is_all bytes keeps runs = λ some. ((λ place unread. (runs some).0 place (keeps place unread)), (runs some).1)
