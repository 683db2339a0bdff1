-- On a store: what it holds before and after a call.
--     live_run, is_run           the positions of a key are live, and in the order of their keys
--     place-get, value-get       by the place of a key, whether it has a value, and which one
--     remove_absent              a key without a value is taken out
--     listed-stands              where a position that is listed stands
--     is_at-listed               a position is listed where the record that its key is found by stands there
--     len-after_records          records leave no more keys than there are records
--     refusal-Memory             so an index of the records of fewer bytes than `usize::MAX` is never full
use Rattle.std.proofs.Common.{◌≡◌, ◌==◌, ◌↔◌, ℕ, zero, suc, T, inl, inr, slice_get, ◌+◌, ◌-◌, ◌^◌, ◌<◌, ◌≤◌, if◌then◌else◌, Bool, true, false, cond, List, [], ◌∷◌, length, map, Option, Some, None, is_some, All, refl, sym, ap, subst, ◌∙◌, arith}
use Rattle.std.proofs.lemmas.List.Elements.{All-head, All-tail, All-weaker}
use Rattle.std.proofs.lemmas.Bool.{eq-eqb, eqb-true, false≢true, ne_eqb, or_cases, or_left, or_right}
use Rattle.std.proofs.lemmas.Option.{slice_get-map}
use Rattle.std.specs.Cmp.{both_ways}
use Rattle.std.specs.Cmp.Lexicographic.{nat_list_cmp_total}
use Rattle.std.specs.FinMap.{empty, empty_of_len, find, get, is_sorted, len, len-empty, len-insert, len-remove, remove, get-remove, same_map}
use Rattle.std.specs.List.{fold}
use Rattle.std.specs.Option.{IfSome, option_map, unwrap_or}
use Rattle.std.specs.declared.cmp.Ordering.{Ordering}
use Rattle.key_index_flat.specs.FullKeys.{byte_cmp}
use Rattle.key_index_flat.specs.Neighbours.{entries_below}
use Rattle.key_index_flat.specs.View.{View, growth_fault_in, items_in, run_of}
use Rattle.key_index_flat.specs.declared.index.Fault.TheVariants as index_fault
use Rattle.key_index_flat.proofs.content.ContentLemmas.{Equal-is_eq}
use Rattle.key_index_store.specs.Indexed.{Indexes, IsLive, IsPlace, IsRun, IsUnder, entry_at, is_at, key_at}
use Rattle.key_index_store.specs.Record.{Entry}
use Rattle.key_index_store.specs.Salvage.{is_listed}
use Rattle.key_index_store.specs.Stored.{Values, after_record, held_by, records_of, refusal_of, with_value}
use Rattle.key_index_store.specs.declared.store.Fault.TheVariants as fault
use Rattle.key_index_store.specs.declared.store.find.Front.{Front}
use Rattle.std.proofs.lemmas.Map.Lookups.{exact_bytes}
use Rattle.key_index_flat.proofs.entries.EntryLemmas.{same, some_injective}
use Rattle.key_index_store.proofs.LogLemmas.{count_le}
use Rattle.key_index_store.proofs.SearchLemmas.{at_below, at_held}
use Rattle.key_index_store.proofs.SortedLemmas.{key-place, place_own}

module _ {K : Type 0} (cmp : K → K → Ordering) where
  -- the positions of a key are live
  pub live_run : (log : List ℕ) (s : View K ℕ) (key : List ℕ) → Indexes cmp log s → All (IsLive log) (run_of cmp s key)
  live_run log s key h = All-weaker (IsUnder log s.slot (s.slot key)) (IsLive log) (λ p q. q.0) (run_of cmp s key) (h.live (s.slot key))

  pub is_run : (log : List ℕ) (s : View K ℕ) (key : List ℕ) → Indexes cmp log s → IsRun log (run_of cmp s key)
  is_run log s key h = (live_run log s key h, h.sorted (s.slot key))

  -- by the place of a key, whether it has a value
  pub place-get : (log : List ℕ) (s : View K ℕ) (key : List ℕ) (place : ℕ) (is_held : Bool) → Indexes cmp log s → IsPlace (entry_at log) key (run_of cmp s key) place is_held → is_held ≡ is_some (get (held_by log) key)
  place-get log s key place is_held h at = at_held (entry_at log) key (run_of cmp s key) place is_held at ∙ ap is_some (h.found key)

  -- and which one
  pub value-get : (log : List ℕ) (s : View K ℕ) (key : List ℕ) (place : ℕ) (is_held : Bool) → Indexes cmp log s → IsPlace (entry_at log) key (run_of cmp s key) place is_held → is_held ≡ true
      → (p : ℕ) → slice_get (run_of cmp s key) place ≡ Some p → Some ((entry_at log p).1) ≡ get (held_by log) key
  value-get log s key place is_held h at held p stands =
      let e = entry_at log p in
      let es = map (entry_at log) (run_of cmp s key) in
      let sorted = h.sorted (s.slot key) in
      let there : slice_get es place ≡ Some e = slice_get-map (entry_at log) (run_of cmp s key) place ∙ ap (option_map (entry_at log)) stands in
      let own = place_own nat_list_cmp_total exact_bytes es place e sorted there in
      let is : e.0 ≡ key =
      some_injective e.0 key (sym (ap (option_map (λ (x : List ℕ × List ℕ). x.0)) there) ∙ ap (λ n. option_map (λ (x : List ℕ × List ℕ). x.0) (slice_get es n)) (at_below (entry_at log) key (run_of cmp s key) place is_held at)
      ∙ key-place nat_list_cmp_total exact_bytes es key sorted (sym (at_held (entry_at log) key (run_of cmp s key) place is_held at) ∙ held)) in
      sym own.1 ∙ ap (λ k. find byte_cmp k es) is ∙ h.found key

-- ---- a key that has no value

pub remove_absent : (m : Values) (k : List ℕ) → get m k ≡ None → m ≡ remove m k
remove_absent m k none = same_map nat_list_cmp_total exact_bytes m (remove m k) (λ a.
    elim (same a k) as (λ b. same a k ≡ b → get m a ≡ cond b None (get m a)) [
      | true ↦ λ e. ap (get m) (exact_bytes a k (Equal-is_eq _ e)) ∙ none
      | false ↦ λ e. refl
    ] refl
    ∙ sym (get-remove nat_list_cmp_total m k a))

pub mapped_none : {A B : Type 0} (f : A → B) (o : Option A) → is_some (option_map f o) ≡ false → o ≡ None
mapped_none f None e = refl
mapped_none f (Some x) e = absurd (false≢true (sym e))

pub values_empty-len : (m : Values) (n : ℕ) → n ≡ len m → (n == 0 ≡ true) ↔ (m ≡ empty)
values_empty-len m n is = ((λ t. empty_of_len m (sym is ∙ eqb-true n 0 t)), (λ none. eq-eqb n 0 (is ∙ ap (λ x. len x) none ∙ len-empty byte_cmp (List ℕ))))

-- ---- how many keys there can be

len-less : (b : Bool) (n : ℕ) → cond b (n - 1) n ≤ n + 1
len-less true n = omega arith
len-less false n = omega arith

len-more : (b : Bool) (n : ℕ) → cond b n (n + 1) ≤ n + 1
len-more true n = omega arith
len-more false n = omega arith

len-with_value : (m : Values) (k : List ℕ) (v : Option (List ℕ)) → len (with_value m k v) ≤ len m + 1
len-with_value m k None = let one = len-remove nat_list_cmp_total m k in let less = len-less (is_some (get m k)) (len m) in omega (arith, one, less)
len-with_value m k (Some v) = let one = len-insert nat_list_cmp_total m k v in let more = len-more (is_some (get m k)) (len m) in omega (arith, one, more)

pub len-after_records : (rs : List Entry) (m : Values) → len (fold after_record m rs) ≤ len m + length rs
len-after_records [] m = omega arith
len-after_records (r ∷ rs) m =
    let rest = len-after_records rs (after_record m r) in
    let one = len-with_value m r.key r.value in
    omega (arith, rest, one)

pub refusal-Memory : {K : Type 0} (cmp : K → K → Ordering) (front : List ℕ) (s : View K ℕ) → Indexes cmp front s → length front < 2 ^ 64 - 1 → refusal_of (growth_fault_in s) ≡ fault.Memory
refusal-Memory cmp front s h short =
    let few = len-after_records (records_of front) empty in
    let bytes = count_le 0 (records_of front) in
    let none = len-empty byte_cmp (List ℕ) in
    let same = ap (λ l. length l) h.spelled in
    ap (λ b. refusal_of (if b then index_fault.Full else index_fault.Memory)) (ne_eqb (items_in s) (2 ^ 64 - 1) (λ e. omega (arith, e, h.counted, few, bytes, none, same, short)))

-- ---- an item of a list

pub All-slice_get : (P : ℕ → Type 0) (l : List ℕ) (i p : ℕ) → All P l → slice_get l i ≡ Some p → P p
All-slice_get P [] i p all at = absurd (cc)
All-slice_get P (x ∷ xs) zero p all at = subst P (ap (λ o. unwrap_or o x) at) (All-head P x xs all)
All-slice_get P (x ∷ xs) (suc i) p all at = All-slice_get P xs i p (All-tail P x xs all) at

-- ---- a position is listed where the record that is found by its key stands there

pub listed-stands : (ps : List ℕ) (p : ℕ) → is_listed p ps ≡ true → (i : ℕ) × (slice_get ps i ≡ Some p)
listed-stands [] p t = absurd (false≢true t)
listed-stands (x ∷ ps) p t = elim (or_cases (x == p) (is_listed p ps) t) [
  | inl first ↦ (0, ap (λ q. Some q) (eqb-true x p first))
  | inr rest ↦ (let at = listed-stands ps p rest in (suc at.0, at.1))
]

stands-listed : (ps : List ℕ) (p i : ℕ) → slice_get ps i ≡ Some p → is_listed p ps ≡ true
stands-listed [] p i at = absurd (cc)
stands-listed (x ∷ ps) p zero at = or_left (x == p) (is_listed p ps) (eq-eqb x p (some_injective x p at))
stands-listed (x ∷ ps) p (suc i) at = or_right (x == p) (is_listed p ps) (stands-listed ps p i at)

module _ (log ps : List ℕ) (p : ℕ) (sorted : T (is_sorted byte_cmp (map (entry_at log) ps))) where
  abbrev es : List (List ℕ × List ℕ)
  es = map (entry_at log) ps

  own : (i : ℕ) → slice_get ps i ≡ Some p → (i ≡ length (entries_below byte_cmp es (key_at log p))) × (find byte_cmp (key_at log p) es ≡ Some ((entry_at log p).1))
  own i at = place_own nat_list_cmp_total exact_bytes es i (entry_at log p) sorted (slice_get-map (entry_at log) ps i ∙ ap (option_map (entry_at log)) at)

  found-listed : (place : ℕ) (front : Option Front) → IsPlace (entry_at log) (key_at log p) ps place (is_some front) → IfSome front (λ f. slice_get ps place ≡ Some f.position) → is_at front p ≡ is_listed p ps
  found-listed place None at stands = both_ways false (is_listed p ps) (λ e. absurd (false≢true e)) (λ t.
      let there = listed-stands ps p t in
      absurd (false≢true (at_held (entry_at log) (key_at log p) ps place false at ∙ ap is_some (own there.0 there.1).1)))
  found-listed place (Some f) at stands = both_ways (f.position == p) (is_listed p ps)
      (λ t. stands-listed ps p place (stands ∙ ap (λ q. Some q) (eqb-true f.position p t)))
      (λ t.
      let there = listed-stands ps p t in
      let same : there.0 ≡ place = (own there.0 there.1).0 ∙ sym (at_below (entry_at log) (key_at log p) ps place true at) in
      eq-eqb f.position p (some_injective f.position p (sym stands ∙ ap (slice_get ps) (sym same) ∙ there.1)))

pub is_at-listed : (log ps key : List ℕ) (p : ℕ) → IsRun log ps → key_at log p ≡ key → (place : ℕ) (front : Option Front) → IsPlace (entry_at log) key ps place (is_some front)
    → IfSome front (λ f. slice_get ps place ≡ Some f.position) → is_at front p ≡ is_listed p ps
is_at-listed log ps key p run is place front at stands =
    found-listed log ps p run.1 place front (subst (λ k. IsPlace (entry_at log) k ps place (is_some front)) (sym is) at) stands
