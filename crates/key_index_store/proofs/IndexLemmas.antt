-- On an index of positions in a log, before and after the newest record of a key was appended and its position filed.
--     Indexes-Settles, Indexes-filed       the index of the longer log
--     Settles-insert, KeepsLists-undone    a position that was put in is taken out again
--     indexes_none, indexes_kept           an empty index, and one with the same lists
use Rattle.std.proofs.Common.{◌≡◌, ℕ, ◌+◌, ◌-◌, ◌<◌, ◌≤◌, Bool, true, false, cond, not, T, List, [], ◌++◌, length, map, Option, Some, None, is_some, slice_get, slice_set, All, refl, sym, ap, subst, ◌∙◌, arith}
use Rattle.std.proofs.lemmas.Bool.{false≢true}
use Rattle.std.proofs.lemmas.List.{length-map}
use Rattle.std.proofs.lemmas.List.Elements.{All-weaker, All-set, All-nil}
use Rattle.std.proofs.lemmas.Map.Lookups.{exact_bytes}
use Rattle.std.specs.Cmp.{IsTotalOrder, eq_by_cmp_equiv, tied_itself}
use Rattle.std.specs.Cmp.Lexicographic.{nat_list_cmp_total}
use Rattle.std.specs.FinMap.{find, get, is_sorted, len, len-empty, get-empty, empty, get-insert, get-remove, len-insert, len-remove, put}
use Rattle.std.specs.FinMap.Entries.{find-put, find-where_key, is_sorted-put, is_sorted-where_key, length-put, length_without}
use Rattle.std.specs.Option.{option_map}
use Rattle.std.specs.Ordering.{eq_by_cmp, is_eq}
use Rattle.std.specs.Prelude.{insert, remove}
use Rattle.std.specs.declared.cmp.Ordering.{Ordering}
use Rattle.std.specs.declared.cmp.Ordering.TheVariants.{Equal}
use Rattle.key_index_flat.specs.Content.{Content, item_count, list_at, with_list, IsLawful}
use Rattle.key_index_flat.specs.FullKeys.{IsBytes, byte_cmp}
use Rattle.key_index_flat.specs.Neighbours.{entries_below}
use Rattle.key_index_flat.specs.View.{View, run_at, run_of, with_edit, with_pruned}
use Rattle.key_index_flat.proofs.content.ContentLemmas.{item_count-with_list, list_at-with_list, Equal-is_eq, with_list-same, with_list-twice}
use Rattle.key_index_flat.proofs.content.ChainLemmas.{None-is_some}
use Rattle.key_index_flat.proofs.runs.ViewLemmas.{content-same_view, same_slot}
use Rattle.key_index_flat.proofs.entries.EntryLemmas.{none_apart, out_all, same}
use Rattle.key_index_store.specs.Indexed.{Indexes, IsLatest, IsLive, IsPlace, IsUnder, KeepsLists, Settles, entry_at, key_at, parts_of, value_in}
use Rattle.key_index_store.specs.Record.{Entry, Fits, Complete, bytes_of, encoded}
use Rattle.key_index_store.specs.Stored.{Values, held_by, with_value}
use Rattle.key_index_store.proofs.LatestLemmas.{All-both, apart_all, apart_out, apart_set, latest_last, latest_more}
use Rattle.key_index_store.proofs.LogLemmas.{Spelled, entries_there, entry_there, held_more, live_more, nothing_held, read_last, spelled_more, spelled_none}
use Rattle.key_index_store.proofs.SearchLemmas.{at_below, at_held, place_by}
use Rattle.key_index_store.proofs.SortedLemmas.{All-insert, insert-put, key-place, length-insert, map-insert, map-remove, map-slice_set, remove-insert, remove-without, set-put, without}

pub some_mapped : {A B : Type 0} (f : A → B) (o : Option A) → is_some o ≡ is_some (option_map f o)
some_mapped f None = refl
some_mapped f (Some x) = refl

-- the place of a key, by another view of the list's entries
pub place_along : (e f : ℕ → List ℕ × List ℕ) (key l : List ℕ) (place : ℕ) (is_held : Bool) → map e l ≡ map f l → IsPlace e key l place is_held → IsPlace f key l place is_held
place_along e f key l place is_held is at =
    place_by f key l place is_held (at_below e key l place is_held at ∙ ap (λ es. length (entries_below byte_cmp es key)) is)
    (at_held e key l place is_held at ∙ ap (λ es. is_some (find byte_cmp key es)) is)

-- ---- maps

pub get_with : (m : Values) (k : List ℕ) (o : Option (List ℕ)) (a : List ℕ) → get (with_value m k o) a ≡ cond (same a k) o (get m a)
get_with m k None a = get-remove nat_list_cmp_total m k a
get_with m k (Some v) a = get-insert nat_list_cmp_total m k v a

-- ---- one record more

module _ {K : Type 0} {cmp : K → K → Ordering} (o : IsTotalOrder cmp) (exact : (x y : K) → cmp x y ≡ Equal → x ≡ y) where
  module _ (log : List ℕ) (r : Entry) (fits : Fits r) (bytes : IsBytes r.key) (s t : View K ℕ) (hs : IsLawful cmp s.content) (h : Indexes cmp log s) where
    abbrev longer : List ℕ
    longer = log ++ encoded (length log) r

    abbrev slot : K
    slot = s.slot r.key

    abbrev run : List ℕ
    run = run_at cmp s slot

    abbrev Under : K → ℕ → Type 0
    Under k p = IsUnder longer s.slot k p

    Spelled-log : Spelled log
    Spelled-log = record { spelled = h.spelled; fit = h.fit }

    live_in : (k : K) → All (IsLive log) (run_at cmp s k)
    live_in k = All-weaker (IsUnder log s.slot k) (IsLive log) (λ p q. q.0) (run_at cmp s k) (h.live k)

    map-entry_at_longer : (k : K) → map (entry_at longer) (run_at cmp s k) ≡ map (entry_at log) (run_at cmp s k)
    map-entry_at_longer k = entries_there log (encoded (length log) r) (run_at cmp s k) (live_in k)

    All-Under : (k : K) → All (Under k) (run_at cmp s k)
    All-Under k = All-weaker (IsUnder log s.slot k) (Under k)
        (λ p q. (
          live_more log (encoded (length log) r) p q.0,
          subst (λ (e : List ℕ × List ℕ). IsBytes e.0) (sym (entry_there log (encoded (length log) r) p q.0)) q.1,
          ap (λ (e : List ℕ × List ℕ). s.slot e.0) (entry_there log (encoded (length log) r) p q.0) ∙ q.2,
        )) (run_at cmp s k) (h.live k)

    sorted_in : (k : K) → T (is_sorted byte_cmp (map (entry_at longer) (run_at cmp s k)))
    sorted_in k = subst (λ es. T (is_sorted byte_cmp es)) (sym (map-entry_at_longer k)) (h.sorted k)

    -- a record of another key stands behind them
    latest_in : (k : K) → All (λ p. same (key_at longer p) r.key ≡ false → IsLatest longer p) (run_at cmp s k)
    latest_in k = All-weaker (λ p. IsUnder log s.slot k p × IsLatest log p) (λ p. same (key_at longer p) r.key ≡ false → IsLatest longer p)
        (λ p q other. latest_more log r Spelled-log fits p q.0.0
        (ap (λ (e : List ℕ × List ℕ). same e.0 r.key) (sym (entry_there log (encoded (length log) r) p q.0.0)) ∙ other) q.1)
        (run_at cmp s k) (All-both (IsUnder log s.slot k) (IsLatest log) (run_at cmp s k) (h.live k) (h.latest k))

    latest_other : (k : K) → eq_by_cmp cmp k slot ≡ false → All (IsLatest longer) (run_at cmp s k)
    latest_other k other = All-weaker (λ p. (same (key_at longer p) r.key ≡ false → IsLatest longer p) × Under k p) (IsLatest longer)
        (λ p q. q.0 (apart p q.1))
        (run_at cmp s k) (All-both (λ p. same (key_at longer p) r.key ≡ false → IsLatest longer p) (Under k) (run_at cmp s k) (latest_in k) (All-Under k))
      where
        apart : (p : ℕ) → Under k p → same (key_at longer p) r.key ≡ false
        apart p under =
            elim (same (key_at longer p) r.key) as (λ b. same (key_at longer p) r.key ≡ b → b ≡ false) [
              | true ↦ λ e. absurd (false≢true (sym other
                  ∙ ap (λ q. eq_by_cmp cmp q slot) (sym under.2 ∙ ap s.slot (exact_bytes (key_at longer p) r.key (Equal-is_eq _ e))) ∙ ap is_eq (tied_itself o slot)))
              | false ↦ λ e. refl
            ] refl

    found_in : (a : List ℕ) → value_in longer a (run_of cmp s a) ≡ get (held_by log) a
    found_in a = ap (find byte_cmp a) (map-entry_at_longer (s.slot a)) ∙ h.found a

    held_by-longer : held_by longer ≡ with_value (held_by log) r.key r.value
    held_by-longer = held_more log r Spelled-log fits

    -- another list at the index key
    module _ (l : List ℕ) (content : t.content ≡ with_list cmp s.content slot l) (slots : t.slot ≡ s.slot) (live : All (Under slot) l) (latest : All (IsLatest longer) l) (sorted : T (is_sorted byte_cmp (map (entry_at longer) l)))
        (one : (a : List ℕ) → value_in longer a l ≡ cond (same a r.key) r.value (value_in longer a run)) (counted : item_count t.content ≡ len (with_value (held_by log) r.key r.value)) where
      run_at-edited : (k : K) → run_at cmp t k ≡ cond (eq_by_cmp cmp k slot) l (run_at cmp s k)
      run_at-edited k = ap (λ c. list_at cmp c k) content ∙ list_at-with_list o s.content slot l k

      live_after : (k : K) → All (IsUnder longer t.slot k) (run_at cmp t k)
      live_after k = subst (λ f. All (IsUnder longer f k) (run_at cmp t k)) (sym slots) (subst (All (Under k)) (sym (run_at-edited k))
          (elim (eq_by_cmp cmp k slot) as (λ b. eq_by_cmp cmp k slot ≡ b → All (Under k) (cond b l (run_at cmp s k))) [
            | true ↦ λ e. subst (λ q. All (Under q) l) (sym (exact k slot (Equal-is_eq _ e))) live
            | false ↦ λ e. All-Under k
          ] refl))

      latest_after : (k : K) → All (IsLatest longer) (run_at cmp t k)
      latest_after k = subst (All (IsLatest longer)) (sym (run_at-edited k))
          (elim (eq_by_cmp cmp k slot) as (λ b. eq_by_cmp cmp k slot ≡ b → All (IsLatest longer) (cond b l (run_at cmp s k))) [
            | true ↦ λ e. latest
            | false ↦ λ e. latest_other k e
          ] refl)

      sorted_after : (k : K) → T (is_sorted byte_cmp (map (entry_at longer) (run_at cmp t k)))
      sorted_after k = subst (λ m. T (is_sorted byte_cmp (map (entry_at longer) m))) (sym (run_at-edited k))
          (elim (eq_by_cmp cmp k slot) as (λ b. T (is_sorted byte_cmp (map (entry_at longer) (cond b l (run_at cmp s k))))) [
            | true ↦ sorted
            | false ↦ sorted_in k
          ])

      same-other_slot : (a : List ℕ) → eq_by_cmp cmp (s.slot a) slot ≡ false → same a r.key ≡ false
      same-other_slot a e =
          elim (same a r.key) as (λ b. same a r.key ≡ b → b ≡ false) [
            | true ↦ λ q. absurd (false≢true (sym e ∙ ap (λ k. eq_by_cmp cmp (s.slot a) (s.slot k)) (sym (exact_bytes a r.key (Equal-is_eq _ q))) ∙ ap is_eq (tied_itself o (s.slot a))))
            | false ↦ λ q. refl
          ] refl

      found_after : (a : List ℕ) → value_in longer a (run_of cmp t a) ≡ get (held_by longer) a
      found_after a =
          ap (λ f. value_in longer a (run_at cmp t (f a))) slots ∙ ap (value_in longer a) (run_at-edited (s.slot a))
          ∙ elim (eq_by_cmp cmp (s.slot a) slot) as (λ b. eq_by_cmp cmp (s.slot a) slot ≡ b → value_in longer a (cond b l (run_of cmp s a)) ≡ cond (same a r.key) r.value (value_in longer a (run_of cmp s a))) [
            | true ↦ λ e. one a ∙ ap (λ k. cond (same a r.key) r.value (value_in longer a (run_at cmp s k))) (sym (exact (s.slot a) slot (Equal-is_eq _ e)))
            | false ↦ λ e. ap (λ b. cond b r.value (value_in longer a (run_of cmp s a))) (sym (same-other_slot a e))
          ] refl
          ∙ ap (cond (same a r.key) r.value) (found_in a)
          ∙ sym (ap (λ m. get m a) held_by-longer ∙ get_with (held_by log) r.key r.value a)

      Indexes-longer : Indexes cmp longer t
      Indexes-longer = record {
        spelled = (spelled_more log r Spelled-log fits).spelled;
        fit = (spelled_more log r Spelled-log fits).fit;
        live = live_after;
        sorted = sorted_after;
        latest = latest_after;
        found = found_after;
        counted = counted ∙ ap (λ m. len m) (sym held_by-longer);
      }

    -- ---- the new position

    abbrev last : ℕ
    last = length log

    entry_at-last : entry_at longer last ≡ (r.key, bytes_of r.value)
    entry_at-last = ap parts_of (read_last log r Spelled-log fits)

    some_bytes : (x : Option (List ℕ)) → true ≡ is_some x → x ≡ Some (bytes_of x)
    some_bytes None e = absurd (false≢true (sym e))
    some_bytes (Some v) e = refl

    -- the entries of the list
    abbrev es : List (List ℕ × List ℕ)
    es = map (entry_at longer) run

    length-es : length es ≡ length run
    length-es = length-map run (entry_at longer)

    -- where no position has the key, and where one has it
    latest_all : is_some (value_in longer r.key run) ≡ false → All (IsLatest longer) run
    latest_all absent =
        apart_all (IsLatest longer) (entry_at longer) r.key run (none_apart (entry_at longer) r.key run (None-is_some (value_in longer r.key run) absent)) (latest_in slot)

    key_there : (place : ℕ) → IsPlace (entry_at longer) r.key run place true → option_map (λ (e : List ℕ × List ℕ). e.0) (slice_get es place) ≡ Some r.key
    key_there place at =
        ap (λ i. option_map (λ (e : List ℕ × List ℕ). e.0) (slice_get es i)) (at_below (entry_at longer) r.key run place true at) ∙ key-place nat_list_cmp_total exact_bytes es r.key (sorted_in slot) (sym (at_held (entry_at longer) r.key run place true at))

    held_key : is_some (value_in longer r.key run) ≡ is_some (get (held_by log) r.key)
    held_key = ap is_some (found_in r.key)

    module _ (has : true ≡ is_some r.value) where
      last_live : IsLive longer last
      last_live =
          read_last log r Spelled-log fits ∙ (λ i. Complete (record { key = r.key; value = some_bytes r.value has i }))
          ∙ (λ i. Complete (record { key = (sym entry_at-last i).0; value = Some ((sym entry_at-last i).1) }))

      last_under : Under slot last
      last_under =
          (last_live, subst (λ (e : List ℕ × List ℕ). IsBytes e.0) (sym entry_at-last) bytes, ap (λ (e : List ℕ × List ℕ). s.slot e.0) entry_at-last)

      last_latest : IsLatest longer last
      last_latest = latest_last log r Spelled-log fits (sym has) (ap (λ (e : List ℕ × List ℕ). e.0) entry_at-last)

      len_with : len (with_value (held_by log) r.key r.value) ≡ cond (is_some (value_in longer r.key run)) (len (held_by log)) (len (held_by log) + 1)
      len_with =
          ap (λ x. len (with_value (held_by log) r.key x)) (some_bytes r.value has) ∙ len-insert nat_list_cmp_total (held_by log) r.key (bytes_of r.value)
          ∙ ap (λ b. cond b (len (held_by log)) (len (held_by log) + 1)) (sym held_key)

      counted_put : (b : Bool) (l : List ℕ) → item_count t.content + length run ≡ item_count s.content + length l → length l ≡ cond b (length es) (length es + 1)
          → len (with_value (held_by log) r.key r.value) ≡ cond b (len (held_by log)) (len (held_by log) + 1) → item_count t.content ≡ len (with_value (held_by log) r.key r.value)
      counted_put true l counts long more = omega (arith, counts, long, more, length-es, h.counted)
      counted_put false l counts long more = omega (arith, counts, long, more, length-es, h.counted)

      -- a list with the entry put in
      settled_put : (l : List ℕ) → t.content ≡ with_list cmp s.content slot l → t.slot ≡ s.slot → All (Under slot) l → All (IsLatest longer) l → map (entry_at longer) l ≡ put byte_cmp r.key (bytes_of r.value) es → Indexes cmp longer t
      settled_put l content slots live latest entries =
          let counts = ap (λ c. item_count c + length run) content ∙ item_count-with_list o s.content slot l hs in
          let long = sym (length-map l (entry_at longer)) ∙ ap (λ m. length m) entries ∙ length-put byte_cmp nat_list_cmp_total r.key (bytes_of r.value) es (sorted_in slot) in
          Indexes-longer l content slots live latest (subst (λ m. T (is_sorted byte_cmp m)) (sym entries) (is_sorted-put byte_cmp nat_list_cmp_total r.key (bytes_of r.value) es (sorted_in slot)))
          (λ a. ap (find byte_cmp a) entries ∙ find-put byte_cmp nat_list_cmp_total a r.key (bytes_of r.value) es ∙ ap (λ x. cond (same a r.key) x (find byte_cmp a es)) (sym (some_bytes r.value has)))
          (counted_put (is_some (find byte_cmp r.key es)) l counts long len_with)

      settled_new : (place : ℕ) → IsPlace (entry_at longer) r.key run place false → t ≡ with_edit cmp s slot (λ l. insert l place last) → Indexes cmp longer t
      settled_new place at is =
          settled_put (insert run place last) (content-same_view is) (same_slot is) (All-insert (Under slot) run place last last_under (All-Under slot))
          (All-insert (IsLatest longer) run place last last_latest (latest_all (sym (at_held (entry_at longer) r.key run place false at))))
          (map-insert (entry_at longer) run place last ∙ (λ i. insert es (at_below (entry_at longer) r.key run place false at i) (entry_at-last i)) ∙ insert-put nat_list_cmp_total exact_bytes es r.key (bytes_of r.value) (sorted_in slot) (sym (at_held (entry_at longer) r.key run place false at)))

      settled_held : (place : ℕ) → IsPlace (entry_at longer) r.key run place true → t ≡ with_edit cmp s slot (λ l. slice_set l place last) → Indexes cmp longer t
      settled_held place at is =
          settled_put (slice_set run place last) (content-same_view is) (same_slot is) (All-set (Under slot) run place last last_under (All-Under slot))
          (apart_set (IsLatest longer) (entry_at longer) r.key run place last (sorted_in slot) (key_there place at) (latest_in slot) last_latest)
          (map-slice_set (entry_at longer) run place last ∙ (λ i. slice_set es (at_below (entry_at longer) r.key run place true at i) (entry_at-last i)) ∙ set-put nat_list_cmp_total exact_bytes es r.key (bytes_of r.value) (sorted_in slot) (sym (at_held (entry_at longer) r.key run place true at)))

    module _ (has : false ≡ is_some r.value) where
      len_without : len (with_value (held_by log) r.key r.value) ≡ cond (is_some (value_in longer r.key run)) (len (held_by log) - 1) (len (held_by log))
      len_without =
          ap (λ x. len (with_value (held_by log) r.key x)) (None-is_some r.value (sym has)) ∙ len-remove nat_list_cmp_total (held_by log) r.key
          ∙ ap (λ b. cond b (len (held_by log) - 1) (len (held_by log))) (sym held_key)

      none_or : (b : Bool) (x : Option (List ℕ)) → cond (not b) x None ≡ cond b r.value x
      none_or true x = sym (None-is_some r.value (sym has))
      none_or false x = refl

      settled_out : (place : ℕ) → IsPlace (entry_at longer) r.key run place true → t ≡ with_pruned (with_edit cmp s slot (λ l. remove l place)) 1 → Indexes cmp longer t
      settled_out place at is =
          let l = remove run place in
          let held = at_held (entry_at longer) r.key run place true at in
          let content : t.content ≡ with_list cmp s.content slot l = content-same_view is in
          let entries : map (entry_at longer) l ≡ without nat_list_cmp_total exact_bytes r.key es =
          map-remove (entry_at longer) run place ∙ ap (remove es) (at_below (entry_at longer) r.key run place true at) ∙ remove-without nat_list_cmp_total exact_bytes es r.key (sorted_in slot) (sym held) in
          let counts = ap (λ c. item_count c + length run) content ∙ item_count-with_list o s.content slot l hs in
          let left = length_without byte_cmp nat_list_cmp_total r.key es (sorted_in slot) in
          let one = ap {B = ℕ} (λ b. cond b 1 0) (sym held) in
          let long = sym (length-map l (entry_at longer)) ∙ ap (λ m. length m) entries in
          let less = len_without ∙ ap (λ b. cond b (len (held_by log) - 1) (len (held_by log))) (sym held) in
          Indexes-longer l content (same_slot is) (out_all (Under slot) run place (All-Under slot))
          (apart_out (IsLatest longer) (entry_at longer) r.key run place (sorted_in slot) (key_there place at) (latest_in slot))
          (subst (λ m. T (is_sorted byte_cmp m)) (sym entries) (is_sorted-where_key byte_cmp (λ x. not (same r.key x)) es (sorted_in slot)))
          (λ a. ap (find byte_cmp a) entries ∙ find-where_key byte_cmp (λ x. not (same r.key x)) a (λ x e. ap (λ k. not (same r.key k)) (sym (exact_bytes a x e))) es
          ∙ ap (λ b. cond (not b) (find byte_cmp a es) None) ((eq_by_cmp_equiv nat_list_cmp_total).symm r.key a) ∙ none_or (same a r.key) (find byte_cmp a es))
          (omega (arith, counts, less, left, one, long, length-es, h.counted))

      settled_none : is_some (value_in longer r.key run) ≡ false → t ≡ s → Indexes cmp longer t
      settled_none absent is =
          let none = None-is_some (value_in longer r.key run) absent in
          let content : t.content ≡ with_list cmp s.content slot run = content-same_view is ∙ sym (with_list-same o exact s.content slot hs) in
          let less = len_without ∙ ap (λ x. cond (is_some x) (len (held_by log) - 1) (len (held_by log))) none in
          Indexes-longer run content (same_slot is) (All-Under slot) (latest_all absent) (sorted_in slot)
          (λ a. elim (same a r.key) as (λ b. same a r.key ≡ b → value_in longer a run ≡ cond b r.value (value_in longer a run)) [
            | true ↦ λ e. ap (λ k. value_in longer k run) (exact_bytes a r.key (Equal-is_eq _ e)) ∙ none ∙ sym (None-is_some r.value (sym has))
            | false ↦ λ e. refl
          ] refl)
          (ap item_count (content-same_view is) ∙ h.counted ∙ sym less)

    pub Indexes-Settles : (b : Bool) → b ≡ is_some r.value → (place : ℕ) (is_held : Bool) → IsPlace (entry_at longer) r.key run place is_held → Settles cmp s r.key b is_held place last t → Indexes cmp longer t
    Indexes-Settles true has place true at is = settled_held has place at is
    Indexes-Settles true has place false at is = settled_new has place at is
    Indexes-Settles false has place true at is = settled_out has place at is
    Indexes-Settles false has place false at is = settled_none has (sym (at_held (entry_at longer) r.key run place false at)) is

    -- where a key stands, by a log that is longer than this one
    pub place_in : (more : List ℕ) (place : ℕ) (is_held : Bool) → IsPlace (entry_at (log ++ more)) r.key run place is_held → IsPlace (entry_at longer) r.key run place is_held
    place_in more place is_held at =
        place_along (entry_at (log ++ more)) (entry_at longer) r.key run place is_held (entries_there log more run (live_in slot) ∙ sym (map-entry_at_longer slot)) at

  -- by the whole log, and by what the code has
  pub Indexes-filed : (front back content : List ℕ) (r : Entry) (fits : Fits r) → IsBytes r.key → (s t : View K ℕ) → IsLawful cmp s.content → Indexes cmp front s → content ≡ front ++ back
      → (b : Bool) → b ≡ is_some r.value → (place : ℕ) (is_held : Bool) → IsPlace (entry_at content) r.key (run_of cmp s r.key) place is_held
      → (position : ℕ) → position ≡ length front → Settles cmp s r.key b is_held place position t → Indexes cmp (front ++ encoded position r) t
  Indexes-filed front back content r fits bytes s t hs h whole b has place is_held at position end is =
      subst (λ n. Indexes cmp (front ++ encoded n r) t) (sym end)
      (Indexes-Settles front r fits bytes s t hs h b has place is_held
      (place_in front r fits bytes s t hs h back place is_held (subst (λ c. IsPlace (entry_at c) r.key (run_of cmp s r.key) place is_held) whole at))
      (subst (λ n. Settles cmp s r.key b is_held place n t) end is))

  -- ---- a position that goes in and out again

  module _ (s t : View K ℕ) (key : List ℕ) (place p : ℕ) (hs : IsLawful cmp s.content) (within : place ≤ length (run_of cmp s key)) (is : t ≡ with_edit cmp s (s.slot key) (λ l. insert l place p)) where
    list_there : run_of cmp t key ≡ insert (run_of cmp s key) place p
    list_there =
        ap (λ f. run_at cmp t (f key)) (same_slot is) ∙ ap (λ c. list_at cmp c (s.slot key)) (content-same_view is)
        ∙ list_at-with_list o s.content (s.slot key) (insert (run_of cmp s key) place p) (s.slot key)
        ∙ ap (λ b. cond b (insert (run_of cmp s key) place p) (run_of cmp s key)) (ap is_eq (tied_itself o (s.slot key)))

    pub one_there : place < length (run_of cmp t key)
    one_there = omega (arith, within, ap (λ l. length l) list_there, length-insert (run_of cmp s key) place p)

    pub KeepsLists-undone : (u : View K ℕ) → u ≡ with_pruned (with_edit cmp t (t.slot key) (λ l. remove l place)) 1 → KeepsLists s u
    KeepsLists-undone u out =
        let k = s.slot key in
        let run = run_of cmp s key in (
          content-same_view out ∙ (λ i. with_list cmp (content-same_view is i) (same_slot is i key) (remove (list_there i) place))
              ∙ ap (with_list cmp (with_list cmp s.content k (insert run place p)) k) (remove-insert run place p within)
              ∙ with_list-twice o exact s.content k (insert run place p) run hs ∙ with_list-same o exact s.content k hs,
          same_slot out ∙ same_slot is,
        )

module _ {K : Type 0} (cmp : K → K → Ordering) where
  -- a key that isn't held is put in
  pub Settles-insert : (s t : View K ℕ) (key : List ℕ) (p : ℕ) (b : Bool) (place : ℕ) (is_held : Bool) → is_held ≡ false → (b ≡ false → is_held ≡ true) → Settles cmp s key b is_held place p t
      → t ≡ with_edit cmp s (s.slot key) (λ l. insert l place p)
  Settles-insert s t key p b place true none known is = absurd (false≢true (sym none))
  Settles-insert s t key p true place false none known is = is
  Settles-insert s t key p false place false none known is = absurd (false≢true (known refl))

  -- ---- an empty index, and one with the same lists

  pub indexes_none : (s : View K ℕ) → s.content ≡ [] → Indexes cmp [] s
  indexes_none s none = record {
    spelled = spelled_none.spelled;
    fit = spelled_none.fit;
    live = λ k. subst (λ c. All (IsUnder [] s.slot k) (list_at cmp c k)) (sym none) (All-nil (IsUnder [] s.slot k));
    sorted = λ k. subst (λ c. T (is_sorted byte_cmp (map (entry_at []) (list_at cmp c k)))) (sym none) tt;
    latest = λ k. subst (λ c. All (IsLatest []) (list_at cmp c k)) (sym none) (All-nil (IsLatest []));
    found = λ a. ap (λ c. value_in [] a (list_at cmp c (s.slot a))) none ∙ sym (ap (λ m. get m a) held_none ∙ get-empty byte_cmp a);
    counted = ap item_count none ∙ sym (ap (λ m. len m) held_none ∙ len-empty byte_cmp (List ℕ));
  }
    where
      held_none : held_by [] ≡ empty
      held_none = nothing_held

  pub indexes_kept : (log : List ℕ) (s t : View K ℕ) → Indexes cmp log s → KeepsLists s t → Indexes cmp log t
  indexes_kept log s t h same = record {
    spelled = h.spelled;
    fit = h.fit;
    live = λ k. subst (λ (p : Content K ℕ × (List ℕ → K)). All (IsUnder log p.1 k) (list_at cmp p.0 k)) (sym (pair same)) (h.live k);
    sorted = λ k. subst (λ c. T (is_sorted byte_cmp (map (entry_at log) (list_at cmp c k)))) (sym same.0) (h.sorted k);
    latest = λ k. subst (λ c. All (IsLatest log) (list_at cmp c k)) (sym same.0) (h.latest k);
    found = λ a. (λ i. value_in log a (list_at cmp (same.0 i) (same.1 i a))) ∙ h.found a;
    counted = ap item_count same.0 ∙ h.counted;
  }
    where
      pair : KeepsLists s t → ◌≡◌ {A = Content K ℕ × (List ℕ → K)} (t.content, t.slot) (s.content, s.slot)
      pair e i = (e.0 i, e.1 i)
