-- On a snapshot's index before and after a call: it still keeps each key once, under its own index key, and its map.
--     put_new, put_held, IsKept-removed  after a record of a new key, of a held one, and after a key went out
--     fewer_items                        whether a key went out
--     len-positions_in                   how many records there are
--     positions_empty-len                whether there is none
use Rattle.std.proofs.Common.{◌≡◌, ◌==◌, ◌↔◌, ℕ, suc, ◌+◌, nat_lt, Bool, true, false, cond, not, T, List, [], ◌∷◌, ◌++◌, length, map, Some, None, is_some, unwrap_or, slice_get, slice_set, All, refl, sym, ap, subst, ◌∙◌, arith}
use Rattle.std.proofs.lemmas.Bool.{eq-eqb, eqb-true, le-ltb, lt-ltb}
use Rattle.std.proofs.lemmas.List.Elements.{All-nil, All-head, All-tail, All-filter, All-set}
use Rattle.std.proofs.lemmas.Map.Keys.{IsDistinct-head, IsDistinct-tail}
use Rattle.std.specs.Cmp.{IsTotalOrder, tied_itself}
use Rattle.std.specs.Cmp.Lexicographic.{nat_list_cmp_total}
use Rattle.std.specs.FinMap.{empty, get, insert, remove, len, find, is_sorted, empty_of_len, len-empty, len-insert, get-from_entries}
use Rattle.std.specs.List.{IsDistinct}
use Rattle.std.specs.Option.{option_map}
use Rattle.std.specs.Ordering.{eq_by_cmp, is_eq}
use Rattle.std.specs.Str.{bytes_eq}
use Rattle.std.specs.declared.cmp.Ordering.{Ordering}
use Rattle.std.specs.declared.cmp.Ordering.TheVariants.{Less, Equal, Greater}
use Rattle.key_index_flat.specs.Content.{Content, item_count, list_at, with_list, IsLawful}
use Rattle.key_index_flat.specs.FullKeys.{IsBytes, byte_cmp, IsFiled}
use Rattle.key_index_flat.specs.laws.Laws.{T-and_first, T-and_second}
use Rattle.key_index_flat.specs.Values.{values_of}
use Rattle.key_index_flat.specs.View.{View, items_in, put_value, run_of, after_insert, with_edit, with_pruned, with_run}
use Rattle.key_index_flat.proofs.content.ContentLemmas.{list_at-below_all, item_count-with_list, list_at-with_list, Equal-is_eq}
use Rattle.key_index_flat.proofs.entries.EntryLemmas.{apart_none, none_distinct, All-put_value, put_distinct, put_look, same, set_keys, set_look}
use Rattle.key_index_flat.proofs.entries.MapLemmas.{look-behind, own_list}
use Rattle.key_index_flat.proofs.neighbours.FullKeyLemmas.{filed_first, filed_rest}
use Rattle.key_index_flat.proofs.runs.ViewLemmas.{content-same_view, same_slot}
use Rattle.key_index.proofs.snapshots.RecordLemmas.{records_without, without_position, without_distinct, without_none, without_fewer}
use Rattle.key_index.proofs.snapshots.SnapshotLemmas.{get-positions_in, set_map, unset_map}
use Rattle.key_index.specs.Snapshot.{Positions, IsKept, key_of, entry_of, positions_in, positions_of, position_in}
use Rattle.key_index.specs.declared.snapshot.record.Record.{Record}

abbrev Distinct : List Record → Type 0
Distinct l = IsDistinct same (map key_of l)

module _ {K : Type 0} {cmp : K → K → Ordering} (o : IsTotalOrder cmp) (exact : (x y : K) → cmp x y ≡ Equal → x ≡ y) where
  pub empty_kept : (s : View K Record) → s.content ≡ [] → IsKept cmp s
  empty_kept s none = record {
    filed = λ k. subst (λ c. All (λ r. IsBytes (key_of r) × (s.slot (key_of r) ≡ k)) (list_at cmp c k)) (sym none) (All-nil (λ r. IsBytes (key_of r) × (s.slot (key_of r) ≡ k)));
    once = λ k. subst (λ c. Distinct (list_at cmp c k)) (sym none) none_distinct;
  }

  -- l: the list of a key after a call
  module _ (s t : View K Record) (key : List ℕ) (l : List Record) (hs : IsLawful cmp s.content) (ht : IsLawful cmp t.content) (kept : IsKept cmp s) (content : t.content ≡ with_list cmp s.content (s.slot key) l)
      (slots : t.slot ≡ s.slot) (under : All (λ r. IsBytes (key_of r) × (s.slot (key_of r) ≡ s.slot key)) l) (distinct : Distinct l) where
    list_at-after_edit : (k : K) → list_at cmp t.content k ≡ cond (eq_by_cmp cmp k (s.slot key)) l (list_at cmp s.content k)
    list_at-after_edit k = ap (λ x. list_at cmp x k) content ∙ list_at-with_list o s.content (s.slot key) l k

    filed_after : IsFiled key_of cmp s.slot t.content
    filed_after k =
        let P : K → Record → Type 0 = λ q r. IsBytes (key_of r) × (s.slot (key_of r) ≡ q) in
        subst (All (P k)) (sym (list_at-after_edit k))
        (elim (eq_by_cmp cmp k (s.slot key)) as (λ b. eq_by_cmp cmp k (s.slot key) ≡ b → All (P k) (cond b l (list_at cmp s.content k))) [
          | true ↦ λ e. subst (λ q. All (P q) l) (sym (exact k (s.slot key) (Equal-is_eq _ e))) under
          | false ↦ λ e. kept.filed k
        ] refl)

    Distinct-after_edit : (k : K) → Distinct (list_at cmp t.content k)
    Distinct-after_edit k = subst Distinct (sym (list_at-after_edit k))
        (elim (eq_by_cmp cmp k (s.slot key)) as (λ b. Distinct (cond b l (list_at cmp s.content k))) [
          | true ↦ distinct
          | false ↦ kept.once k
        ])

    pub kept_after : IsKept cmp t
    kept_after = record { filed = subst (λ f. IsFiled key_of cmp f t.content) (sym slots) filed_after; once = Distinct-after_edit }

    pub set_after : (p : ℕ) → ((a : List ℕ) → position_in a l ≡ cond (same a key) (Some p) (position_in a (run_of cmp s key))) → IsKept cmp t × (positions_in t ≡ insert (positions_in s) key p)
    set_after p one = (kept_after, set_map o exact s.slot s.content t.content key l hs.0 ht.0 kept.filed filed_after content p one)

    unset_after : ((a : List ℕ) → position_in a l ≡ cond (same a key) None (position_in a (run_of cmp s key))) → IsKept cmp t × (positions_in t ≡ remove (positions_in s) key)
    unset_after one = (kept_after, unset_map o exact s.slot s.content t.content key l hs.0 ht.0 kept.filed filed_after content one)

  module _ (s t : View K Record) (key : List ℕ) (hs : IsLawful cmp s.content) (ht : IsLawful cmp t.content) (kept : IsKept cmp s) where
    pub put_new : (first : Bool) (r : Record) → key_of r ≡ key → IsBytes key → get (positions_in s) key ≡ None → t ≡ after_insert cmp first s key r
        → IsKept cmp t × (positions_in t ≡ insert (positions_in s) key r.position)
    put_new first r own bytes none is =
        let P : Record → Type 0 = λ r. IsBytes (key_of r) × (s.slot (key_of r) ≡ s.slot key) in
        let run = run_of cmp s key in
        let free : position_in key run ≡ None = sym (get-positions_in o exact s.slot s.content hs.0 kept.filed key) ∙ none in
        set_after s t key (put_value first r run) hs ht kept (content-same_view is) (same_slot is) (All-put_value P first r run (subst IsBytes (sym own) bytes, ap s.slot own) (kept.filed (s.slot key)))
        (put_distinct entry_of first run r (ap (λ k. position_in k run) own ∙ free) (kept.once (s.slot key))) r.position (λ a. put_look entry_of first a key run r own free)

    pub put_held : (place : ℕ) (r : Record) → key_of r ≡ key → IsBytes key → option_map key_of (slice_get (run_of cmp s key) place) ≡ Some key → t ≡ with_edit cmp s (s.slot key) (λ l. slice_set l place r)
        → IsKept cmp t × (positions_in t ≡ insert (positions_in s) key r.position)
    put_held place r own bytes at is =
        let P : Record → Type 0 = λ r. IsBytes (key_of r) × (s.slot (key_of r) ≡ s.slot key) in
        let run = run_of cmp s key in
        set_after s t key (slice_set run place r) hs ht kept (content-same_view is) (same_slot is) (All-set P run place r (subst IsBytes (sym own) bytes, ap s.slot own) (kept.filed (s.slot key)))
        (subst (λ ks. IsDistinct same ks) (sym (set_keys entry_of run place r (at ∙ ap (λ k. Some k) (sym own)))) (kept.once (s.slot key))) r.position (λ a. set_look entry_of a key run place r own (kept.once (s.slot key)) at)

    pub IsKept-removed : (l : List Record) (n : ℕ) → l ≡ records_without key (run_of cmp s key) → t ≡ with_pruned (with_run cmp s (s.slot key) l) n → IsKept cmp t × (positions_in t ≡ remove (positions_in s) key)
    IsKept-removed l n left is =
        let P : Record → Type 0 = λ r. IsBytes (key_of r) × (s.slot (key_of r) ≡ s.slot key) in
        let run = run_of cmp s key in
        let gone = records_without key run in
        unset_after s t key gone hs ht kept (content-same_view is ∙ ap (with_list cmp s.content (s.slot key)) left) (same_slot is)
        (All-filter (λ r. not (bytes_eq (key_of r) key)) P run (kept.filed (s.slot key))) (without_distinct key run (kept.once (s.slot key))) (λ a. without_position a key run)

    -- fewer records, exactly where the key was held
    pub fewer_items : (l : List Record) (n : ℕ) → l ≡ records_without key (run_of cmp s key) → t ≡ with_pruned (with_run cmp s (s.slot key) l) n → nat_lt (items_in t) (items_in s) ≡ is_some (get (positions_in s) key)
    fewer_items l n left is =
        let run = run_of cmp s key in
        let held : get (positions_in s) key ≡ position_in key run = get-positions_in o exact s.slot s.content hs.0 kept.filed key in
        let counts : item_count t.content + length run ≡ item_count s.content + length (records_without key run) =
        ap (λ c. item_count c + length run) (content-same_view is ∙ ap (with_list cmp s.content (s.slot key)) left) ∙ item_count-with_list o s.content (s.slot key) (records_without key run) hs in
        elim (is_some (position_in key run)) as (λ b. is_some (position_in key run) ≡ b → nat_lt (item_count t.content) (item_count s.content) ≡ b) [
          | true ↦ λ e. let less = without_fewer key run e in lt-ltb _ _ (omega (arith, less, counts))
          | false ↦ λ e. let none = ap (λ l. length l) (without_none key run e) in le-ltb _ _ (omega (arith, none, counts))
        ] refl ∙ ap is_some (sym held)

  -- ---- how many records there are
  suc-moves_left : (l m n : ℕ) → l ≡ m + n → l + 1 ≡ suc m + n
  suc-moves_left l m n e = omega (arith, e)

  module _ (slot : List ℕ → K) where
    counted_entry : (e : K × List Record) (es : Content K Record) (h : T (is_sorted cmp (e ∷ es))) → IsFiled key_of cmp slot es → len (positions_of (values_of es)) ≡ item_count es
        → (l : List Record) → All (λ r. IsBytes (key_of r) × (slot (key_of r) ≡ e.0)) l → Distinct l → len (positions_of (l ++ values_of es)) ≡ length l + item_count es
    counted_entry e es h f rest [] under d = omega (arith, rest)
    counted_entry e es h f rest (r ∷ rs) under d =
        let k = key_of r in
        let P : Record → Type 0 = λ r. IsBytes (key_of r) × (slot (key_of r) ≡ e.0) in
        let others = rs ++ values_of es in
        let here = (All-head P r rs under).1 in
        let elsewhere : position_in k (values_of es) ≡ None = own_list entry_of o slot k es (T-and_second _ _ h) f ∙ ap (λ q. position_in k (list_at cmp es q)) here
        ∙ ap (position_in k) (list_at-below_all o e.0 e.0 es (λ y q. q) (T-and_first _ _ h)) in
        let none : get (positions_of others) k ≡ None =
        get-from_entries nat_list_cmp_total (map entry_of others) k ∙ look-behind entry_of k rs (values_of es) (apart_none entry_of k rs (IsDistinct-head same k (map key_of rs) d)) ∙ elsewhere in
        let tail : len (positions_of others) ≡ length rs + item_count es = counted_entry e es h f rest rs (All-tail P r rs under) (IsDistinct-tail same k (map key_of rs) d) in
        len-insert nat_list_cmp_total (positions_of others) k r.position
        ∙ ap (λ o. cond (is_some o) (len (positions_of others)) (len (positions_of others) + 1)) none
        ∙ suc-moves_left (len (positions_of others)) (length rs) (item_count es) tail

    counted_all : (c : Content K Record) → T (is_sorted cmp c) → IsFiled key_of cmp slot c → ((k : K) → Distinct (list_at cmp c k)) → len (positions_of (values_of c)) ≡ item_count c
    counted_all [] h f once = len-empty byte_cmp ℕ
    counted_all (e ∷ es) h f once =
        let rest_filed = filed_rest o key_of slot e es (T-and_first _ _ h) f in
        let rest_once : (k : K) → Distinct (list_at cmp es k) = λ k.
        elim (cmp k e.0) as (λ r. cmp k e.0 ≡ r → Distinct (unwrap_or (cond (is_eq r) (Some e.1) (find cmp k es)) []) → Distinct (list_at cmp es k)) [
          | Less ↦ λ p d. d
          | Equal ↦ λ p d. subst Distinct (sym (list_at-below_all o k e.0 es (λ y q. o.congr k e.0 y p ∙ q) (T-and_first _ _ h))) none_distinct
          | Greater ↦ λ p d. d
        ] refl (once k) in
        let here : Distinct e.1 = subst (λ r. Distinct (unwrap_or (cond (is_eq r) (Some e.1) (find cmp e.0 es)) [])) (tied_itself o e.0) (once e.0) in
        counted_entry e es h rest_filed (counted_all es (T-and_second _ _ h) rest_filed rest_once) e.1 (filed_first o key_of slot e es f) here

  pub len-positions_in : (s : View K Record) → IsLawful cmp s.content → IsKept cmp s → len (positions_in s) ≡ items_in s
  len-positions_in s h kept = counted_all s.slot s.content h.0 kept.filed kept.once

  -- the map m that the index stands for
  module _ (s : View K Record) (h : IsLawful cmp s.content) (kept : IsKept cmp s) (m : Positions) (stands : positions_in s ≡ m) where
    pub held_told : (key : List ℕ) → get m key ≡ position_in key (run_of cmp s key)
    held_told key = ap (λ x. get x key) (sym stands) ∙ get-positions_in o exact s.slot s.content h.0 kept.filed key

    pub len_told : len m ≡ items_in s
    len_told = ap (λ x. len x) (sym stands) ∙ len-positions_in s h kept

pub positions_empty-len : (m : Positions) (n : ℕ) → n ≡ len m → (n == 0 ≡ true) ↔ (m ≡ empty)
positions_empty-len m n is = ((λ t. empty_of_len m (sym is ∙ eqb-true n 0 t)), (λ none. eq-eqb n 0 (is ∙ ap (λ x. len x) none ∙ len-empty byte_cmp ℕ)))
