-- The positions that ops make of the records of a log.
--     newest_more        one record more, in front of all
--     answers_newest     the list of each key
use Rattle.std.proofs.Common.{◌≡◌, ℕ, Bool, true, false, cond, if◌then◌else◌, List, [], ◌∷◌, ◌++◌, append-nil, append_assoc, map, reverse, Vec, refl, sym, ap, ◌∙◌}
use Rattle.std.proofs.lemmas.List.{reverse-append}
use Rattle.std.specs.declared.alloc.Global.{Global}
use Rattle.std.specs.declared.cmp.Ordering.{Ordering}
use Rattle.std.specs.declared.cmp.Ordering.TheVariants.{Equal}
use Rattle.std.specs.Cmp.{IsTotalOrder}
use Rattle.std.specs.BTreeMap.{insert_entry}
use Rattle.std.specs.Cmp.Lexicographic.{nat_list_cmp_total}
use Rattle.std.specs.FinMap.{entries, entries-insert}
use Rattle.std.specs.FinMap.Entries.{put}
use Rattle.std.specs.Prelude.{filter}
use Rattle.std.specs.Ordering.{eq_by_cmp}
use Rattle.key_index_flat.specs.Content.{list_at}
use Rattle.key_index_flat.specs.FullKeys.{byte_cmp}
use Rattle.key_index_flat.specs.Values.{in_order}
use Rattle.key_index_flat.specs.View.{View, put_value, run_at}
use Rattle.key_index_flat.proofs.content.ContentLemmas.{list_at-with_list, Equal-is_eq}
use Rattle.key_index_parts.specs.Ops.{after_op, after_ops}
use Rattle.key_index_parts.proofs.builds.RangeLemmas.{slot-after_ops}
use Rattle.key_index_parts.specs.declared.index.partitioned.builds.op.Op.{Op}
use Rattle.key_index.specs.Snapshot.{entries_of}
use Rattle.key_index.proofs.snapshots.BuildLemmas.{cmp_keys, put_commutes}
use Rattle.key_index_uses.specs.Newest.{newest, op_of, sharing}

pub newest_more : (es fs done : List (Vec ℕ Global × ℕ)) (x : Vec ℕ Global × ℕ) → fs ≡ insert_entry cmp_keys es x.0 x.1 → entries_of es ≡ entries (newest done) → entries_of fs ≡ entries (newest (x ∷ done))
newest_more es fs done x is h =
    ap entries_of is ∙ put_commutes es x.0 x.1 ∙ ap (put byte_cmp x.0.items x.1) h ∙ sym (entries-insert nat_list_cmp_total (newest done) x.0.items x.1)

-- a list with others put in, one after another
abbrev put_all : {V : Type 0} → Bool → List V → List V → List V
put_all true vs l = reverse vs ++ l
put_all false vs l = l ++ vs

put_all-more : {V : Type 0} (first : Bool) (v : V) (vs l : List V) → put_all first vs (put_value first v l) ≡ put_all first (v ∷ vs) l
put_all-more true v vs l = sym (append_assoc (reverse vs) (v ∷ []) l) ∙ ap (λ m. m ++ l) (sym (reverse-append (v ∷ []) vs))
put_all-more false v vs l = append_assoc l (v ∷ []) vs

put_all-none : {V : Type 0} (first : Bool) (vs : List V) → put_all first vs [] ≡ in_order first vs
put_all-none true vs = append-nil (reverse vs)
put_all-none false vs = refl

put_all-nothing : {V : Type 0} (first : Bool) (l : List V) → l ≡ put_all first [] l
put_all-nothing true l = refl
put_all-nothing false l = sym (append-nil l)

-- an entry with the bytes of its key
abbrev by_bytes : {V : Type 0} → Vec ℕ Global × V → List ℕ × V
by_bytes e = (e.0.items, e.1)

module _ {K V : Type 0} {cmp : K → K → Ordering} (o : IsTotalOrder cmp) (exact : (x y : K) → cmp x y ≡ Equal → x ≡ y) (first : Bool) where
  run_at-ops : (es : List (Vec ℕ Global × V)) (s : View K V) (key : List ℕ)
      → run_at cmp (after_ops cmp first (map op_of es) s) (s.slot key) ≡ put_all first (sharing cmp s.slot key (map by_bytes es)) (run_at cmp s (s.slot key))
  run_at-ops [] s key = put_all-nothing first (run_at cmp s (s.slot key))
  run_at-ops (e ∷ es) s key =
      let k = s.slot key in
      let j = s.slot e.0.items in
      let l = list_at cmp s.content j in
      let others = map by_bytes es in
      let tail = sharing cmp s.slot key others in
      run_at-ops es (after_op cmp first (op_of e) s) key
      ∙ ap (put_all first tail) (list_at-with_list o s.content j (put_value first e.1 l) k)
      ∙ elim (eq_by_cmp cmp k j) as (λ b. eq_by_cmp cmp k j ≡ b → put_all first tail (cond b (put_value first e.1 l) (list_at cmp s.content k))
      ≡ put_all first (map (λ e. e.1) (cond b (by_bytes e ∷ filter (λ e. eq_by_cmp cmp k (s.slot e.0)) others) (filter (λ e. eq_by_cmp cmp k (s.slot e.0)) others))) (list_at cmp s.content k)) [
        | true ↦ λ p. put_all-more first e.1 tail l ∙ ap (λ x. put_all first (e.1 ∷ tail) (list_at cmp s.content x)) (sym (exact k j (Equal-is_eq _ p)))
        | false ↦ λ p. refl
      ] refl

  pub answers_newest : (found : List (Vec ℕ Global × V)) (kept : List (List ℕ × V)) (ops : List (Op V)) (s t : View K V) → map by_bytes found ≡ kept → s.content ≡ [] → ops ≡ map op_of found → t ≡ after_ops cmp first ops s
      → (key : List ℕ) → run_at cmp t (t.slot key) ≡ in_order first (sharing cmp s.slot key kept)
  answers_newest found kept ops s t whole empty are is key =
      let all : t ≡ after_ops cmp first (map op_of found) s = is ∙ ap (λ l. after_ops cmp first l s) are in
      (λ i. list_at cmp (all i).content ((all i).slot key))
      ∙ ap (λ f. run_at cmp (after_ops cmp first (map op_of found) s) (f key)) (slot-after_ops cmp first (map op_of found) s)
      ∙ run_at-ops found s key
      ∙ (λ i. put_all first (sharing cmp s.slot key (whole i)) (list_at cmp (empty i) (s.slot key)))
      ∙ put_all-none first (sharing cmp s.slot key kept)
