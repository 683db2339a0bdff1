-- What the calls of a cursor leave of a content, of the count of pruned values, and of a list.
--     list_at-with_list_same      the list that was put at a key is read there
--     length-list_at              no list is longer than all of them
--     pruned_none, pruned_twice   no value more, and some more twice
--     chain_more                  some steps and one more
--     IsOnValue-active, past_end  a cursor on a value is active, and one that allows `insert` and is not active is done
--     insert-list_after_insert    what `insert` leaves of a list, by the place of the next value
--     edits_index                 one edit of an index, as the cursor tells it
--     EditedTo                    an index after some edits at one key: edited_none, edited_more
use Rattle.std.proofs.Common.{◌≡◌, ℕ, ◌+◌, ◌≤◌, false, cond, List, [], ◌∷◌, ◌++◌, length, refl, sym, ap, subst, ◌∙◌, arith}
use Rattle.std.specs.declared.cmp.Ordering.{Ordering}
use Rattle.std.specs.declared.cmp.Ordering.TheVariants.{Equal}
use Rattle.std.specs.Cmp.{IsTotalOrder, eq_by_cmp_equiv}
use Rattle.std.specs.List.{insert}
use Rattle.std.proofs.lemmas.List.{take_all, drop_all}
use Rattle.key_index_flat.specs.Content.{Content, item_count, list_at, with_list, IsLawful}
use Rattle.key_index_flat.specs.View.{pruned_after}
use Rattle.key_index_flat.specs.declared.index.traits.cursor.CursorState.{CursorState}
use Rattle.key_index_flat.specs.declared.index.traits.cursor.CursorState.TheVariants as state
use Rattle.key_index_flat.specs.Cursor.{Place, IsOnValue, AllowsInsert, NeedNext, Active, Done, list_after_insert, next_place}
use Rattle.key_index_flat.specs.Cursor.{place_of}
use Rattle.key_index_flat.specs.View.{run_at, with_run, with_pruned}
use Rattle.key_index_flat.specs.IndexCursor.{Chain}
use Rattle.key_index_flat.specs.declared.index.index_cursor.IndexCursor.{IndexCursor}
use Rattle.key_index_flat.specs.declared.index.traits.runs.Runs as runs
use Rattle.key_index_flat.specs.contracts.index.traits.cursor.CursorState.{the_type}
use Rattle.key_index_flat.specs.IndexCursor.{EditsIndex}
use Rattle.std.specs.declared.cmp.Ord as ord
use Rattle.std.specs.declared.cmp.PartialEq as eq
use Rattle.std.specs.declared.cmp.PartialOrd as partial
use denote.Enum.Bare.{sameb}
use Rattle.key_index_flat.proofs.runs.ViewLemmas.{content-same_view, same_pruned, same_slot, same_admitted}
use Rattle.key_index_flat.proofs.content.ContentLemmas.{list_at-with_list, item_count-with_list, with_list-same, with_list-twice}

module _ {K V : Type 0} {cmp : K → K → Ordering} (o : IsTotalOrder cmp) where
  pub list_at-with_list_same : (c : Content K V) (k : K) (l : List V) → list_at cmp (with_list cmp c k l) k ≡ l
  list_at-with_list_same c k l = list_at-with_list o c k l k ∙ ap (λ b. cond b l (list_at cmp c k)) ((eq_by_cmp_equiv o).refl k)

  -- the list at the key where a content was made by an edit there
  pub list_at_edit : (c d : Content K V) (k : K) (l : List V) → d ≡ with_list cmp c k l → list_at cmp d k ≡ l
  list_at_edit c d k l e = ap (λ x. list_at cmp x k) e ∙ list_at-with_list_same c k l

  -- and that content, by the list which it has there
  pub edit_at : (c d : Content K V) (k : K) (l : List V) → d ≡ with_list cmp c k l → d ≡ with_list cmp c k (list_at cmp d k)
  edit_at c d k l e = e ∙ ap (λ x. with_list cmp c k x) (sym (list_at_edit c d k l e))

  pub length-list_at : (c : Content K V) (k : K) → IsLawful cmp c → length (list_at cmp c k) ≤ item_count c
  length-list_at c k h = let e = item_count-with_list o c k [] h in omega (arith, e)

  module _ (exact : (x y : K) → cmp x y ≡ Equal → x ≡ y) where
    -- a content that stays is what its own list at a key makes of it
    pub same_edit : (c d : Content K V) (k : K) → IsLawful cmp c → d ≡ c → d ≡ with_list cmp c k (list_at cmp d k)
    same_edit c d k h e = e ∙ sym (with_list-same o exact c k h) ∙ ap (λ x. with_list cmp c k (list_at cmp x k)) (sym e)

    -- one more edit of the list that a content was made by
    pub edit_more : (c d e : Content K V) (k : K) (l m : List V) → IsLawful cmp c → d ≡ with_list cmp c k l → e ≡ with_list cmp d k m → e ≡ with_list cmp c k (list_at cmp e k)
    edit_more c d e k l m h p q = edit_at c e k m (q ∙ ap (λ x. with_list cmp x k m) p ∙ with_list-twice o exact c k l m h)

pub pruned_none : (p : ℕ) → p ≡ pruned_after p 0
pruned_none p = omega arith

pub pruned_twice : (p a b : ℕ) → pruned_after (pruned_after p a) b ≡ pruned_after p (a + b)
pruned_twice p a b = omega arith

pub chain_more : {I : Type 0} (R : I → I → Type 0) (a b c : I) (ms : List I) → Chain R a ms b → R b c → Chain R a (ms ++ c ∷ []) c
chain_more R a b c [] e r = (subst (λ x. R x c) (sym e) r, refl)
chain_more R a b c (m ∷ ms) h r = (h.0, chain_more R m b c ms h.1 r)

pub IsOnValue-active : (s : CursorState) (i : ℕ) → IsOnValue (place_of s i) → s ≡ state.Active
IsOnValue-active state.NeedNext i h = absurd (cc h)
IsOnValue-active state.Active i h = refl
IsOnValue-active state.Done i h = absurd (cc h)

pub past_end : (s : CursorState) (i : ℕ) → AllowsInsert (place_of s i) → false ≡ sameb the_type s state.Active → s ≡ state.Done
past_end state.NeedNext i h e = absurd (cc h)
past_end state.Active i h e = absurd (cc e)
past_end state.Done i h e = refl

pub insert-list_after_insert : {V : Type 0} (l : List V) (p : Place) (v : V) → AllowsInsert p → insert l (next_place l p) v ≡ list_after_insert l p v
insert-list_after_insert l (NeedNext i) v h = absurd (cc h)
insert-list_after_insert l (Active i) v h = refl
insert-list_after_insert l Done v h = λ i. take_all (length l) l (omega arith) i ++ v ∷ drop_all (length l) l (omega arith) i

module _ {I V K : Type 0} {r : runs.Ghosts I V K} {o : ord.Ghosts K} {e : eq.Ghosts K} {p : partial.Ghosts K} where
  pub edits_index : IsTotalOrder o.cmp → (old new : IndexCursor I V K r o e p) (l : List V) (taken pruned : ℕ)
      → new.index.ghost_name ≡ old.index.ghost_name → new.slot ≡ old.slot
      → r.view new.index.now ≡ record (with_run o.cmp (r.view old.index.now) old.slot l) { pruned = pruned }
      → pruned ≡ pruned_after (r.view old.index.now).pruned taken
      → r.edited old.index.now new.index.now
      → EditsIndex old new taken
  edits_index total old new l taken pruned same_reference slot_kept changed count edited =
      let list = ap (λ k. run_at o.cmp (r.view new.index.now) k) slot_kept ∙ list_at_edit total _ _ _ _ (content-same_view changed) in
      record {
        same_reference = same_reference;
        slot_kept = slot_kept;
        changed = changed ∙ (λ i. record (with_run o.cmp (r.view old.index.now) old.slot (sym list i)) { pruned = count i });
        states = new.index.now ∷ [];
        edited = (edited, refl);
      }

module _ {I V K : Type 0} (r : runs.Ghosts I V K) (cmp : K → K → Ordering) where
  -- what some edits at a key left of an index: `taken` held values went
  pub record EditedTo (k : K) (old now : I) (taken : ℕ) : Type 0 where
    pub changed : r.view now ≡ with_pruned (with_run cmp (r.view old) k (run_at cmp (r.view now) k)) taken
    pub states : List I
    pub edited : Chain r.edited old states now

  module _ (o : IsTotalOrder cmp) (exact : (x y : K) → cmp x y ≡ Equal → x ≡ y) (k : K) (old : I) (lawful : IsLawful cmp (r.view old).content) where
    pub edited_none : (taken : ℕ) → taken ≡ 0 → EditedTo k old old taken
    edited_none taken none =
        let content = same_edit o exact (r.view old).content _ k lawful refl in
        let pruned = pruned_none (r.view old).pruned ∙ ap (λ n. pruned_after (r.view old).pruned n) (sym none) in
        record {
          changed = λ i. record (r.view old) { content = content i; pruned = pruned i };
          states = [];
          edited = refl;
        }

    pub edited_more : (now next : I) (key : K) (l : List V) (taken more : ℕ) → key ≡ k → taken + 1 ≡ more → EditedTo k old now taken
        → r.view next ≡ with_pruned (with_run cmp (r.view now) key l) 1 → r.edited now next → EditedTo k old next more
    edited_more now next key l taken more at count was changed edited =
        let content = edit_more o exact (r.view old).content _ _ k _ l lawful (content-same_view was.changed) (content-same_view changed ∙ ap (λ x. with_list cmp (r.view now).content x l) at) in
        let pruned = same_pruned changed ∙ ap (λ n. pruned_after n 1) (same_pruned was.changed) ∙ pruned_twice (r.view old).pruned taken 1 ∙ ap (λ n. pruned_after (r.view old).pruned n) count in
        record {
          changed = λ i. record { content = content i; pruned = pruned i; slot = (same_slot changed ∙ same_slot was.changed) i; admitted = (same_admitted changed ∙ same_admitted was.changed) i };
          states = was.states ++ next ∷ [];
          edited = chain_more r.edited old now next was.states was.edited edited;
        }
