-- What a caller's proof cites of an index after a call, by its view: s before the call, and t after it, which is what the call's clause says it is.
--     run_of-after_insert        after `insert`: the list of the key, and of another key. Cite it to say what `get` answers
--     run_of-after_remove        after `remove`
--     run_of-with_edit           after `set_at`, `insert_at`, `remove_at`, or an edit by a cursor, at the index key of a key
--     is_held-after_insert       after `insert` the key is held
--     filed_after_insert         after `insert` of a value under its own full key, values that stood under their own full keys still do. Cite it to keep the
--                                premise of `find_record`, `next_record` and the others
--     filed_after_remove         after `remove`
--     filed_after_edit           after an edit that leaves values of the list's index key in it. filed_after_set, filed_after_removal: of one place
--     FailsOn-run_of             a reader that fails on a value of the key's list, as `find_record` does, fails on one of all, as `absent` does
use Rattle.std.proofs.Common.{◌≡◌, ℕ, zero, suc, Bool, true, false, cond, List, [], ◌∷◌, length, remove, slice_set, All, refl, sym, ap, subst, ◌∙◌, arith}
use Rattle.std.proofs.lemmas.List.Elements.{All-nil, All-cons, All-head, All-tail}
use Rattle.std.specs.declared.cmp.Ordering.{Ordering}
use Rattle.std.specs.declared.cmp.Ordering.TheVariants.{Equal}
use Rattle.std.specs.Ordering.{eq_by_cmp, is_eq}
use Rattle.std.specs.Cmp.{IsTotalOrder, tied_itself}
use Rattle.key_index_flat.specs.Content.{Content, list_at, with_list}
use Rattle.key_index_flat.specs.View.{View, IsHeld, after_insert, after_remove, put_value, run_of, with_edit, with_pruned}
use Rattle.key_index_flat.specs.FullKeys.{FailsOn, IsBytes, IsFiled, IsFiledIn}
use Rattle.key_index_flat.specs.Values.{values_of}
use Rattle.key_index_flat.proofs.content.ContentLemmas.{list_at-with_list, Equal-is_eq}
use Rattle.key_index_flat.proofs.entries.EntryLemmas.{All-put_value, length-put_value, out_all}
use Rattle.key_index_flat.proofs.neighbours.HeldLemmas.{FailsOn-list_at}

module _ {K V : Type 0} {cmp : K → K → Ordering} (o : IsTotalOrder cmp) where
  -- the list at the index key whose list was replaced, and at another
  at_itself : (c : Content K V) (k : K) (l : List V) → list_at cmp (with_list cmp c k l) k ≡ l
  at_itself c k l = list_at-with_list o c k l k ∙ ap (λ b. cond b l (list_at cmp c k)) (ap is_eq (tied_itself o k))

  elsewhere : (c : Content K V) (k q : K) (l : List V) → eq_by_cmp cmp q k ≡ false → list_at cmp (with_list cmp c k l) q ≡ list_at cmp c q
  elsewhere c k q l other = list_at-with_list o c k l q ∙ ap (λ b. cond b l (list_at cmp c q)) other

  module _ (s t : View K V) (key : List ℕ) where
    -- of a key whose index key is another
    abbrev pub IsElsewhere : List ℕ → Type 0
    IsElsewhere other = eq_by_cmp cmp (s.slot other) (s.slot key) ≡ false

    pub run_of-with_edit : (f : List V → List V) → t ≡ with_edit cmp s (s.slot key) f → run_of cmp t key ≡ f (run_of cmp s key)
    run_of-with_edit f is = ap (λ x. run_of cmp x key) is ∙ at_itself s.content (s.slot key) (f (run_of cmp s key))

    pub run_of-with_edit_elsewhere : (f : List V → List V) (other : List ℕ) → t ≡ with_edit cmp s (s.slot key) f → IsElsewhere other → run_of cmp t other ≡ run_of cmp s other
    run_of-with_edit_elsewhere f other is away = ap (λ x. run_of cmp x other) is ∙ elsewhere s.content (s.slot key) (s.slot other) (f (run_of cmp s key)) away

    pub run_of-after_insert : (first : Bool) (v : V) → t ≡ after_insert cmp first s key v → run_of cmp t key ≡ put_value first v (run_of cmp s key)
    run_of-after_insert first v is = run_of-with_edit (put_value first v) is

    pub run_of-after_insert_elsewhere : (first : Bool) (v : V) (other : List ℕ) → t ≡ after_insert cmp first s key v → IsElsewhere other → run_of cmp t other ≡ run_of cmp s other
    run_of-after_insert_elsewhere first v other is away = run_of-with_edit_elsewhere (put_value first v) other is away

    pub is_held-after_insert : (first : Bool) (v : V) → t ≡ after_insert cmp first s key v → IsHeld cmp t key
    is_held-after_insert first v is =
        let long = ap (λ (l : List V). length l) (run_of-after_insert first v is) ∙ length-put_value first v (run_of cmp s key) in
        omega (arith, long)

    pub run_of-after_remove : t ≡ after_remove cmp s key → run_of cmp t key ≡ []
    run_of-after_remove is = ap (λ x. run_of cmp x key) is ∙ at_itself s.content (s.slot key) []

    pub run_of-after_remove_elsewhere : (other : List ℕ) → t ≡ after_remove cmp s key → IsElsewhere other → run_of cmp t other ≡ run_of cmp s other
    run_of-after_remove_elsewhere other is away = ap (λ x. run_of cmp x other) is ∙ elsewhere s.content (s.slot key) (s.slot other) [] away

set_all : {V : Type 0} (P : V → Type 0) (l : List V) (place : ℕ) (v : V) → P v → All P l → All P (slice_set l place v)
set_all P [] zero v p h = h
set_all P [] (suc i) v p h = h
set_all P (x ∷ xs) zero v p h = All-cons P v xs p (All-tail P x xs h)
set_all P (x ∷ xs) (suc i) v p h = All-cons P x (slice_set xs i v) (All-head P x xs h) (set_all P xs i v p (All-tail P x xs h))

module _ {K V : Type 0} {cmp : K → K → Ordering} (o : IsTotalOrder cmp) (exact : (x y : K) → cmp x y ≡ Equal → x ≡ y) (keys : V → List ℕ) (s t : View K V) (key : List ℕ) where
  -- a value whose full key has an index key
  abbrev Under : K → V → Type 0
  Under k v = IsBytes (keys v) × (s.slot (keys v) ≡ k)

  filed_with_list : (l : List V) → All (Under (s.slot key)) l → IsFiledIn keys cmp s → IsFiled keys cmp s.slot (with_list cmp s.content (s.slot key) l)
  filed_with_list l under filed q =
      subst (λ r. All (Under q) r) (sym (list_at-with_list o s.content (s.slot key) l q))
      (elim (eq_by_cmp cmp q (s.slot key)) as (λ b. eq_by_cmp cmp q (s.slot key) ≡ b → All (Under q) (cond b l (list_at cmp s.content q))) [
        | true ↦ λ e. subst (λ k. All (Under k) l) (sym (exact q (s.slot key) (Equal-is_eq _ e))) under
        | false ↦ λ e. filed q
      ] refl)

  pub filed_after_edit : (f : List V → List V) → t ≡ with_edit cmp s (s.slot key) f → All (Under (s.slot key)) (f (run_of cmp s key)) → IsFiledIn keys cmp s → IsFiledIn keys cmp t
  filed_after_edit f is under filed = subst (IsFiledIn keys cmp) (sym is) (filed_with_list (f (run_of cmp s key)) under filed)

  pub filed_after_insert : (first : Bool) (v : V) → t ≡ after_insert cmp first s key v → keys v ≡ key → IsBytes key → IsFiledIn keys cmp s → IsFiledIn keys cmp t
  filed_after_insert first v is own bytes filed =
      filed_after_edit (put_value first v) is
      (All-put_value (Under (s.slot key)) first v (run_of cmp s key) (subst (λ b. IsBytes b) (sym own) bytes, ap s.slot own) (filed (s.slot key))) filed

  pub filed_after_set : (place : ℕ) (v : V) → t ≡ with_edit cmp s (s.slot key) (λ l. slice_set l place v) → keys v ≡ key → IsBytes key → IsFiledIn keys cmp s → IsFiledIn keys cmp t
  filed_after_set place v is own bytes filed =
      filed_after_edit (λ l. slice_set l place v) is
      (set_all (Under (s.slot key)) (run_of cmp s key) place v (subst (λ b. IsBytes b) (sym own) bytes, ap s.slot own) (filed (s.slot key))) filed

  pub filed_after_removal : (place : ℕ) → t ≡ with_pruned (with_edit cmp s (s.slot key) (λ l. remove l place)) 1 → IsFiledIn keys cmp s → IsFiledIn keys cmp t
  filed_after_removal place is filed =
      subst (IsFiledIn keys cmp) (sym is)
      (filed_with_list (remove (run_of cmp s key) place) (out_all (Under (s.slot key)) (run_of cmp s key) place (filed (s.slot key))) filed)

  pub filed_after_remove : t ≡ after_remove cmp s key → IsFiledIn keys cmp s → IsFiledIn keys cmp t
  filed_after_remove is filed = subst (IsFiledIn keys cmp) (sym is) (filed_with_list [] (All-nil (Under (s.slot key))) filed)

pub FailsOn-run_of : {K V E : Type 0} (fails : V → E → Type 0) (cmp : K → K → Ordering) (s : View K V) (key : List ℕ) (e : E)
    → FailsOn fails (run_of cmp s key) e → FailsOn fails (values_of s.content) e
FailsOn-run_of fails cmp s key = FailsOn-list_at fails s.content cmp (s.slot key)
