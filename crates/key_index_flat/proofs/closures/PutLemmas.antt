-- A value that was put behind those of a key, where all of these were asked on then.
--     list_put      the key's list with the value
--     taken_put     the content after both
--     one_went      the new value, answered false, is one of those that went
--     asks_put      the answers on the values that were held and the new one
--     list_alone, first_alone, taken_alone, asks_alone   the list, its value, the content and the answer, where none was held
--     Stay          where a value was put behind those of a list, or none was, and all of these were asked on: how many of the held ones stay
--     few_with      no more are left than there were
--     held_behind, stay_behind   of a list by its first value and its tail: how many were held, and how many of these stay
use Rattle.std.proofs.Common.{◌≡◌, ℕ, ◌+◌, ◌≤◌, Bool, true, false, ◌&&◌, not, cond, List, [], ◌∷◌, ◌++◌, length, insert, slice_get, Option, Some, None, is_some, refl, sym, ap, subst, ◌∙◌, arith, append-nil, length-append}
use Rattle.std.specs.declared.cmp.Ordering.{Ordering}
use Rattle.std.specs.declared.cmp.Ordering.TheVariants.{Equal}
use Rattle.std.specs.Cmp.{IsTotalOrder}
use Rattle.std.specs.List.{items_where_true}
use Rattle.std.specs.List.Retain.{ReturnsInTurn}
use Rattle.key_index_flat.specs.Content.{Content, IsLawful, list_at, with_list}
use Rattle.key_index_flat.specs.Retention.{AsksBehind, AsksInTurn, AsksWith}
use Rattle.key_index_flat.specs.Storage.{list_left, list_of, RetainsTail}
use Rattle.key_index_flat.specs.declared.index.storage.tails.TailRetained.{TailRetained}
use Rattle.key_index_flat.proofs.closures.TurnLemmas.{asked_same, asks_behind, few_kept, held_answers, kept_few, some_taken}
use Rattle.key_index_flat.proofs.content.ContentLemmas.{with_list-twice}
use Rattle.key_index_flat.proofs.runs.CursorLemmas.{list_at_edit}
use Rattle.std.proofs.lemmas.List.Edits.{insert_end}

module _ {K V : Type 0} {cmp : K → K → Ordering} (o : IsTotalOrder cmp) (c mid : Content K V) (k : K) (v : V) (at : ℕ)
    (end : at ≡ length (list_at cmp c k)) (put : mid ≡ with_list cmp c k (insert (list_at cmp c k) at v)) where
  list_put : list_at cmp mid k ≡ list_at cmp c k ++ v ∷ []
  list_put = list_at_edit o _ _ _ _ put ∙ ap (λ n. insert (list_at cmp c k) n v) end ∙ insert_end (list_at cmp c k) v

  pub taken_put : ((x y : K) → cmp x y ≡ Equal → x ≡ y) → IsLawful cmp c → (kept : List V) (new : Content K V) → new ≡ with_list cmp mid k kept → new ≡ with_list cmp c k kept
  taken_put exact lawful kept new is = is ∙ ap (λ d. with_list cmp d k kept) put ∙ with_list-twice o exact c k (insert (list_at cmp c k) at v) kept lawful

  -- taken: of the held values and the new one
  module _ {F : Type 0} (R : F → V → Bool → F → Type 0) (f : F) (kept : List V) (stays : Bool) (taken : ℕ)
      (asked : AsksInTurn R f true (list_at cmp mid k) kept stays) (counts : taken + length kept ≡ length (list_at cmp mid k)) where
    asked_put : AsksInTurn R f true (list_at cmp c k ++ v ∷ []) kept stays
    asked_put = subst (λ (l : List V). AsksInTurn R f true l kept stays) list_put asked

    counts_put : length (list_at cmp c k) + 1 ≡ taken + length kept
    counts_put = sym (counts ∙ ap (λ l. length l) list_put ∙ length-append (list_at cmp c k) (v ∷ []))

    pub one_went : stays ≡ false → 1 ≤ taken
    one_went = some_taken R f (list_at cmp c k) v kept stays taken asked_put counts_put

    -- gone: of the held values alone
    pub asks_put : (gone : ℕ) → taken ≡ gone + cond stays 0 1 → AsksBehind R f (list_at cmp c k) v kept gone
    asks_put = asks_behind R f (list_at cmp c k) v kept stays taken asked_put counts_put

-- where no value was held, and the new one was put in
module _ {K V : Type 0} {cmp : K → K → Ordering} (o : IsTotalOrder cmp) (c mid : Content K V) (k : K) (v : V) (none : list_at cmp c k ≡ [])
    (put : mid ≡ with_list cmp c k (v ∷ list_at cmp c k)) where
  pub list_alone : list_at cmp mid k ≡ v ∷ []
  list_alone = list_at_edit o _ _ _ _ put ∙ ap (λ l. v ∷ l) none

  pub first_alone : (x : V) → slice_get (list_at cmp mid k) 0 ≡ Some x → x ≡ v
  first_alone x at = let some : Some x ≡ Some v = sym at ∙ ap (λ l. slice_get l 0) list_alone in cc

  pub taken_alone : ((x y : K) → cmp x y ≡ Equal → x ≡ y) → IsLawful cmp c → (stays : Bool) (new : Content K V) → new ≡ cond stays mid (with_list cmp mid k [])
      → new ≡ with_list cmp c k (cond stays (v ∷ []) [])
  taken_alone exact lawful true new is = is ∙ put ∙ ap (λ l. with_list cmp c k (v ∷ l)) none
  taken_alone exact lawful false new is = is ∙ ap (λ d. with_list cmp d k []) put ∙ with_list-twice o exact c k (v ∷ list_at cmp c k) [] lawful

  pub asks_alone : {F : Type 0} (R : F → V → Bool → F → Type 0) (f next : F) (stays : Bool) → R f v stays next → AsksBehind R f (list_at cmp c k) v (cond stays (v ∷ []) []) 0
  asks_alone R f next true said =
      subst (λ (l : List V). AsksBehind R f l v (v ∷ []) 0) (sym none) (record { answers = true ∷ []; last = next; long = refl; asked = (next, said, refl); kept = refl; taken = refl })
  asks_alone R f next false said =
      subst (λ (l : List V). AsksBehind R f l v [] 0) (sym none) (record { answers = false ∷ []; last = next; long = refl; asked = (next, said, refl); kept = refl; taken = refl })

-- where all of the held values and of a new one, if there is one, were asked on: how many of the held ones stay
pub record Stay {F V : Type 0} (R : F → V → Bool → F → Type 0) (f : F) (held : List V) (new : Option V) (kept : List V) (stays : Bool) : Type 0 where
  pub count : ℕ
  pub few : count ≤ length held
  pub left : length kept ≡ count + cond (is_some new && stays) 1 0
  pub asks : (gone : ℕ) → gone + count ≡ length held → AsksWith R f held new kept gone

module _ {F V : Type 0} (R : F → V → Bool → F → Type 0) (f : F) (held kept : List V) where
  stay_with : (new : Option V) (stays : Bool) → AsksInTurn R f true (held ++ list_of new []) kept stays → Stay R f held new kept stays
  stay_with None stays asked =
      let same = append-nil held in
      let is = asked.4 ∙ ap (λ l. items_where_true asked.0 l) same in
      let long = ap (λ l. length l) is in
      record {
        count = length (items_where_true asked.0 held);
        few = kept_few asked.0 held;
        left = omega (arith, long);
        asks = λ gone e. ((asked.0, asked.1, asked.2 ∙ ap (λ l. length l) same, subst (λ (l : List V). ReturnsInTurn R f asked.0 l asked.1) same asked.3, is), omega (arith, e, long));
      }
  stay_with (Some v) stays asked =
      let all = asked.2 ∙ length-append held (v ∷ []) in
      record {
        count = length (items_where_true asked.0 held);
        few = kept_few asked.0 held;
        left = ap (λ l. length l) asked.4 ∙ held_answers true asked.0 held v all ∙ ap (λ b. length (items_where_true asked.0 held) + cond b 1 0) (sym asked.5);
        asks = λ gone e. record { answers = asked.0; last = asked.1; long = all; asked = asked.3; kept = asked.4; taken = e };
      }

  pub few_with : (new : Option V) (gone : ℕ) → AsksWith R f held new kept gone → length kept ≤ length held + cond (is_some new) 1 0
  few_with None gone asks = let all = asks.1 in omega (arith, all)
  few_with (Some v) gone asks = few_kept asks

module _ {F V : Type 0} (R : F → V → Bool → F → Type 0) (f : F) (held : List V) (head : V) (t later : List V) (new : Option V) (r : TailRetained V) (is : held ≡ head ∷ t)
    (told : RetainsTail R f head (t ++ list_of new []) later r) where
  pub held_behind : r.had + cond (not (is_some new)) 1 0 ≡ length held
  held_behind =
      let long = ap (λ l. length l) is in
      let more = length-append t (list_of new []) in
      let one : length (list_of new []) + cond (not (is_some new)) 1 0 ≡ 1 = elim new as (λ n. length (list_of n []) + cond (not (is_some n)) 1 0 ≡ 1) [ None ↦ refl | Some v ↦ refl ] in
      omega (arith, long, more, one, told.had)

  pub stay_behind : Stay R f held new (list_left r.head_stays head r.next later) r.stays
  stay_behind = stay_with R f held _ new r.stays (asked_same R f true _ _ _ _ r.stays told.asked (ap (λ l. l ++ list_of new []) (sym is)) refl)
