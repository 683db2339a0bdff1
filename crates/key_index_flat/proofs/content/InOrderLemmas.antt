-- On a vector that has a list in its order or, reversed, from its end on: what a change at a place of the list is there.
--     length-in_order, in_order-twice                   as long, and turned twice the same
--     slice_set-in_order, ..                            changes at a place
--     popped_first, removed_first                       the first value, taken out of a reversed vector and of another
--     none_left                                         where there was no first value, and none is left
--     end_within                                        a place, or the end where there is none
use Rattle.std.proofs.Common.{◌≡◌, ℕ, suc, ◌-◌, ◌<◌, ◌≤◌, Bool, true, false, List, [], ◌∷◌, ◌++◌, Option, Some, None, IfNone, IfSome, is_some, option_to_list, unwrap_or, length, slice_index_or, reverse, insert, remove, slice_set, T, refl, sym, ap, subst, ◌∙◌, ⊎_elim, arith}
use Rattle.std.proofs.lemmas.Bool.{cases_lt}
use Rattle.std.proofs.lemmas.List.{length-reverse, nil_from_length, reverse-append, reverse-reverse, set-append_left}
use Rattle.std.proofs.lemmas.List.Edits.{insert_end, insert-append_left, remove-append_left}
use Rattle.std.proofs.Math.Seq.{set-append_seam}
use Rattle.key_index_flat.specs.Storage.{index_in, list_of}
use Rattle.key_index_flat.specs.Values.{in_order}

module _ {V : Type 0} where
  turned : (v : V) (vs : List V) → reverse (v ∷ vs) ≡ reverse vs ++ v ∷ []
  turned v vs = reverse-append (v ∷ []) vs

  -- an edit at a place that leaves what stands before it and behind it
  module _ (edit : List V → ℕ → List V) (last : (vs : List V) (v : V) → reverse (edit (v ∷ vs) 0) ≡ edit (reverse vs ++ v ∷ []) (length (reverse vs)))
      (behind : (v : V) (vs : List V) (n : ℕ) → edit (v ∷ vs) (suc n) ≡ v ∷ edit vs n) (before : (vs : List V) (v : V) (n : ℕ) → n < length vs → edit (vs ++ v ∷ []) n ≡ edit vs n ++ v ∷ []) where
    edit_reversed : (vs : List V) (place : ℕ) → place < length vs → reverse (edit vs (length vs - 1 - place)) ≡ edit (reverse vs) place
    edit_reversed [] place h = absurd (omega arith)
    edit_reversed (v ∷ vs) place h =
        let long = length-reverse vs in
        let start = ap (λ l. edit l place) (turned v vs) in
        ⊎_elim
        (λ within.
        let next : length (v ∷ vs) - 1 - place ≡ suc (length vs - 1 - place) = omega (arith, within) in
        ap (λ n. reverse (edit (v ∷ vs) n)) next ∙ ap (λ l. reverse l) (behind v vs (length vs - 1 - place)) ∙ turned v (edit vs (length vs - 1 - place))
        ∙ ap (λ l. l ++ v ∷ []) (edit_reversed vs place within) ∙ sym (start ∙ before (reverse vs) v place (omega (arith, within, long))))
        (λ past.
        let none : length (v ∷ vs) - 1 - place ≡ 0 = omega (arith, past) in
        let at_end : place ≡ length (reverse vs) = omega (arith, past, h, long) in
        ap (λ n. reverse (edit (v ∷ vs) n)) none ∙ last vs v ∙ sym (start ∙ ap (λ n. edit (reverse vs ++ v ∷ []) n) at_end))
        (cases_lt place (length vs))

  set_reversed : (vs : List V) (place : ℕ) (x : V) → place < length vs → reverse (slice_set vs (length vs - 1 - place) x) ≡ slice_set (reverse vs) place x
  set_reversed vs place x =
      edit_reversed (λ l n. slice_set l n x) (λ us v. turned x us ∙ sym (set-append_seam (reverse us) v [] x)) (λ v us n. refl) (λ us v n below. set-append_left us (v ∷ []) n x below) vs place

  remove_reversed : (vs : List V) (place : ℕ) → place < length vs → reverse (remove vs (length vs - 1 - place)) ≡ remove (reverse vs) place
  remove_reversed = edit_reversed (λ l n. remove l n) (λ us v. sym (remove_end (reverse us) v)) (λ v us n. refl) (λ us v n below. remove-append_left us (v ∷ []) n below)
    where
      remove_end : (us : List V) (v : V) → remove (us ++ v ∷ []) (length us) ≡ us
      remove_end [] v = refl
      remove_end (u ∷ us) v = ap (λ l. u ∷ l) (remove_end us v)

  inserted_last : (vs : List V) (place : ℕ) (x : V) → place ≡ length vs → reverse (insert vs (length vs - place) x) ≡ insert (reverse vs) place x
  inserted_last vs place x all =
      let none : length vs - place ≡ 0 = omega (arith, all) in
      let at_end : place ≡ length (reverse vs) = omega (arith, all, length-reverse vs) in
      ap (λ n. reverse (insert vs n x)) none ∙ turned x vs ∙ sym (ap (λ n. insert (reverse vs) n x) at_end ∙ insert_end (reverse vs) x)

  insert_reversed : (vs : List V) (place : ℕ) (x : V) → place ≤ length vs → reverse (insert vs (length vs - place) x) ≡ insert (reverse vs) place x
  insert_reversed [] place x h = inserted_last [] place x (omega (arith, h))
  insert_reversed (v ∷ vs) place x h =
      ⊎_elim
      (λ less.
      let within : place ≤ length vs = omega (arith, less) in
      let next : length (v ∷ vs) - place ≡ suc (length vs - place) = omega (arith, within) in
      ap (λ n. reverse (insert (v ∷ vs) n x)) next ∙ turned v (insert vs (length vs - place) x) ∙ ap (λ l. l ++ v ∷ []) (insert_reversed vs place x within)
      ∙ sym (ap (λ l. insert l place x) (turned v vs) ∙ insert-append_left (reverse vs) (v ∷ []) place x (omega (arith, within, length-reverse vs))))
      (λ all. inserted_last (v ∷ vs) place x (omega (arith, all, h)))
      (cases_lt place (length (v ∷ vs)))

  pub length-in_order : (r : Bool) (vs : List V) → length (in_order r vs) ≡ length vs
  length-in_order true vs = length-reverse vs
  length-in_order false vs = refl

  pub in_order-twice : (r : Bool) (vs : List V) → in_order r (in_order r vs) ≡ vs
  in_order-twice true vs = reverse-reverse vs
  in_order-twice false vs = refl

  pub slice_set-in_order : (r : Bool) (vs : List V) (place : ℕ) (x : V) → place < length vs → in_order r (slice_set vs (index_in r (length vs - 1) place) x) ≡ slice_set (in_order r vs) place x
  slice_set-in_order true vs place x h = set_reversed vs place x h
  slice_set-in_order false vs place x h = refl

  pub remove-in_order : (r : Bool) (vs : List V) (place : ℕ) → place < length vs → in_order r (remove vs (index_in r (length vs - 1) place)) ≡ remove (in_order r vs) place
  remove-in_order true vs place h = remove_reversed vs place h
  remove-in_order false vs place h = refl

  pub insert-in_order : (r : Bool) (vs : List V) (place : ℕ) (x : V) → place ≤ length vs → in_order r (insert vs (index_in r (length vs) place) x) ≡ insert (in_order r vs) place x
  insert-in_order true vs place x h = insert_reversed vs place x h
  insert-in_order false vs place x h = refl

pub end_within : (place : Option ℕ) (n : ℕ) → IfSome place (λ at. at ≤ n) → unwrap_or place n ≤ n
end_within None n h = omega arith
end_within (Some at) n h = h

module _ {V : Type 0} where
  pub popped_first : (vs ws : List V) (r : Option V) → vs ≡ ws ++ option_to_list r → (0 < length vs → is_some r ≡ true) → list_of r (reverse ws) ≡ reverse vs
  popped_first vs ws (Some x) left some = sym (ap (λ l. reverse l) left ∙ reverse-append ws (x ∷ []))
  popped_first [] ws None left some = refl
  popped_first (y ∷ vs) ws None left some = absurd (subst T (sym (some (omega arith))) tt)

  pub removed_first : (vs : List V) (x : V) → 0 < length vs → x ≡ slice_index_or vs 0 x → x ∷ remove vs 0 ≡ vs
  removed_first [] x some is = absurd (omega (arith, some))
  removed_first (y ∷ vs) x some is = ap (λ z. z ∷ vs) is

  pub none_left : (first : Bool) (r : Option V) (vs : List V) → IfNone r (vs ≡ []) → length (list_of r (in_order first vs)) ≡ 0 → in_order first vs ≡ []
  none_left first (Some x) vs none e = absurd (omega (arith, e))
  none_left first None vs none e = nil_from_length (in_order first vs) (length-in_order first vs ∙ ap (λ l. length l) none)
