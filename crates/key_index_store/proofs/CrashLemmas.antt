-- On what a crash leaves.
--     same_bytes     bytes that are seen are those
--     left_known     behind a header, where all that may be left is known
--     left_alone     after a call, where before it only one log could be left that is known
--     fresh_seen, fresh_left  of a file on which no call was made
--     known_before   a log that a crash leaves after a call, where before it only one could be left
use Rattle.std.proofs.Common.{◌≡◌, ◌⊎◌, ℕ, List, [], Option, Some, None, cond, drop, inl, inr, refl, sym, ap, subst, ◌∙◌}
use Rattle.std.specs.Cmp.{tied_itself}
use Rattle.std.specs.Cmp.Lexicographic.{nat_list_cmp_total}
use Rattle.std.specs.FinMap.{get, get-insert, insert}
use Rattle.std.specs.Option.{unwrap_or}
use Rattle.std.specs.Ordering.{is_eq}
use Rattle.key_index_store.specs.Device.{Adds, IsFirst, IsLeft}
use Rattle.key_index_store.specs.Header.{Behind, IsHeaded, behind}
use Rattle.key_index_store.proofs.HeaderLemmas.{headed_behind}
use Rattle.key_index_store.specs.History.{Noted, may_leave_after, seen_after}
use Rattle.key_index_store.specs.Record.{Entry}
use Rattle.key_index_store.specs.Stored.{IsBeforeOrAfter, Values, after_record, held_by}

pub same_bytes : (a b : List ℕ) → Some a ≡ Some b → a ≡ b
same_bytes a b e = ap (λ o. unwrap_or o a) e

module _ (old is log : List ℕ) (r : Entry) (same : old ≡ is) where
  pub known_before : (log ≡ is) ⊎ IsBeforeOrAfter old r log → (held_by log ≡ held_by is) ⊎ (held_by log ≡ after_record (held_by is) r)
  known_before (inl before) = inl (ap held_by before)
  known_before (inr (inl before)) = inl (before ∙ ap held_by same)
  known_before (inr (inr after)) = inr (after ∙ ap (λ l. after_record (held_by l) r) same)

abbrev Known : (List ℕ → Type 0) → Option (List ℕ) → Type 0
Known P c = (log : List ℕ) × (c ≡ Some log) × P log

pub left_known : (may : Option (List ℕ) → Type 0) (bytes : List ℕ) (P : List ℕ → Type 0) → ((c : Option (List ℕ)) → Behind may c → Known P c) → IsLeft may bytes
    → IsHeaded bytes × P (drop 16 bytes)
left_known may bytes P known (inl left) =
    let told = known (behind (Some bytes)) (Some bytes, left, refl) in
    let headed = headed_behind bytes told.0 (sym told.1) in
    (headed.0, subst P headed.1 told.2)
left_known may bytes P known (inr any) = let told = known None (None, any, refl) in let none = told.1 in absurd (cc)

pub left_alone : {before after : Option (List ℕ) → Type 0} (old : List ℕ) (r : Entry) → IsFirst old before → ¬ after None
    → Adds (IsBeforeOrAfter old r) before after → (c : Option (List ℕ)) → after c → Known (IsBeforeOrAfter old r) c
left_alone {before} {after} old r first some crash c may = elim (crash c may) [
  | inl could ↦ (elim (first c could) [
    | inl none ↦ absurd (some (subst after none may))
    | inr same ↦ (old, same, inl refl)
  ])
  | inr more ↦ more
]

-- a file on which no call was made
module _ (first : List ℕ) (calls : List Noted) (none : calls ≡ []) where
  pub fresh_seen : (bytes : List ℕ) → seen_after first calls ≡ Some bytes → first ≡ bytes
  fresh_seen bytes seen = same_bytes first bytes (ap (seen_after first) (sym none) ∙ seen)

  pub fresh_left : (c : Option (List ℕ)) → may_leave_after first calls c → c ≡ None
  fresh_left c may = subst (λ l. may_leave_after first l c) none may

pub get_put : (m : Values) (key value : List ℕ) → get (insert m key value) key ≡ Some value
get_put m key value =
    get-insert nat_list_cmp_total m key value key ∙ ap (λ o. cond (is_eq o) (Some value) (get m key)) (tied_itself nat_list_cmp_total key)
