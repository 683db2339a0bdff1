-- On a list of records from which those with a key go out.
--     without_position, without_distinct      the position of each key after it; still no two have one key
--     without_none, without_fewer             whether one went out
use Rattle.std.proofs.Common.{◌≡◌, ℕ, suc, ◌<◌, ◌≤◌, Bool, true, false, cond, not, List, [], ◌∷◌, length, map, Option, Some, None, is_some, refl, sym, ap, ◌∙◌, arith}
use Rattle.std.proofs.lemmas.Bool.{false≢true}
use Rattle.std.proofs.lemmas.Map.Keys.{IsDistinct-head, IsDistinct-tail, IsDistinct-cons}
use Rattle.std.proofs.lemmas.Map.Lookups.{exact_bytes}
use Rattle.std.proofs.lemmas.Slice.Eq.{bytes_eq-Decides}
use Rattle.std.specs.Cmp.{eq_by_cmp_equiv}
use Rattle.std.specs.Cmp.Lexicographic.{nat_list_cmp_total}
use Rattle.std.specs.List.{AllByRecursion, IsDistinct, filter}
use Rattle.std.specs.Str.{bytes_eq}
use Rattle.key_index_flat.proofs.content.ContentLemmas.{Equal-is_eq}
use Rattle.key_index_flat.proofs.entries.EntryLemmas.{not_both, same, same_itself, cond-swapped, cond-shadowed}
use Rattle.key_index.specs.Snapshot.{key_of, position_in}
use Rattle.key_index.specs.declared.snapshot.record.Record.{Record}

abbrev Distinct : List Record → Type 0
Distinct l = IsDistinct same (map key_of l)

abbrev pub records_without : List ℕ → List Record → List Record
records_without key l = filter (λ r. not (bytes_eq (key_of r) key)) l

told_apart : (x y : List ℕ) → bytes_eq x y ≡ false → same x y ≡ false
told_apart x y e =
    elim (same x y) as (λ b. same x y ≡ b → b ≡ false) [
      | true ↦ λ t. absurd (false≢true (sym e ∙ (bytes_eq-Decides x y).1 (exact_bytes x y (Equal-is_eq _ t))))
      | false ↦ λ t. refl
    ] refl

bytes_eq-same : (x y : List ℕ) → bytes_eq x y ≡ true → x ≡ y
bytes_eq-same x y e = (bytes_eq-Decides x y).0 e

nothing_left : (b : Bool) → ◌≡◌ {A = Option ℕ} None (cond b None None)
nothing_left true = refl
nothing_left false = refl

pub without_position : (a key : List ℕ) (l : List Record) → position_in a (records_without key l) ≡ cond (same a key) None (position_in a l)
without_position a key [] = nothing_left (same a key)
without_position a key (r ∷ rs) =
    elim (bytes_eq (key_of r) key) as (λ b. bytes_eq (key_of r) key ≡ b → position_in a (cond (not b) (r ∷ records_without key rs) (records_without key rs)) ≡ cond (same a key) None (cond (same a (key_of r)) (Some r.position) (position_in a rs))) [
      | true ↦ λ e. without_position a key rs ∙ cond-shadowed (same a key) None (Some r.position) (position_in a rs)
          ∙ ap (λ k. cond (same a key) None (cond (same a k) (Some r.position) (position_in a rs))) (sym (bytes_eq-same (key_of r) key e))
      | false ↦ λ e. ap (cond (same a (key_of r)) (Some r.position)) (without_position a key rs)
          ∙ cond-swapped (same a (key_of r)) (same a key) (Some r.position) None (position_in a rs) (not_both a (key_of r) key (told_apart (key_of r) key e))
    ] refl

without_apart : (k key : List ℕ) (l : List Record) → AllByRecursion (λ y. same k y ≡ false) (map key_of l) → AllByRecursion (λ y. same k y ≡ false) (map key_of (records_without key l))
without_apart k key [] h = tt
without_apart k key (r ∷ rs) h =
    elim (bytes_eq (key_of r) key) as (λ b. AllByRecursion (λ y. same k y ≡ false) (map key_of (cond (not b) (r ∷ records_without key rs) (records_without key rs)))) [
      | true ↦ without_apart k key rs h.1
      | false ↦ (h.0, without_apart k key rs h.1)
    ]

pub without_distinct : (key : List ℕ) (l : List Record) → Distinct l → Distinct (records_without key l)
without_distinct key [] d = d
without_distinct key (r ∷ rs) d =
    let rest = without_distinct key rs (IsDistinct-tail same (key_of r) (map key_of rs) d) in
    elim (bytes_eq (key_of r) key) as (λ b. Distinct (cond (not b) (r ∷ records_without key rs) (records_without key rs))) [
      | true ↦ rest
      | false ↦ IsDistinct-cons same (key_of r) (map key_of (records_without key rs)) (without_apart (key_of r) key rs (IsDistinct-head same (key_of r) (map key_of rs) d)) rest
    ]

at_most : (key : List ℕ) (l : List Record) → length (records_without key l) ≤ length l
at_most key [] = omega arith
at_most key (r ∷ rs) =
    let rest = at_most key rs in
    elim (bytes_eq (key_of r) key) as (λ b. length (cond (not b) (r ∷ records_without key rs) (records_without key rs)) ≤ suc (length rs)) [
      | true ↦ omega (arith, rest)
      | false ↦ omega (arith, rest)
    ]

-- ---- whether one went out

pub without_none : (key : List ℕ) (l : List Record) → is_some (position_in key l) ≡ false → records_without key l ≡ l
without_none key [] h = refl
without_none key (r ∷ rs) h =
    elim (bytes_eq (key_of r) key) as (λ b. bytes_eq (key_of r) key ≡ b → cond (not b) (r ∷ records_without key rs) (records_without key rs) ≡ r ∷ rs) [
      | true ↦ λ e. absurd (false≢true (sym h ∙ ap (λ b. is_some (cond b (Some r.position) (position_in key rs))) (ap (same key) (bytes_eq-same (key_of r) key e) ∙ same_itself key)))
      | false ↦ λ e. ap (λ l. r ∷ l) (without_none key rs (ap (λ b. is_some (cond b (Some r.position) (position_in key rs)))
          (sym ((eq_by_cmp_equiv nat_list_cmp_total).symm key (key_of r) ∙ told_apart (key_of r) key e)) ∙ h))
    ] refl

pub without_fewer : (key : List ℕ) (l : List Record) → is_some (position_in key l) ≡ true → length (records_without key l) < length l
without_fewer key [] h = absurd (false≢true h)
without_fewer key (r ∷ rs) h =
    let most = at_most key rs in
    elim (bytes_eq (key_of r) key) as (λ b. bytes_eq (key_of r) key ≡ b → length (cond (not b) (r ∷ records_without key rs) (records_without key rs)) < suc (length rs)) [
      | true ↦ λ e. omega (arith, most)
      | false ↦ λ e.
          let apart = (eq_by_cmp_equiv nat_list_cmp_total).symm key (key_of r) ∙ told_apart (key_of r) key e in
          let rest = without_fewer key rs (ap (λ b. is_some (cond b (Some r.position) (position_in key rs))) (sym apart) ∙ h) in
          omega (arith, rest)
    ] refl
