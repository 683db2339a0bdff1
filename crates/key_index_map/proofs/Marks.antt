-- On the marks of removed pairs.
--     removed_set              how many there are, once a cell has another tag
--     free_mark, held_mark     a free cell is empty or has one, a cell with a pair has none
--     no_marks                 there are none where no cell has one
use Rattle.std.proofs.Common.{◌≡◌, ◌≢◌, ℕ, zero, suc, ◌+◌, ◌<◌, ◌≤◌, cond, nat_eq, List, [], ◌∷◌, length, slice_set, slice_index, refl, ap, ◌∙◌, arith}
use Rattle.std.proofs.lemmas.Bool.{eqb-true, false_from_ne_true}
use Rattle.std.proofs.lemmas.List.Sums.{sum_by-cons, sum_by-set}
use Rattle.key_index_map.specs.Table.{removed}

pub removed_set : (ts : List ℕ) (i t : ℕ) → i < length ts → removed (slice_set ts i t) + cond (nat_eq (slice_index ts i) 1) 1 0 ≡ removed ts + cond (nat_eq t 1) 1 0
removed_set ts i t below = sum_by-set (λ x. cond (nat_eq x 1) 1 0) ts i t 0 below

no_mark : (t : ℕ) → t ≢ 1 → ◌≡◌ {A = ℕ} (cond (nat_eq t 1) 1 0) 0
no_mark t other = ap (λ b. cond {A = ℕ} b 1 0) (false_from_ne_true (nat_eq t 1) (λ same. other (eqb-true t 1 same)))

pub free_mark : (t : ℕ) → t < 2 → ◌≡◌ {A = ℕ} (cond (nat_eq t 0) 1 0 + cond (nat_eq t 1) 1 0) 1
free_mark zero low = refl
free_mark (suc zero) low = refl
free_mark (suc (suc t)) low = absurd (omega (arith, low))

pub held_mark : (t : ℕ) → 3 ≤ t → ◌≡◌ {A = ℕ} (cond (nat_eq t 1) 1 0) 0
held_mark t least = no_mark t (λ one. omega (arith, least, one))

pub no_marks : (ts : List ℕ) → ((i : ℕ) → i < length ts → slice_index ts i ≢ 1) → removed ts ≡ 0
no_marks [] none = refl
no_marks (t ∷ ts) none =
    let first = no_mark t (none 0 (omega arith)) in
    let others = no_marks ts (λ i below. none (suc i) (omega (arith, below))) in
    sum_by-cons (λ x. cond (nat_eq x 1) 1 0) t ts ∙ omega (arith, first, others)
