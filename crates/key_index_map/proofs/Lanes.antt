-- On the lanes of a comparison.
--     lowest    where one passes, the first that does is one of them
--     apart     before the first that has a tag none has it
use Rattle.std.proofs.Common.{◌≢◌, ◌<◌, ℕ, Bool, true, false, not, List, [], ◌∷◌, ◌+◌, cond, length, get_or, map, eqb, arith}
use Rattle.std.specs.List.{prefix_len}
use Rattle.std.proofs.lemmas.Bool.{not-true, eq-eqb}
use Rattle.std.proofs.lemmas.List.Sums.{prefix_len_passes}
use lib.Lanes.{mask_l}

pub lowest : (p : ℕ → Bool) (xs : List ℕ) → 0 < mask_l (map p xs) → prefix_len (λ x. not (p x)) xs < length xs
lowest p [] some = some
lowest p (x ∷ xs) some =
    elim (p x) as (λ b. 0 < mask_l (b ∷ map p xs) → cond (not b) (1 + prefix_len (λ y. not (p y)) xs) 0 < length (x ∷ xs)) [
      | true ↦ λ _. omega arith
      | false ↦ λ more. let rest = lowest p xs (omega (arith, more)) in omega (arith, rest)
    ] some

pub apart : (xs : List ℕ) (tag k : ℕ) → k < prefix_len (λ x. not (eqb x tag)) xs → get_or xs k 0 ≢ tag
apart xs tag k below same =
    let is = prefix_len_passes (λ x. not (eqb x tag)) xs k 0 below in
    let no = not-true _ is in
    let yes = eq-eqb (get_or xs k 0) tag same in
    cc
