-- A test that answers by a mask.
use Rattle.std.proofs.Common.{◌≡◌, ℕ, Bool, List, [], ◌∷◌, length, refl, arith}
use Rattle.std.specs.Prelude.{map}
use Rattle.std.specs.List.Retain.{ReturnsInTurn}
use Rattle.key_index_c.specs.Changes.{is_kept}

-- a test that answers by what is left of a mask, from its start on
pub answers_by_mask : {F X : Type 0} (R : F → X → Bool → F → Type 0) (rest : F → List ℕ)
    (step : (f : F) (x : X) (b : Bool) (f' : F) (byte : ℕ) (left : List ℕ) → R f x b f' → rest f ≡ byte ∷ left
    → (b ≡ is_kept byte) × (rest f' ≡ left))
    → (mask : List ℕ) (answers : List Bool) (xs : List X) (p q : F) → rest p ≡ mask → length answers ≡ length xs
    → length mask ≡ length xs → ReturnsInTurn R p answers xs q → answers ≡ map is_kept mask
answers_by_mask R rest step [] [] xs p q is long whole told = refl
answers_by_mask R rest step [] (b ∷ bs) [] p q is long whole told = cc
answers_by_mask R rest step [] (b ∷ bs) (x ∷ xs) p q is long whole told = cc
answers_by_mask R rest step (byte ∷ mask) [] [] p q is long whole told = cc
answers_by_mask R rest step (byte ∷ mask) [] (x ∷ xs) p q is long whole told = cc
answers_by_mask R rest step (byte ∷ mask) (b ∷ bs) [] p q is long whole told = cc
answers_by_mask R rest step (byte ∷ mask) (b ∷ bs) (x ∷ xs) p q is long whole told =
    let one = step p x b told.0 byte mask told.1 is in
    let more = answers_by_mask R rest step mask bs xs told.0 q one.1 (omega (arith, long)) (omega (arith, whole)) told.2 in
    cc
