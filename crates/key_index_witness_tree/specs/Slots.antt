-- Where the leaves of a tree stand. Of n leaves the places are n up to 2 * n, and a leaf keeps its slot while the tree grows and shrinks.
--     slot_of     the slot of the leaf at a place: half of the place's odd part, rounded down
--     place_of    of n leaves the place of that in a slot: the odd number 2 * s + 1, doubled until it is n or more
--     by_slot     a list by what stands in each slot
use Rattle.std.specs.Prelude.{ℕ, zero, suc, ◌+◌, ◌*◌, ◌/◌, ◌%◌, ◌==◌, nat_le, List, [], ◌∷◌, ◌++◌, if◌then◌else◌}

abbrev pub slot_from : ℕ → ℕ → ℕ
slot_from zero p = 0
slot_from (suc f) p = if p % 2 == 0 then slot_from f (p / 2) else p / 2

abbrev pub slot_of : ℕ → ℕ
slot_of p = slot_from p p

abbrev pub place_from : ℕ → ℕ → ℕ → ℕ
place_from n zero p = p
place_from n (suc f) p = if nat_le n p then p else place_from n f (2 * p)

abbrev pub place_of : ℕ → ℕ → ℕ
place_of n s = place_from n n (2 * s + 1)

abbrev pub by_slot : (ℕ → List ℕ) → ℕ → List (List ℕ)
by_slot f zero = []
by_slot f (suc n) = by_slot f n ++ f n ∷ []
