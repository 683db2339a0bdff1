-- On how many keys and values there are.
--     keys_at_most                          a map of lists that are not empty has no more keys than values
--     as_many_entries                       lists of one length take as many entries
--     fits_with                             a count that gains one or none
--     left_and_gone                         of a list whose values were asked on, no others are missing
use Rattle.std.proofs.Common.{◌≡◌, ℕ, ◌+◌, ◌^◌, ◌<◌, ◌≤◌, true, false, Bool, cond, T, List, [], ◌∷◌, length, Option, Some, None, refl, ap, arith}
use Rattle.key_index_flat.specs.Content.{Content, is_filled, all_filled, item_count, key_count}
use Rattle.key_index_flat.specs.Retention.{AsksWith}
use Rattle.key_index_flat.specs.laws.Laws.{T-and_first, T-and_second}
use Rattle.key_index_flat.proofs.closures.TurnLemmas.{held_answers}
use Rattle.key_index_flat.proofs.content.ContentLemmas.{entries_for}

one_at_least : {V : Type 0} (l : List V) (n : ℕ) → T (is_filled l) → 1 + n ≤ length l + n
one_at_least [] n h = absurd h
one_at_least (v ∷ vs) n h = omega arith

pub keys_at_most : {K V : Type 0} (c : Content K V) → T (all_filled c) → key_count c ≤ item_count c
keys_at_most [] h = omega arith
keys_at_most (e ∷ es) h =
    let rest = keys_at_most es (T-and_second (is_filled e.1) _ h) in
    let one = one_at_least e.1 (item_count es) (T-and_first (is_filled e.1) _ h) in omega (arith, rest, one)

pub as_many_entries : {V : Type 0} (l m : List V) → length l ≡ length m → entries_for l ≡ entries_for m
as_many_entries [] [] e = refl
as_many_entries [] (v ∷ vs) e = absurd (omega (arith, e))
as_many_entries (v ∷ vs) [] e = absurd (omega (arith, e))
as_many_entries (v ∷ vs) (w ∷ ws) e = refl

-- a count that gains one where that is said
pub fits_with : (more : Bool) (n : ℕ) → (more ≡ true → n + 1 < 2 ^ 64) → n < 2 ^ 64 → n + cond more 1 0 < 2 ^ 64
fits_with true n room small = room refl
fits_with false n room small = omega (arith, small)

-- where the values of a list were asked on, and a new one, if there is one
pub left_and_gone : {F V : Type 0} (ask : F → V → Bool → F → Type 0) (f : F) (held : List V) (new : Option V) (kept : List V) (gone : ℕ)
    → AsksWith ask f held new kept gone → length held ≤ length kept + gone
left_and_gone ask f held None kept gone asks = let all = asks.1 in omega (arith, all)
left_and_gone ask f held (Some v) kept gone asks =
    let all = held_answers true asks.answers held v asks.long in
    let same = ap (λ l. length l) asks.kept in
    let taken = asks.taken in omega (arith, all, same, taken)
