-- A closure that is asked once on each value of a list, in order.
--     last_answer   the last of the answers, and b where there is none
--     AsksInTurn    the closure is asked on each of xs, ys are those that it said true of, and `stays` is its last answer
--     AsksBehind    it is asked on each of the held values and on v last, and left are those that it said true of; so many of the
--                   held ones are gone
--     AsksWith      the same with a new value or none
use Rattle.std.specs.Prelude.{◌≡◌, ℕ, ◌+◌, Bool, List, [], ◌∷◌, ◌++◌, length, Option, Some, None}
use Rattle.std.specs.List.{items_where_true}
use Rattle.std.specs.List.Retain.{IsFiltered, ReturnsInTurn}

abbrev pub last_answer : Bool → List Bool → Bool
last_answer b [] = b
last_answer b (a ∷ answers) = last_answer a answers

-- before: the answer that counts as the last where nothing is asked
abbrev pub AsksInTurn : {F V : Type 0} → (F → V → Bool → F → Type 0) → F → Bool → List V → List V → Bool → Type 0
AsksInTurn {F = F} ask f before xs ys stays =
    (answers : List Bool) × (last : F) × (length answers ≡ length xs) × ReturnsInTurn ask f answers xs last
    × (ys ≡ items_where_true answers xs) × (stays ≡ last_answer before answers)

pub record AsksBehind {F V : Type 0} (ask : F → V → Bool → F → Type 0) (f : F) (held : List V) (v : V) (left : List V)
    (gone : ℕ) : Type 0 where
  pub answers : List Bool
  pub last : F
  pub long : length answers ≡ length held + 1
  pub asked : ReturnsInTurn ask f answers (held ++ v ∷ []) last
  pub kept : left ≡ items_where_true answers (held ++ v ∷ [])
  pub taken : gone + length (items_where_true answers held) ≡ length held

abbrev pub AsksWith : {F V : Type 0} → (F → V → Bool → F → Type 0) → F → List V → Option V → List V → ℕ → Type 0
AsksWith ask f held None left gone = IsFiltered ask f held left × (gone + length left ≡ length held)
AsksWith ask f held (Some v) left gone = AsksBehind ask f held v left gone
