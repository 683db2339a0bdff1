-- The index of a handle.
--     IsMade         it has one with lists: it was made, and not freed since; IsImmutable: it has one with positions
--     view_in        what one with lists holds, else nothing; values_in: what it holds under a key
--     positions_in   what one with positions holds, else nothing
--     kind_in        its kind
--     Keeps          a call left the index as it was; StaysMade: it left the handle one of the same kind
use Rattle.std.specs.Prelude.{◌≡◌, ℕ, List, Option, Some, None, IsSome}
use Rattle.key_index_c.specs.Any.{HasLists, HasPositions, any_positions, any_view, kind_of}
use Rattle.key_index_c.specs.Positions.{Positions, no_positions}
use Rattle.key_index_c.specs.Views.{AnyView, no_view, values_under}
use Rattle.key_index_c.specs.declared.any.Any.{Any}
use Rattle.key_index_c.specs.declared.handle.Handle.{Handle}

abbrev pub view_of_held : Option Any → AnyView
view_of_held None = no_view
view_of_held (Some index) = any_view index

abbrev pub view_in : Handle → AnyView
view_in handle = view_of_held handle.held

abbrev pub values_in : Handle → List ℕ → List ℕ
values_in handle key = values_under (view_in handle) key

abbrev pub positions_of_held : Option Any → Positions ℕ
positions_of_held None = no_positions
positions_of_held (Some index) = any_positions index

abbrev pub positions_in : Handle → Positions ℕ
positions_in handle = positions_of_held handle.held

abbrev pub kind_of_held : Option Any → ℕ
kind_of_held None = 0
kind_of_held (Some index) = kind_of index

abbrev pub kind_in : Handle → ℕ
kind_in handle = kind_of_held handle.held

abbrev pub IsMade : Handle → Type 0
IsMade handle = IsSome handle.held × HasLists (kind_in handle)

abbrev pub IsImmutable : Handle → Type 0
IsImmutable handle = IsSome handle.held × HasPositions (kind_in handle)

abbrev pub Keeps : Handle → Handle → Type 0
Keeps old new = new.held ≡ old.held

abbrev pub StaysMade : Handle → Handle → Type 0
StaysMade old new = IsSome new.held × (kind_in new ≡ kind_in old)
