-- The index that a reader reads, by the words that Held has for that of a handle.
use Rattle.std.specs.Prelude.{◌≡◌, ℕ, List, IsSome}
use Rattle.key_index_c.specs.Any.{HasLists, HasPositions}
use Rattle.key_index_c.specs.Held.{kind_of_held, positions_of_held, view_of_held}
use Rattle.key_index_c.specs.Positions.{Positions}
use Rattle.key_index_c.specs.Views.{AnyView, values_under}
use Rattle.key_index_c.specs.declared.reader.Reader.{Reader}

abbrev pub view_in : Reader → AnyView
view_in reader = view_of_held reader.held

abbrev pub values_in : Reader → List ℕ → List ℕ
values_in reader key = values_under (view_in reader) key

abbrev pub positions_in : Reader → Positions ℕ
positions_in reader = positions_of_held reader.held

abbrev pub kind_in : Reader → ℕ
kind_in reader = kind_of_held reader.held

abbrev pub IsMade : Reader → Type 0
IsMade reader = IsSome reader.held × HasLists (kind_in reader)

abbrev pub IsImmutable : Reader → Type 0
IsImmutable reader = IsSome reader.held × HasPositions (kind_in reader)

abbrev pub Keeps : Reader → Reader → Type 0
Keeps old new = new.held ≡ old.held
