-- Tags of places, sixteen to a group.
--     AreGroups    each group is there, and has sixteen of them
--     IsIn         the place is one of the group
use Rattle.std.specs.Prelude.{◌≡◌, ℕ, ◌+◌, ◌*◌, ◌<◌, ◌≤◌, Bool, true, false, List, length, Some, slice_get, slice_index_or}

pub record AreGroups (groups : List (List ℕ)) (filled : List Bool) : Type 0 where
  pub sixteen : (i : ℕ) (tags : List ℕ) → slice_get groups i ≡ Some tags → length tags ≡ 16
  pub full : (i : ℕ) → i < length groups → slice_index_or filled i false ≡ true

abbrev pub IsIn : ℕ → ℕ → Type 0
IsIn group place = (16 * group ≤ place) × (place < 16 * group + 16)
