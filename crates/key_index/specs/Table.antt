-- The cells of a table of positions, and the maps from positions to hashes that they store. `cs` are the controls of the
-- cells, `ps` their positions, `s` a cell, `h` a hash, `p` a position, `m` a map.
--     Cells                     what a table holds, and how often a position was to be removed
--     fingerprint               the top eight bits of a hash
--     control_of                what marks a cell with a position: 0 is an empty cell, 1 one whose position was removed
--     home                      the cell at which a search for a hash begins
--     from_cell                 all cells, in the order in which a search from a cell meets them
--     marked                    of some cells in a row, those with a control, in front of the first empty one
--     places                    the cells that a search for a hash finds
--     candidates                their positions
--     position_count            how many positions there are
--     stored_at                 whether a position stands in a cell
--     with_hash, without        a map with one position more, or without one
--     Files                     the cells file a map: each position under its hash, and no other
--     Stored                    a table stores a map
--     HasSize                   how many positions a map has
--     AreCandidates             what a search for a hash may give: each position under it, once, and none of another fingerprint
--     Resolves                  a closure answers the hash of each position of a map
--     IsPut, AreCells           what putting a position in changes; how the cells are counted
use Rattle.std.specs.Prelude.{◌≡◌, ◌↔◌, ℕ, Bool, ◌+◌, ◌-◌, ◌/◌, ◌^◌, ◌<◌, ◌≤◌, ◌==◌, ◌&&◌, is_some, nat_eq, nat_le, nat_lt, List, ◌++◌, length, map, slice_index, slice_set, Option, Some, None, IsSome, if◌then◌else◌, bit_and}
use Rattle.std.specs.List.{Contains, IsDistinct, filter, find, range_with_len, take_while, count_by}

pub record Cells : Type 0 where
  pub controls : List ℕ
  pub positions : List ℕ
  pub removals : ℕ

abbrev pub fingerprint : ℕ → ℕ
fingerprint h = h / 2 ^ 56

abbrev pub control_of : ℕ → ℕ
control_of h = fingerprint h + 2

abbrev pub is_full : ℕ → Bool
is_full c = nat_le 2 c

abbrev pub is_used : ℕ → Bool
is_used c = nat_le 1 c

abbrev pub home : ℕ → ℕ → ℕ
home count h = bit_and h (count - 1)

abbrev pub from_cell : ℕ → ℕ → List ℕ
from_cell count s = range_with_len s (count - s) ++ range_with_len 0 s

abbrev pub marked : List ℕ → ℕ → List ℕ → List ℕ
marked cs c cells = filter (λ i. slice_index cs i == c) (take_while (λ i. is_used (slice_index cs i)) cells)

abbrev pub places : List ℕ → ℕ → List ℕ
places cs h = marked cs (control_of h) (from_cell (length cs) (home (length cs) h))

abbrev pub candidates : Cells → ℕ → List ℕ
candidates t h = map (slice_index t.positions) (places t.controls h)

abbrev pub position_count : Cells → ℕ
position_count t = count_by is_full t.controls

abbrev pub stored_at : Cells → ℕ → Bool
stored_at t p =
    is_some (find (λ i. is_full (slice_index t.controls i) && (slice_index t.positions i == p))
    (range_with_len 0 (length t.controls)))

abbrev pub with_hash : (ℕ → Option ℕ) → ℕ → ℕ → ℕ → Option ℕ
with_hash m p h q = if q == p then Some h else m q

abbrev pub without : (ℕ → Option ℕ) → ℕ → ℕ → Option ℕ
without m p q = if q == p then None else m q

pub record Files (cs ps : List ℕ) (m : ℕ → Option ℕ) : Type 0 where
  -- a full cell has a position of the map, and a search for its hash finds it
  pub held : (i : ℕ) → 2 ≤ slice_index cs i → (h : ℕ) × (m (slice_index ps i) ≡ Some h) × Contains (places cs h) i
  -- a position of the map has a full cell
  pub found : (p : ℕ) → IsSome (m p) → (i : ℕ) × (2 ≤ slice_index cs i) × (slice_index ps i ≡ p)
  -- and only one
  pub apart : (i j : ℕ) → 2 ≤ slice_index cs i → 2 ≤ slice_index cs j → slice_index ps i ≡ slice_index ps j → i ≡ j

abbrev pub Stored : Cells → (ℕ → Option ℕ) → Type 0
Stored t m = Files t.controls t.positions m

-- a map has so many positions
abbrev pub HasSize : {X : Type 0} → (ℕ → Option X) → ℕ → Type 0
HasSize m n = (ps : List ℕ) × IsDistinct nat_eq ps × (length ps ≡ n) × ((p : ℕ) → Contains ps p ↔ IsSome (m p))

pub record AreCandidates (m : ℕ → Option ℕ) (h : ℕ) (ps : List ℕ) : Type 0 where
  pub once : IsDistinct nat_eq ps
  pub all : (p : ℕ) → m p ≡ Some h → Contains ps p
  pub only : (p : ℕ) → Contains ps p → (other : ℕ) × (m p ≡ Some other) × (fingerprint other ≡ fingerprint h)

-- `asks p` says that the closure may be asked, and `answers p h` that it may answer h
abbrev pub Resolves : (ℕ → Type 0) → (ℕ → ℕ → Type 0) → (ℕ → Option ℕ) → Type 0
Resolves asks answers m = (p h : ℕ) → m p ≡ Some h → asks p × ((g : ℕ) → answers p g → g ≡ h)

-- a position was put into the first cell that is free as a search for its hash meets them, which may have been empty
pub record IsPut (cs ps : List ℕ) (h p : ℕ) (new_cs new_ps : List ℕ) (empty : Bool) : Type 0 where
  pub cell : ℕ
  pub first : find (λ i. nat_lt (slice_index cs i) 2) (from_cell (length cs) (home (length cs) h)) ≡ Some cell
  pub within : cell < length cs
  pub controls : new_cs ≡ slice_set cs cell (control_of h)
  pub positions : new_ps ≡ slice_set ps cell p
  pub was_empty : empty ≡ (slice_index cs cell == 0)

-- what a table keeps: as many positions as cells, of which one is empty, and how many are full or used
pub record AreCells (cs ps : List ℕ) (len used : ℕ) : Type 0 where
  pub sized : length ps ≡ length cs
  pub counted : len ≡ count_by is_full cs
  pub marked : used ≡ count_by is_used cs
  pub room : used < length cs
