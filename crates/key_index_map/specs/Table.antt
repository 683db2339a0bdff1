-- A table of pairs in cells, with a tag for each, and sixteen places to a group, which a search compares at once: the form of Swiss tables
-- (Kulukundis, CppCon 2017) and of hashbrown.
--     hash_of         the hash of a key, by what it feeds a hasher
--     tag_of          the tag of a cell that holds a pair, by the hash of its key: the top byte, or three where that is less
--     is_held         whether a tag is that of a pair. 0 is an empty cell, 1 one whose pair was removed, 2 a place that has no cell
--     held            of some items, those whose tags say that a pair is held
--     Cells           what a table holds: a tag for each place of its groups, a pair for each cell, which means nothing where none is held,
--                     and how many more pairs there is room for
--     pairs           the pairs that it holds
--     Entries         what a map holds
--     home, home_in   the group at which a search for a hash begins
--     removed         how many cells are marked as those of removed pairs
--     AreEmpty        tags of cells without pairs
--     AreCells        what stands where: a place is filled just where its tag is that of a pair, each pair's tag is that of its key, and
--                     a search for its key comes to its group; keys differ
--     IsAt, NoneIn    the pair with a key stands in a cell; in none of a range
--     Found, Seen     what a search through groups answers, and a look at the first of them alone
--     IsFirstFree, IsEmptyIn, IsTagWithout    which cell is taken, an empty place, which tag is left behind
--     Updates, Writes    what a call does to the pairs
use Rattle.std.specs.Prelude.{◌≡◌, ◌≢◌, ℕ, zero, suc, ◌+◌, ◌*◌, ◌-◌, ◌/◌, ◌^◌, ◌<◌, ◌≤◌, Bool, true, false, nat_le, if◌then◌else◌, max, List, [], ◌∷◌, length, Option, Some, None, slice_get, slice_index, slice_index_or, bit_and, nat_eq, ⊤}
use Rattle.std.specs.List.{fold, count_by, IsDistinct}
use Rattle.std.specs.Map.{keys_of, lookup}
use Rattle.std.specs.Option.{IsSome}
use Rattle.std.specs.Hash.FoldHasher as hasher
use Rattle.key_index_map.specs.Tags.{IsIn}
use Rattle.key_index_map.specs.declared.map.Contents.{Contents}
use Rattle.key_index_map.specs.declared.map.Contents.TheVariants.{Nothing, Reserved, Filled}
use Rattle.key_index_map.specs.declared.table.Search.{Search}
use Rattle.key_index_map.specs.declared.table.Search.TheVariants.{Found as Here, Absent, Onward}

unfoldable pub hash_of : List (List ℕ) → ℕ
hash_of input = hasher.finish (fold hasher.write hasher.initial input)

abbrev pub tag_of : ℕ → ℕ
tag_of hash = max (hash / 2 ^ 56) 3

abbrev pub is_held : ℕ → Bool
is_held tag = nat_le 3 tag

abbrev pub held : {X : Type 0} → List ℕ → List X → List X
held [] items = []
held (t ∷ ts) [] = []
held (t ∷ ts) (x ∷ xs) = if is_held t then x ∷ held ts xs else held ts xs

pub record Cells (K V : Type 0) : Type 0 where
  pub tags : List ℕ
  pub items : List (K × V)
  pub spare : ℕ

abbrev pub pairs : {K V : Type 0} → Cells K V → List (K × V)
pairs c = held c.tags c.items

-- the pairs with another value for one of them
abbrev pub set_value_at : {K V : Type 0} → List (K × V) → ℕ → V → List (K × V)
set_value_at [] i w = []
set_value_at (e ∷ es) zero w = (e.0, w) ∷ es
set_value_at (e ∷ es) (suc i) w = e ∷ set_value_at es i w

-- what a map holds, and how many more keys there is room for
pub record Entries (K V : Type 0) : Type 0 where
  pub entries : List (K × V)
  pub spare : ℕ

-- by its table, or, without one, by the room that it reserved, if it did
abbrev pub entries_of : {K V : Type 0} → Contents ℕ (Cells K V) → Entries K V
entries_of Nothing = record { entries = []; spare = 0 }
entries_of (Reserved room) = record { entries = []; spare = room }
entries_of (Filled c) = record { entries = pairs c; spare = c.spare }

-- there is no table yet
abbrev pub IsUnfilled : {K V : Type 0} → Contents ℕ (Cells K V) → Type 0
IsUnfilled Nothing = ⊤
IsUnfilled (Reserved room) = ⊤
IsUnfilled (Filled c) = ⊥

abbrev pub with_value : {K V : Type 0} → Cells K V → ℕ → V → Cells K V
with_value c cell w = record { tags = c.tags; items = set_value_at c.items cell w; spare = c.spare }

-- how many pairs so many cells may have
abbrev pub limit : ℕ → ℕ
limit cells = if nat_le cells 16 then cells else cells / 8 * 7

abbrev pub home : ℕ → ℕ → ℕ
home groups hash = bit_and hash (groups - 1)

-- the same of a table
abbrev pub home_in : {K V : Type 0} → Cells K V → ℕ → ℕ
home_in c hash = home (length c.tags / 16) hash

-- how many cells are marked as those of removed pairs
abbrev pub removed : List ℕ → ℕ
removed tags = count_by (λ t. nat_eq t 1) tags

-- no place of the group is empty
abbrev pub IsFull : List ℕ → ℕ → Type 0
IsFull tags group = (place : ℕ) → 16 * group ≤ place → place < 16 * group + 16 → slice_index tags place ≢ 0

-- a search that begins at one group comes to another: on to the last one, and then from the first
pub record Reaches (tags : List ℕ) (groups start group : ℕ) : Type 0 where
  pub ahead : start ≤ group → (g : ℕ) → start ≤ g → g < group → IsFull tags g
  pub round : group < start → (g : ℕ) → start ≤ g → g < groups → IsFull tags g
  pub past : group < start → (g : ℕ) → g < group → IsFull tags g

-- so many cells are empty, and the other places of their groups are none
pub record AreEmpty (tags : List ℕ) (groups cells : ℕ) : Type 0 where
  pub some : 0 < cells
  pub sized : length tags ≡ 16 * groups
  pub enough : cells ≤ 16 * groups
  pub empty : (i : ℕ) → i < cells → slice_index tags i ≡ 0
  pub beyond : (i : ℕ) → cells ≤ i → i < length tags → slice_index tags i ≡ 2

pub record AreCells {K V : Type 0} (eq : K → K → Bool) (input : K → List (List ℕ)) (tags : List ℕ)
    (items : List (K × V)) (filled : List Bool)
    (groups len left : ℕ) : Type 0 where
  pub some : 0 < groups
  pub sized : length tags ≡ 16 * groups
  pub within : length items ≤ 16 * groups
  pub any : 0 < length items
  pub beyond : (i : ℕ) → length items ≤ i → i < 16 * groups → slice_index tags i ≡ 2
  pub cells : (i : ℕ) → i < length items → slice_index tags i ≢ 2
  pub taken : (i : ℕ) → i < length items → slice_index_or filled i false ≡ is_held (slice_index tags i)
  pub tagged : (i : ℕ) (e : K × V) → slice_get items i ≡ Some e → 3 ≤ slice_index tags i
      → slice_index tags i ≡ tag_of (hash_of (input e.0))
  pub reached : (i : ℕ) (e : K × V) → slice_get items i ≡ Some e → 3 ≤ slice_index tags i
      → (group : ℕ) → 16 * group ≤ i → i < 16 * group + 16
      → Reaches tags groups (home groups (hash_of (input e.0))) group
  pub distinct : IsDistinct eq (keys_of (held tags items))
  pub counted : len ≡ length (held tags items)
  pub room : left + len + removed tags ≤ length items

-- the places of the cells from one on hold the pairs that their tags tell of, and no other
pub record AreTaken {X : Type 0} (tags : List ℕ) (items : List X) (filled : List Bool) (from : ℕ) : Type 0 where
  pub long : length items ≤ length tags
  pub taken : (i : ℕ) → from ≤ i → i < length items → slice_index_or filled i false ≡ is_held (slice_index tags i)

-- the pair with the key stands in the cell
pub record IsAt {K V : Type 0} (eq : K → K → Bool) (c : Cells K V) (cell : ℕ) (k : K) : Type 0 where
  pub within : cell < length c.items
  pub holds : 3 ≤ slice_index c.tags cell
  pub pair : (e : K × V) → slice_get c.items cell ≡ Some e → eq k e.0 ≡ true

-- no cell of a range has a pair with the key
abbrev pub NoneIn : {K V : Type 0} → (K → K → Bool) → Cells K V → ℕ → ℕ → K → Type 0
NoneIn {K} {V} eq c from to k =
    (i : ℕ) (e : K × V) → from ≤ i → i < to → slice_get c.items i ≡ Some e → 3 ≤ slice_index c.tags i
    → eq k e.0 ≡ false

-- a search through some groups ended at one with an empty cell, the place, and found no pair with the key so far
pub record Stopped {K V : Type 0} (eq : K → K → Bool) (c : Cells K V) (from to : ℕ) (k : K) (place : ℕ) : Type 0 where
  pub group : ℕ
  pub after : from ≤ group
  pub before : group < to
  pub in_group : (16 * group ≤ place) × (place < 16 * group + 16)
  pub empty : slice_index c.tags place ≡ 0
  pub none : NoneIn eq c (16 * from) (16 * group + 16) k

-- what a search through some groups answers
abbrev pub Found : {K V : Type 0} → (K → K → Bool) → Cells K V → ℕ → ℕ → K → Search → Type 0
Found eq c from to k (Here cell) = IsAt eq c cell k
Found eq c from to k (Absent cell) = Stopped eq c from to k cell
Found eq c from to k Onward = NoneIn eq c (16 * from) (16 * to) k

-- a cell with no pair, at which a search from a group ends
pub record IsFree {K V : Type 0} (c : Cells K V) (from cell : ℕ) : Type 0 where
  pub within : cell < length c.items
  pub free : slice_index c.tags cell < 2
  pub group : ℕ
  pub in_group : (16 * group ≤ cell) × (cell < 16 * group + 16)
  pub after : from ≤ group
  pub full : (g : ℕ) → from ≤ g → g < group → IsFull c.tags g

-- no cell of a range is free
abbrev pub NoneFree : {K V : Type 0} → Cells K V → ℕ → ℕ → Type 0
NoneFree c from to = (cell : ℕ) → from ≤ cell → cell < to → 2 ≤ slice_index c.tags cell

abbrev pub IsFreeIn : {K V : Type 0} → Cells K V → ℕ → ℕ → Option ℕ → Type 0
IsFreeIn c from to (Some cell) = IsFree c from cell × (cell < 16 * to)
IsFreeIn c from to None = NoneFree c (16 * from) (16 * to)

-- a free cell that a search from a group comes to
pub record IsFirstFree {K V : Type 0} (c : Cells K V) (home cell : ℕ) : Type 0 where
  pub within : cell < length c.items
  pub free : slice_index c.tags cell < 2
  pub reached : (groups : ℕ) → length c.tags ≡ 16 * groups → (group : ℕ) → 16 * group ≤ cell → cell < 16 * group + 16
      → Reaches c.tags groups home group

-- an empty place of a group
abbrev pub IsEmptyIn : {K V : Type 0} → Cells K V → ℕ → ℕ → Type 0
IsEmptyIn c group place = IsIn group place × (slice_index c.tags place ≡ 0)

-- what a look at the first group of a search tells
abbrev pub Seen : {K V : Type 0} → (K → K → Bool) → Cells K V → ℕ → K → Search → Type 0
Seen eq c hash k (Here cell) = IsAt eq c cell k × IsSome (lookup (eq k) (pairs c)) × IsIn (home_in c hash) cell
Seen eq c hash k (Absent cell) =
    (lookup (eq k) (pairs c) ≡ None) × IsFirstFree c (home_in c hash) cell × IsEmptyIn c (home_in c hash) cell
Seen eq c hash k Onward = ⊤

-- the tag that a cell of a group has without its pair: 0 only where the group has another empty cell
abbrev pub IsTagWithout : {K V : Type 0} → Cells K V → ℕ → ℕ → Type 0
IsTagWithout c group tag = (tag < 2) × (tag ≡ 0 → IsFull c.tags group → ⊥)

-- new has w at the key k (None: nothing), and what old has at each other one
pub record Updates {K V : Type 0} (eq : K → K → Bool) (old new : List (K × V)) (k : K) (w : Option V) : Type 0 where
  pub at : lookup (eq k) new ≡ w
  pub others : (q : K) → eq k q ≡ false → lookup (eq q) new ≡ lookup (eq q) old

-- the key k has another value
pub record Writes {K V : Type 0} (eq : K → K → Bool) (old new : List (K × V)) (k : K) (w : V) : Type 0 where
  pub updates : Updates eq old new k (Some w)
  pub as_long : length new ≡ length old
