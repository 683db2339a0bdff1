-- An index of any kind. Kinds are numbered as in C.
--     kind_of          its kind
--     HasLists         a kind has lists of values under keys; HasPositions: it has keys by position
--     is_ordered       whether a kind has an order
--     inserts_first    whether one puts a new value in front of those of its key, and not behind them
--     may_want         whether one may want memory where nothing is inserted
--     any_view         an index with lists as contracts see it; held_under: the values under a key
--     any_positions    an index with positions as contracts see it
--     slot_of          what an index of a kind makes of a key: the number of its first eight bytes, or those of its hash
--     prefix_of        how many bytes of a key pick a partition
--     IsNew            of a kind, with no values, none ever removed, and the index keys of the kind
--     IsNewImmutable   of a kind, with no positions from a start on, none ever pruned, and the index keys of the kind
use Rattle.std.specs.Prelude.{◌≡◌, ◌<◌, ℕ, Bool, nat_eq, nat_lt, if◌then◌else◌, ◌||◌, List, []}
use Rattle.std.specs.Int.{w64, to_le_bytes}
use Rattle.key_index_flat.specs.Hashing.{seeded_sha256}
use Rattle.key_index_flat.specs.Ordered as tree
use Rattle.key_index_flat.specs.Padding.{cap_number}
use Rattle.key_index_flat.specs.Unordered as hashed
use Rattle.key_index_parts.specs.Ordered as sorted_parts
use Rattle.key_index_parts.specs.Prefix.{slot_by}
use Rattle.key_index_parts.specs.Unordered as hashed_parts
use Rattle.key_index_c.specs.Positions.{IsEmpty, Positions, by_position, no_positions}
use Rattle.key_index_c.specs.Views.{AnyView, ByNumber, ByPair, no_view, values_under}
use Rattle.key_index_c.specs.declared.any.Any.{Any}
use Rattle.key_index_c.specs.declared.any.Any.TheVariants.{Unordered, Ordered, Seeded, UnorderedByOne, UnorderedByTwo, OrderedByOne, OrderedByTwo, Immutable, ImmutableSeeded}

abbrev pub kind_of : Any → ℕ
kind_of (Unordered index) = 0
kind_of (Ordered index) = 1
kind_of (Seeded index) = 2
kind_of (UnorderedByOne index) = 3
kind_of (UnorderedByTwo index) = 4
kind_of (OrderedByOne index) = 5
kind_of (OrderedByTwo index) = 6
kind_of (Immutable index) = 7
kind_of (ImmutableSeeded index) = 8

abbrev pub HasLists : ℕ → Type 0
HasLists kind = kind < 7

abbrev pub HasPositions : ℕ → Type 0
HasPositions kind = 6 < kind

abbrev pub is_ordered : ℕ → Bool
is_ordered kind = nat_eq kind 1 || nat_lt 4 kind

abbrev pub inserts_first : ℕ → Bool
inserts_first kind = nat_lt kind 5

abbrev pub may_want : ℕ → Bool
may_want kind = nat_lt 4 kind

abbrev pub any_view : Any → AnyView
any_view (Unordered index) = ByNumber (hashed.view index)
any_view (Ordered index) = ByNumber (tree.view index)
any_view (Seeded index) = ByNumber (hashed.view index)
any_view (UnorderedByOne index) = ByPair (hashed_parts.view index)
any_view (UnorderedByTwo index) = ByPair (hashed_parts.view index)
any_view (OrderedByOne index) = ByPair (sorted_parts.view index)
any_view (OrderedByTwo index) = ByPair (sorted_parts.view index)
any_view (Immutable index) = no_view
any_view (ImmutableSeeded index) = no_view

abbrev pub held_under : Any → List ℕ → List ℕ
held_under any key = values_under (any_view any) key

abbrev pub hashed_slot : ℕ → List ℕ → ℕ
hashed_slot seed key = cap_number 8 (to_le_bytes w64 (seeded_sha256 seed key))

abbrev pub slot_of : ℕ → ℕ → List ℕ → ℕ
slot_of kind seed = if nat_eq kind 2 || nat_eq kind 8 then hashed_slot seed else cap_number 8

abbrev pub any_positions : Any → Positions ℕ
any_positions (Immutable index) = by_position (λ _. cap_number 8) index
any_positions (ImmutableSeeded index) = by_position (λ translator. hashed_slot translator.0) index
any_positions (Unordered index) = no_positions
any_positions (Ordered index) = no_positions
any_positions (Seeded index) = no_positions
any_positions (UnorderedByOne index) = no_positions
any_positions (UnorderedByTwo index) = no_positions
any_positions (OrderedByOne index) = no_positions
any_positions (OrderedByTwo index) = no_positions

abbrev pub prefix_of : ℕ → ℕ
prefix_of kind = if nat_eq kind 3 || nat_eq kind 5 then 1 else 2

abbrev pub IsNew : ℕ → ℕ → ℕ → AnyView → Type 0
IsNew kind seed made (ByNumber s) =
    (made ≡ kind) × (kind < 3) × (s.content ≡ []) × (s.pruned ≡ 0) × (s.slot ≡ slot_of kind seed)
IsNew kind seed made (ByPair s) =
    (made ≡ kind) × (2 < kind) × (kind < 7) × (s.content ≡ []) × (s.pruned ≡ 0)
    × (s.slot ≡ slot_by (prefix_of kind) (cap_number 8))

abbrev pub IsNewImmutable : ℕ → ℕ → ℕ → ℕ → Positions ℕ → Type 0
IsNewImmutable kind seed start made s =
    (made ≡ kind) × HasPositions kind × (kind < 9) × IsEmpty start s × (s.slot ≡ slot_of kind seed)
