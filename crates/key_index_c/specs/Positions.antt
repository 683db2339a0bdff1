-- An immutable index as contracts see it: index keys by position. `s` is one before a call, and `t` what the call leaves.
--     Positions        where it starts, the index key at each position, how many positions were ever pruned, the index key of a key
--     by_position      that of an index, by what its translator makes of keys
--     IsEmpty          it has no positions, from a start on, and none was ever pruned
--     IsFree           a position isn't below the start, and has no index key
--     Refuses          what an insertion at a position may tell: 4 exactly if the position isn't free, 3 exactly if it is free and too far
--                      past the start, else 0 or 1
--     IsInserted       a key is indexed at a position; IsPruned: the positions below one are gone
--     ShowsPositions   what is told of a key: how many positions have its index key, and a buffer with these, each once
--     AreCounts        how many positions there are, where it starts, and how many were ever pruned
use Rattle.std.specs.Prelude.{◌≡◌, ◌↔◌, ◌⊎◌, ℕ, ◌+◌, ◌-◌, ◌^◌, ◌≤◌, min, max, nat_eq, nat_le, List, length, Option, Some, None, is_some, if◌then◌else◌}
use Rattle.std.specs.List.{Contains, IsDistinct, count_by, range_with_len}
use Rattle.key_index.specs.Immutable.{Log, key_at, with_key}
use Rattle.key_index.specs.Table.{HasSize}
use Rattle.key_index_c.specs.Buffer.{filled}
use Rattle.key_index_c.specs.declared.immutable.PositionCounts.{PositionCounts}

pub record Positions (K : Type 0) : Type 0 where
  pub start : ℕ
  pub keys : ℕ → Option K
  pub pruned : ℕ
  pub slot : List ℕ → K

abbrev pub by_position : {T K : Type 0} → (T → List ℕ → K) → Log T K → Positions K
by_position translated s =
    record { start = s.start; keys = key_at s; pruned = s.pruned; slot = translated s.translator }

-- that of what is no such index
abbrev pub no_positions : Positions ℕ
no_positions = record { start = 0; keys = λ _. None; pruned = 0; slot = λ _. 0 }

module _ {K : Type 0} where
  pub record IsEmpty (first : ℕ) (s : Positions K) : Type 0 where
    pub keys : (p : ℕ) → s.keys p ≡ None
    pub start : s.start ≡ first
    pub pruned : s.pruned ≡ 0

  abbrev pub IsFree : Positions K → ℕ → Type 0
  IsFree s position = (s.start ≤ position) × (s.keys position ≡ None)

  pub record Refuses (s : Positions K) (position status : ℕ) : Type 0 where
    pub bad : (status ≡ 4) ↔ (IsFree s position → ⊥)
    pub far : (status ≡ 3) ↔ (IsFree s position × (2 ^ 64 - 1 ≤ position - s.start))
    pub others : (status ≡ 0) ⊎ (status ≡ 1) ⊎ (status ≡ 3) ⊎ (status ≡ 4)

  pub record IsInserted (s : Positions K) (key : List ℕ) (position : ℕ) (t : Positions K) : Type 0 where
    pub keys : (p : ℕ) → t.keys p ≡ with_key s.keys position (s.slot key) p
    pub start : t.start ≡ s.start
    pub pruned : t.pruned ≡ s.pruned
    pub slot : t.slot ≡ s.slot

  -- how many positions below one have an index key
  abbrev pub count_below : Positions K → ℕ → ℕ
  count_below s bound = count_by (λ p. is_some (s.keys p)) (range_with_len s.start (bound - s.start))

  pub record IsPruned (s : Positions K) (bound : ℕ) (t : Positions K) : Type 0 where
    pub keys : (p : ℕ) → t.keys p ≡ (if nat_le bound p then s.keys p else None)
    pub start : t.start ≡ max s.start bound
    pub pruned : t.pruned ≡ min (s.pruned + count_below s bound) (2 ^ 64 - 1)
    pub slot : t.slot ≡ s.slot

  pub record ShowsPositions (s : Positions K) (key : List ℕ) (told : ℕ) (old new : List ℕ) : Type 0 where
    pub positions : List ℕ
    pub once : IsDistinct nat_eq positions
    pub exact : (p : ℕ) → Contains positions p ↔ (s.keys p ≡ Some (s.slot key))
    pub count : told ≡ length positions
    pub written : new ≡ filled positions old

  pub record AreCounts (s : Positions K) (told : PositionCounts) : Type 0 where
    pub items : HasSize s.keys told.items
    pub start : told.start ≡ s.start
    pub pruned : told.pruned ≡ s.pruned
