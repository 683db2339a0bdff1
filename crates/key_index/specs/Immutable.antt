-- What an immutable index holds: translated keys by position. `s` is an index, `k` a translated key, `p` a position.
--     Log                       the keys of the cells, from the first position on, and the cells of the table that says which of
--                               them are indexed
--     key_at                    the translated key that is indexed at a position
--     end_of                    the position behind the last cell
--     with_key                  the keys by position, with one more
--     has_key                   whether the cell of a position has a key that compares equal
--     indexed_count             how many positions are indexed, of so many from one on
--     folded                    with its upper half in the lower one
--     mixed                     a hash of which each bit has a part in all the others: two folds of its upper half around a
--                               multiplication, as in the mixers of MurmurHash3 and SplitMix64
--     mixed_hash                the hash under which the table has a key
--     hashes                    the map that the table stores: the hash of each key that is indexed
--     IsLog                     the table stores it, and no number is past 64 bits
--     ArePositions              the positions of a key, each once
--     IsReleased                cells went from the front, and their positions with them
use Rattle.std.specs.Prelude.{◌≡◌, ◌↔◌, ℕ, ◌+◌, ◌-◌, ◌*◌, ◌/◌, ◌%◌, ◌^◌, bit_xor, ◌<◌, ◌≤◌, ◌==◌, ◌&&◌, min, nat_eq, nat_le, Bool, false, List, length, slice_get, Option, Some, None, is_some, unwrap_or, if◌then◌else◌}
use Rattle.std.specs.List.{Contains, IsDistinct, count_by, range_with_len}
use Rattle.std.specs.Option.{option_map}
use Rattle.std.specs.Ordering.{is_eq}
use Rattle.std.specs.declared.cmp.Ordering.{Ordering}
use Rattle.key_index.specs.Table.{Cells, Stored, stored_at}

pub record Log (T K : Type 0) : Type 0 where
  pub translator : T
  pub start : ℕ
  pub keys : List K
  pub cells : Cells
  pub pruned : ℕ

abbrev pub with_key : {K : Type 0} → (ℕ → Option K) → ℕ → K → ℕ → Option K
with_key m p k q = if q == p then Some k else m q

abbrev pub has_key : {K : Type 0} → (K → K → Ordering) → List K → ℕ → K → ℕ → Bool
has_key cmp ks start k p = unwrap_or (option_map (λ x. is_eq (cmp x k)) (slice_get ks (p - start))) false

abbrev pub folded : ℕ → ℕ
folded n = bit_xor n (n / 2 ^ 32)

unfoldable pub mixed : ℕ → ℕ
mixed h = folded (folded h * 0xD6E8FEB86659FD93 % 2 ^ 64)

abbrev pub mixed_hash : {T K : Type 0} → (T → K → ℕ) → T → K → ℕ
mixed_hash hashed t k = mixed (hashed t k)

module _ {T K : Type 0} where
  abbrev pub key_at : Log T K → ℕ → Option K
  key_at s p = if nat_le s.start p && stored_at s.cells p then slice_get s.keys (p - s.start) else None

  abbrev pub end_of : Log T K → ℕ
  end_of s = s.start + length s.keys

  abbrev pub indexed_count : Log T K → ℕ → ℕ → ℕ
  indexed_count s p n = count_by (λ q. is_some (key_at s q)) (range_with_len p n)

  abbrev pub hashes : (T → K → ℕ) → Log T K → ℕ → Option ℕ
  hashes hashed s p = option_map (hashed s.translator) (key_at s p)

  pub record IsLog (hashed : T → K → ℕ) (s : Log T K) : Type 0 where
    pub stored : Stored s.cells (hashes hashed s)
    pub fits : end_of s ≤ 2 ^ 64
    pub pruned_fits : s.pruned < 2 ^ 64
    pub removals_fit : s.cells.removals < 2 ^ 64

  pub record ArePositions (s : Log T K) (k : K) (ps : List ℕ) : Type 0 where
    pub once : IsDistinct nat_eq ps
    pub exact : (p : ℕ) → Contains ps p ↔ (key_at s p ≡ Some k)

  pub record IsReleased (s t : Log T K) : Type 0 where
    pub translator : t.translator ≡ s.translator
    pub start : s.start ≤ t.start
    pub end : end_of t ≡ end_of s
    pub keys : (p : ℕ) → t.start ≤ p → key_at t p ≡ key_at s p
    pub pruned : t.pruned ≡ min (s.pruned + indexed_count s s.start (t.start - s.start)) (2 ^ 64 - 1)
    pub removals : t.cells.removals ≡ min (s.cells.removals + (t.start - s.start)) (2 ^ 64 - 1)
