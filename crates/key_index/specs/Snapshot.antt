-- A snapshot: a finite map from full keys to positions, in the order of the keys' bytes. It stands in an index as records.
use Rattle.std.specs.Prelude.{◌≡◌, ℕ, List, map, Option, Vec}
use Rattle.std.specs.FinMap.{FinMap, entries, find, from_entries}
use Rattle.std.specs.List.{IsDistinct}
use Rattle.std.specs.Ordering.{eq_by_cmp}
use Rattle.std.specs.declared.alloc.Global.{Global}
use Rattle.std.specs.declared.cmp.Ordering.{Ordering}
use Rattle.key_index_flat.specs.FullKeys.{IsFiledIn, byte_cmp}
use Rattle.key_index_flat.specs.Neighbours.{entries_above, entries_below, first_entry, last_entry}
use Rattle.key_index_flat.specs.Values.{values_of}
use Rattle.key_index_flat.specs.View.{View, run_at}
use Rattle.key_index.specs.declared.snapshot.record.Record.{Record}

-- the map
abbrev pub Positions : Type 0
Positions = FinMap byte_cmp ℕ

-- the bytes of a record's key
abbrev pub key_of : Record → List ℕ
key_of r = r.key.items

-- a record as an entry of the map
abbrev pub entry_of : Record → List ℕ × ℕ
entry_of r = (key_of r, r.position)

-- the map of some records: of those that share a key, the first one's position
abbrev pub positions_of : List Record → Positions
positions_of rs = from_entries (map entry_of rs)

-- the entry with the least key strictly above one
abbrev pub next_position : Positions → List ℕ → Option (List ℕ × ℕ)
next_position m a = first_entry (entries_above byte_cmp (entries m) a)

-- the entry with the greatest key strictly below one
abbrev pub prev_position : Positions → List ℕ → Option (List ℕ × ℕ)
prev_position m a = last_entry (entries_below byte_cmp (entries m) a)

-- the map that an index of records holds
abbrev pub positions_in : {K : Type 0} → View K Record → Positions
positions_in s = positions_of (values_of s.content)

module _ {K : Type 0} (cmp : K → K → Ordering) where
  -- each record stands under the index key of its own key, and no two have one key
  pub record IsKept (s : View K Record) : Type 0 where
    pub filed : IsFiledIn key_of cmp s
    pub once : (k : K) → IsDistinct (eq_by_cmp byte_cmp) (map key_of (run_at cmp s k))

  -- so they do, and these are the entries of the map
  pub record Holds (es : List (List ℕ × ℕ)) (s : View K Record) : Type 0 where
    pub kept : IsKept s
    pub built : entries (positions_in s) ≡ es

-- ---- the bodies

-- the position of the first record that has a key
abbrev pub position_in : List ℕ → List Record → Option ℕ
position_in a l = find byte_cmp a (map entry_of l)

-- the entries of a map whose keys are vectors
abbrev pub entries_of : List (Vec ℕ Global × ℕ) → List (List ℕ × ℕ)
entries_of es = map (λ e. (e.0.items, e.1)) es
