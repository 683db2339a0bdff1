-- The positions that an index holds, in the order of their index keys and, under one of them, in list order, on both sides of a place
-- in an index key's list.
--     positions_from, first_from     from the place on;  and the first of them
--     positions_before, last_before  those before it;  and the last of them
use Rattle.std.specs.Prelude.{ℕ, List, Option, ◌++◌, take, drop}
use Rattle.std.specs.declared.cmp.Ordering.{Ordering}
use Rattle.key_index_flat.specs.Neighbours.{entries_above, entries_below, first_entry, last_entry}
use Rattle.key_index_flat.specs.Values.{values_of}
use Rattle.key_index_flat.specs.View.{View, run_at}

module _ {K V : Type 0} (cmp : K → K → Ordering) where
  abbrev pub positions_from : View K V → K → ℕ → List V
  positions_from s k place = drop place (run_at cmp s k) ++ values_of (entries_above cmp s.content k)

  abbrev pub positions_before : View K V → K → ℕ → List V
  positions_before s k place = values_of (entries_below cmp s.content k) ++ take place (run_at cmp s k)

  abbrev pub first_from : View K V → K → ℕ → Option V
  first_from s k place = first_entry (positions_from s k place)

  abbrev pub last_before : View K V → K → ℕ → Option V
  last_before s k place = last_entry (positions_before s k place)
