-- A walk over the lists of a content, in the order of the keys.
--     lists_of       the lists of entries, without their keys
--     entries_from   the entries from a key on: its own, and those above it
--     lists_behind   the lists that a walk has left once it has been at a key, and none if it is at none
use Rattle.std.specs.Prelude.{List, [], map, Option, Some, None}
use Rattle.std.specs.List.{filter}
use Rattle.std.specs.declared.cmp.Ordering.{Ordering}
use Rattle.std.specs.Ordering.{is_le}
use Rattle.key_index_flat.specs.Content.{Content}
use Rattle.key_index_flat.specs.Neighbours.{entries_above}

abbrev pub lists_of : {K V : Type 0} → Content K V → List (List V)
lists_of c = map (λ e. e.1) c

module _ {K V : Type 0} (cmp : K → K → Ordering) where
  abbrev pub entries_from : Content K V → K → Content K V
  entries_from c k = filter (λ e. is_le (cmp k e.0)) c

  abbrev pub lists_behind : Content K V → Option K → List (List V)
  lists_behind c None = []
  lists_behind c (Some k) = lists_of (entries_above cmp c k)
