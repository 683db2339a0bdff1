-- What the calls leave of a view, by the order `cmp` of its index keys.
--     after_removed    a key without the value at a place of its list; after_replaced: with another one there. None: nothing changed
--     kept_by          the values whose byte of a mask is not 0; after_kept: a key with these values of its own alone
--     counts_in        how many keys and values there are, and how many were ever removed
--     not_cycled       the list at an end, as a neighbour that was not found around the end
--     neighbour_list   the neighbour that a number names: the next one, the previous one, the first one, else the last one
use Rattle.std.specs.Prelude.{ℕ, ◌-◌, Bool, false, not, nat_eq, if◌then◌else◌, List, length, map, slice_set, remove, Option, Some, None}
use Rattle.std.specs.List.{items_where_true}
use Rattle.std.specs.Option.{option_map}
use Rattle.std.specs.declared.cmp.Ordering.{Ordering}
use Rattle.key_index_flat.specs.Content.{key_count}
use Rattle.key_index_flat.specs.Neighbours.{first_list, last_list, next_list, prev_list}
use Rattle.key_index_flat.specs.View.{View, items_in, run_of, with_edit, with_pruned, with_run}
use Rattle.key_index_c.specs.declared.any.Counts.{Counts}

abbrev pub is_kept : ℕ → Bool
is_kept byte = not (nat_eq byte 0)

abbrev pub kept_by : List ℕ → List ℕ → List ℕ
kept_by mask values = items_where_true (map is_kept mask) values

abbrev pub not_cycled : Option (List ℕ) → Option (List ℕ × Bool)
not_cycled list = option_map (λ values. (values, false)) list

abbrev pub counts_in : {K : Type 0} → View K ℕ → Counts
counts_in s = record { keys = key_count s.content; items = items_in s; pruned = s.pruned }

module _ {K : Type 0} (cmp : K → K → Ordering) where
  abbrev pub after_removed : View K ℕ → List ℕ → Option ℕ → View K ℕ
  after_removed s key None = s
  after_removed s key (Some place) = with_pruned (with_edit cmp s (s.slot key) (λ l. remove l place)) 1

  abbrev pub after_replaced : View K ℕ → List ℕ → Option ℕ → ℕ → View K ℕ
  after_replaced s key None new = s
  after_replaced s key (Some place) new = with_edit cmp s (s.slot key) (λ l. slice_set l place new)

  abbrev pub after_kept : View K ℕ → List ℕ → List ℕ → View K ℕ
  after_kept s key mask =
      with_pruned (with_run cmp s (s.slot key) (kept_by mask (run_of cmp s key)))
      (length (run_of cmp s key) - length (kept_by mask (run_of cmp s key)))

  abbrev pub neighbour_list : ℕ → View K ℕ → List ℕ → Option (List ℕ × Bool)
  neighbour_list which s key =
      if nat_eq which 0 then next_list cmp s.content (s.slot key)
      else if nat_eq which 1 then prev_list cmp s.content (s.slot key)
      else if nat_eq which 2 then not_cycled (first_list s.content)
      else not_cycled (last_list s.content)
