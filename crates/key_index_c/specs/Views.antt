-- An index as contracts see it, by index keys that are numbers, or pairs of a partition's number and such a key; and what calls leave of
-- it and tell, each as of a view of that kind.
use Rattle.std.specs.Prelude.{ℕ, Bool, true, List, [], Option}
use Rattle.std.specs.Ordering.{nat_cmp}
use Rattle.key_index_flat.specs.View as view
use Rattle.key_index_flat.specs.View.{View, run_of}
use Rattle.key_index_flat.specs.declared.index.Fault.{Fault}
use Rattle.key_index_parts.specs.Gathered.{pair_cmp}
use Rattle.key_index_c.specs.Changes as change
use Rattle.key_index_c.specs.declared.any.Counts.{Counts}

pub data AnyView : Type 0 where
  ByNumber : View ℕ ℕ → AnyView
  ByPair : View (ℕ × ℕ) ℕ → AnyView

-- that of what is no such index
abbrev pub no_view : AnyView
no_view = ByNumber (record { content = []; pruned = 0; slot = λ _. 0; admitted = λ _. true })

abbrev pub values_under : AnyView → List ℕ → List ℕ
values_under (ByNumber s) key = run_of nat_cmp s key
values_under (ByPair s) key = run_of (pair_cmp nat_cmp) s key

abbrev pub items_in : AnyView → ℕ
items_in (ByNumber s) = view.items_in s
items_in (ByPair s) = view.items_in s

abbrev pub counts_in : AnyView → Counts
counts_in (ByNumber s) = change.counts_in s
counts_in (ByPair s) = change.counts_in s

abbrev pub growth_fault_in : AnyView → Fault
growth_fault_in (ByNumber s) = view.growth_fault_in s
growth_fault_in (ByPair s) = view.growth_fault_in s

abbrev pub after_insert : Bool → AnyView → List ℕ → ℕ → AnyView
after_insert first (ByNumber s) key value = ByNumber (view.after_insert nat_cmp first s key value)
after_insert first (ByPair s) key value = ByPair (view.after_insert (pair_cmp nat_cmp) first s key value)

abbrev pub after_remove : AnyView → List ℕ → AnyView
after_remove (ByNumber s) key = ByNumber (view.after_remove nat_cmp s key)
after_remove (ByPair s) key = ByPair (view.after_remove (pair_cmp nat_cmp) s key)

abbrev pub after_removed : AnyView → List ℕ → Option ℕ → AnyView
after_removed (ByNumber s) key place = ByNumber (change.after_removed nat_cmp s key place)
after_removed (ByPair s) key place = ByPair (change.after_removed (pair_cmp nat_cmp) s key place)

abbrev pub after_replaced : AnyView → List ℕ → Option ℕ → ℕ → AnyView
after_replaced (ByNumber s) key place new = ByNumber (change.after_replaced nat_cmp s key place new)
after_replaced (ByPair s) key place new = ByPair (change.after_replaced (pair_cmp nat_cmp) s key place new)

abbrev pub after_kept : AnyView → List ℕ → List ℕ → AnyView
after_kept (ByNumber s) key mask = ByNumber (change.after_kept nat_cmp s key mask)
after_kept (ByPair s) key mask = ByPair (change.after_kept (pair_cmp nat_cmp) s key mask)

abbrev pub neighbour_of : ℕ → AnyView → List ℕ → Option (List ℕ × Bool)
neighbour_of which (ByNumber s) key = change.neighbour_list nat_cmp which s key
neighbour_of which (ByPair s) key = change.neighbour_list (pair_cmp nat_cmp) which s key
