-- All values of a content, and a closure that is called on each of them.
--     in_order        a vector's items, from its end on where it is reversed
--     values_of       all values that are held, in the order of the index keys and, under one of them, in list order
--     VisitsInTurn    visit was called on each value in order, and ended as `last`
--     VisitsEach      it was called once on each of some values, in some order
use Rattle.std.specs.Prelude.{Bool, if◌then◌else◌, List, reverse}
use Rattle.std.specs.List.{flat_map, FoldsTo}
use Rattle.std.specs.List.Sorted.{IsPermutation}
use Rattle.key_index_flat.specs.Content.{Content}

abbrev pub in_order : {V : Type 0} → Bool → List V → List V
in_order reversed vs = if reversed then reverse vs else vs

abbrev pub values_of : {K V : Type 0} → Content K V → List V
values_of c = flat_map (λ e. e.1) c

abbrev pub VisitsInTurn : {F V : Type 0} → (F → V → Unit {0} → F → Type 0) → F → List V → F → Type 0
VisitsInTurn visit f vs last = FoldsTo (λ g v h. visit g v tt h) f vs last

abbrev pub VisitsEach : {F V : Type 0} → (F → V → Unit {0} → F → Type 0) → F → List V → F → Type 0
VisitsEach {V = V} visit f vs last = (values : List V) × IsPermutation vs values × VisitsInTurn visit f values last
