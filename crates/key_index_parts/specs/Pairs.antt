-- What sorted keys with a value beside each hold, and what they stand for. `cmp` is the order of the keys, `k` a key.
--     Pairs                     the pairs of a key and a value, and how many more it takes without asking for memory
--     with_value                the pairs with another value at a place
--     count_below, count_upto   how many of some keys are below a key, and how many are not above it
--     run_of                    the values at a key, in their order
--     IsRun                     where the pairs of a key stand: those below it come before them
--     IsFound                   that they stand there, among keys that never fall
--     grouped                   the content that pairs stand for: under each key its values, in their order
--     list_of, room_of          the key and the values of a run that was taken out, and beside them its room
--     room_for                  the same of a run with room for the values of an entry, and none of them yet
--     Paired                    as many values as keys, and the keys never fall
use Rattle.std.specs.Prelude.{ℕ, List, [], ◌∷◌, slice_set, length, ◌≡◌, ◌+◌, ◌≤◌}
use Rattle.std.specs.List.{filter, zip}
use Rattle.std.specs.List.Sorted.{IsSorted}
use Rattle.std.specs.Map.{keys_of, values_of}
use Rattle.std.specs.declared.cmp.Ordering.{Ordering}
use Rattle.std.specs.Ordering.{eq_by_cmp, is_lt, is_le}
use Rattle.std.specs.declared.vec.Vec.{Vec}
use Rattle.std.specs.Vec.{vec_capacity}
use Rattle.key_index_flat.specs.Content.{Content, with_list_by}
use Rattle.key_index_flat.specs.Neighbours.{entries_below}

pub record Pairs (K V : Type 0) : Type 0 where
  pub pairs : List (K × V)
  pub room : ℕ

abbrev pub with_value : {K V : Type 0} → List (K × V) → ℕ → V → List (K × V)
with_value es i v = zip (keys_of es) (slice_set (values_of es) i v)

module _ {K : Type 0} (cmp : K → K → Ordering) where
  abbrev pub count_below : List K → K → ℕ
  count_below ks k = length (filter (λ x. is_lt (cmp x k)) ks)

  abbrev pub count_upto : List K → K → ℕ
  count_upto ks k = length (filter (λ x. is_le (cmp x k)) ks)

module _ {K V : Type 0} (cmp : K → K → Ordering) where
  abbrev pub run_of : List (K × V) → K → List V
  run_of es k = values_of (filter (λ e. eq_by_cmp cmp k e.0) es)

  abbrev pub grouped : List (K × V) → Content K V
  grouped [] = []
  grouped (e ∷ es) = with_list_by cmp (grouped es) e.0 (λ l. e.1 ∷ l)

-- a key's run is from one place up to another
pub record IsRun {K V : Type 0} (cmp : K → K → Ordering) (es : List (K × V)) (k : K) (start end : ℕ) : Type 0 where
  pub from : start ≡ length (entries_below cmp es k)
  pub upto : end ≡ start + length (run_of cmp es k)

pub record IsFound {K V : Type 0} (cmp : K → K → Ordering) (es : List (K × V)) (k : K) (start end : ℕ) : Type 0 where
  pub run : IsRun cmp es k start end
  pub within : end ≤ length es
  pub sorted : IsSorted cmp (keys_of es)

-- as many values as keys, and the keys never fall
pub record Paired {K V : Type 0} (cmp : K → K → Ordering) (ks : List K) (vs : List V) : Type 0 where
  pub sized : length ks ≡ length vs
  pub sorted : IsSorted cmp ks

module _ {K V A : Type 0} where
  abbrev pub list_of : K × Vec V A → K × List V
  list_of run = (run.0, run.1.items)

  abbrev pub room_of : K × Vec V A → (K × List V) × ℕ
  room_of run = (list_of run, vec_capacity run.1)

abbrev pub room_for : {K V : Type 0} → K × List V → (K × List V) × ℕ
room_for e = ((e.0, []), length e.1)
