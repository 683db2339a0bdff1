-- The neighbours of a key in a content, or in other entries that stand in the order of their keys.
--     first_entry, last_entry    the entry with the least key, and with the greatest
--     next_entry                 the entry with the least key strictly above k, and false. Where no key is above k, the first entry, and true.
--                                None exactly where there are no entries. prev_entry: the same with greatest, below and last
--     first_list, ..             the list of that entry, with the flag
--     side_cmp                   of a side of a key, which is above it or else below: the order in which what is there comes, from the nearest on
--     beside_list, end_list      the list of the neighbour on a side, with the flag; of all lists the one that comes first in the order of a side
--     KeepsOrder                 keys in the order of bytes have index keys in order. Bytes are numbers below 256
use Rattle.std.specs.Prelude.{◌<◌, ℕ, Bool, true, false, List, [], ◌∷◌, Option, Some, None, All}
use Rattle.std.specs.List.{filter, last_or}
use Rattle.std.specs.Option.{option_map}
use Rattle.std.specs.declared.cmp.Ordering.{Ordering}
use Rattle.std.specs.Ordering.{is_lt, nat_cmp, flip_args}
use Rattle.std.specs.Cmp.Lexicographic.{slice_cmp}
use Rattle.std.specs.BTreeMap.Range.{IsLeBy}
use Rattle.key_index_flat.specs.Content.{Content}

abbrev pub first_entry : {E : Type 0} → List E → Option E
first_entry [] = None
first_entry (e ∷ es) = Some e

abbrev pub last_entry : {E : Type 0} → List E → Option E
last_entry es = last_or None es

abbrev pub side_cmp : {X : Type 0} → Bool → (X → X → Ordering) → X → X → Ordering
side_cmp true cmp = cmp
side_cmp false cmp = flip_args cmp

-- the one that was found, or else the other, flagged
abbrev pub or_cycled : {E : Type 0} → Option E → Option E → Option (E × Bool)
or_cycled (Some e) other = Some (e, false)
or_cycled None other = option_map (λ e. (e, true)) other

module _ {K X : Type 0} (cmp : K → K → Ordering) where
  abbrev pub entries_above : List (K × X) → K → List (K × X)
  entries_above es k = filter (λ e. is_lt (cmp k e.0)) es

  abbrev pub entries_below : List (K × X) → K → List (K × X)
  entries_below es k = filter (λ e. is_lt (cmp e.0 k)) es

  abbrev pub next_entry : List (K × X) → K → Option ((K × X) × Bool)
  next_entry es k = or_cycled (first_entry (entries_above es k)) (first_entry es)

  abbrev pub prev_entry : List (K × X) → K → Option ((K × X) × Bool)
  prev_entry es k = or_cycled (last_entry (entries_below es k)) (last_entry es)

module _ {K V : Type 0} where
  abbrev pub first_list : Content K V → Option (List V)
  first_list c = option_map (λ e. e.1) (first_entry c)

  abbrev pub last_list : Content K V → Option (List V)
  last_list c = option_map (λ e. e.1) (last_entry c)

  abbrev pub next_list : (K → K → Ordering) → Content K V → K → Option (List V × Bool)
  next_list cmp c k = option_map (λ n. (n.0.1, n.1)) (next_entry cmp c k)

  abbrev pub prev_list : (K → K → Ordering) → Content K V → K → Option (List V × Bool)
  prev_list cmp c k = option_map (λ n. (n.0.1, n.1)) (prev_entry cmp c k)

  abbrev pub beside_list : Bool → (K → K → Ordering) → Content K V → K → Option (List V × Bool)
  beside_list true cmp c k = next_list cmp c k
  beside_list false cmp c k = prev_list cmp c k

  abbrev pub end_list : Bool → Content K V → Option (List V)
  end_list true c = first_list c
  end_list false c = last_list c

-- index keys of such bytes, in the order cmp
abbrev pub KeepsOrder : {K : Type 0} → (K → K → Ordering) → (List ℕ → K) → Type 0
KeepsOrder cmp slot =
    (a b : List ℕ) → All (λ n. n < 256) a → All (λ n. n < 256) b → IsLeBy (slice_cmp nat_cmp) a b
    → IsLeBy cmp (slot a) (slot b)
