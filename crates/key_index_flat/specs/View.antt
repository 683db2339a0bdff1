-- An index as contracts see it, and what a call leaves of it. An index key is `k`, the bytes of a key are `b`, a list of values `l`.
--     put_value                   a value in front of a list, or behind it
--     pruned_after                a count after n more, as far as the greatest u64
--     View                        what it holds, how many held values were ever taken out, the index key of a key's bytes,
--                                 and whether it can hold values under an index key
--     items_in                    how many values it holds
--     run_at, run_of              the list at an index key, and at that of a key
--     IsHeld                      whether a key has a value
--     Reaches                     an index key and a number: those of a key, and of the values that it has
--     with_run, with_edit         with this list at an index key, and with what f makes of the list there
--     with_pruned                 with n values more taken out
--     with_slot                   with other index keys of keys' bytes
--     after_insert, after_remove  after a call at a key
--     Retains                     after the values at an index key of which f said false were taken out; RetainsAt: of those at a key
--     InsertsAndRetains           after a value was put behind those of an index key, f was asked on all of these, the new one last, and
--                                 those that f said false of were taken out; InsertsAndRetainsAt: of those at a key
--     RetainsWith                 after one or the other, by whether there is a new value
--     Admits                      whether it can hold values under the index key of a key
--     growth_fault_in             why it refuses one more value
--     AlsoAt, IsWantAt            what else a call leaves, told by `also` of the index key of a key; want of memory, at a key where a
--                                 call that inserts nothing may have it
--     StaysBut, InsertsBut        the view stays, or gains a key with one value; what else is left is told by `also`
use Rattle.std.specs.Prelude.{◌≡◌, ℕ, ◌<◌, ◌+◌, ◌-◌, ◌^◌, min, Bool, true, false, IsTrue, List, [], ◌∷◌, ◌++◌, length, Option, Some, None}
use Rattle.std.specs.List.Retain.{IsFiltered}
use Rattle.std.specs.declared.cmp.Ordering.{Ordering}
use Rattle.key_index_flat.specs.declared.index.Fault.{Fault}
use Rattle.key_index_flat.specs.Content.{Content, list_at, with_list, item_count}
use Rattle.key_index_flat.specs.Fault.{growth_fault, IsWant}
use Rattle.key_index_flat.specs.Retention.{AsksBehind}

abbrev pub put_value : {V : Type 0} → Bool → V → List V → List V
put_value true v l = v ∷ l
put_value false v l = l ++ v ∷ []

abbrev pub pruned_after : ℕ → ℕ → ℕ
pruned_after p n = p + min n (2 ^ 64 - 1 - p)

pub record View (K V : Type 0) : Type 0 where
  pub content : Content K V
  pub pruned : ℕ
  pub slot : List ℕ → K
  pub admitted : K → Bool

module _ {K V : Type 0} where
  abbrev pub items_in : View K V → ℕ
  items_in s = item_count s.content

  abbrev pub growth_fault_in : View K V → Fault
  growth_fault_in s = growth_fault (items_in s)

  abbrev pub Admits : View K V → List ℕ → Type 0
  Admits s b = IsTrue (s.admitted (s.slot b))

  abbrev pub with_pruned : View K V → ℕ → View K V
  with_pruned s n = record s { pruned = pruned_after s.pruned n }

  abbrev pub with_slot : View K V → (List ℕ → K) → View K V
  with_slot s slot = record s { slot = slot }

module _ {K V : Type 0} (cmp : K → K → Ordering) where
  abbrev pub run_at : View K V → K → List V
  run_at s k = list_at cmp s.content k

  abbrev pub run_of : View K V → List ℕ → List V
  run_of s b = run_at s (s.slot b)

  abbrev pub IsHeld : View K V → List ℕ → Type 0
  IsHeld s b = 0 < length (run_of s b)

  abbrev pub Reaches : View K V → List ℕ → K × ℕ → Type 0
  Reaches s b told = (told.0 ≡ s.slot b) × (told.1 ≡ length (run_of s b))

  abbrev pub with_run : View K V → K → List V → View K V
  with_run s k l = record s { content = with_list cmp s.content k l }

  abbrev pub with_edit : View K V → K → (List V → List V) → View K V
  with_edit s k f = with_run s k (f (run_at s k))

  abbrev pub after_insert : Bool → View K V → List ℕ → V → View K V
  after_insert first s b v = with_edit s (s.slot b) (put_value first v)

  abbrev pub after_remove : View K V → List ℕ → View K V
  after_remove s b = with_pruned (with_run s (s.slot b) []) (length (run_of s b))

  abbrev pub Retains : {F : Type 0} → (F → V → Bool → F → Type 0) → F → View K V → K → View K V → Type 0
  Retains ask f s k t =
      (kept : List V) × IsFiltered ask f (run_at s k) kept
      × (t ≡ with_pruned (with_run s k kept) (length (run_at s k) - length kept))

  abbrev pub RetainsAt : {F : Type 0} → (F → V → Bool → F → Type 0) → F → View K V → List ℕ → View K V → Type 0
  RetainsAt ask f s b t = Retains ask f s (s.slot b) t

  -- taken: how many of the held values were taken out
  abbrev pub InsertsAndRetains : {F : Type 0} → (F → V → Bool → F → Type 0) → F → View K V → K → V → ℕ → View K V
      → Type 0
  InsertsAndRetains ask f s k v taken t =
      (kept : List V) × AsksBehind ask f (run_at s k) v kept taken × (t ≡ with_pruned (with_run s k kept) taken)

  abbrev pub InsertsAndRetainsAt : {F : Type 0} → (F → V → Bool → F → Type 0) → F → View K V → List ℕ → V
      → View K V → Type 0
  InsertsAndRetainsAt ask f s b v t = (taken : ℕ) × InsertsAndRetains ask f s (s.slot b) v taken t

  abbrev pub RetainsWith : {F : Type 0} → (F → V → Bool → F → Type 0) → F → View K V → K → Option V → View K V → Type 0
  RetainsWith ask f s k None t = Retains ask f s k t
  RetainsWith ask f s k (Some v) t = (taken : ℕ) × InsertsAndRetains ask f s k v taken t

module _ {I K V : Type 0} (view : I → View K V) where
  abbrev pub AlsoAt : (I → K → I → Type 0) → I → List ℕ → I → Type 0
  AlsoAt also old b new = also old ((view old).slot b) new

  abbrev pub IsWantAt : (I → K → Bool) → I → List ℕ → Fault → Type 0
  IsWantAt may old b fault = IsWant fault (may old ((view old).slot b))

  abbrev pub StaysBut : (I → K → I → Type 0) → I → List ℕ → I → Type 0
  StaysBut also old b new = (view new ≡ view old) × AlsoAt also old b new

abbrev pub InsertsBut : {I K V : Type 0} → (K → K → Ordering) → (I → View K V) → (I → K → I → Type 0)
    → I → List ℕ → V → I → Type 0
InsertsBut cmp view also old b v new =
    (view new ≡ with_run cmp (view old) ((view old).slot b) (v ∷ [])) × AlsoAt view also old b new
