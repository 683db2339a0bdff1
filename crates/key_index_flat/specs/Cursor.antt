-- A cursor is a list and a place in it. Each call of a cursor is one function here.
--     Place                       before the value at i, on the value at i, or past the end
--     state_of, place_of          the state that a cursor tells at a place, and the place that a state and a number stand for
--     after_next, value_next      where `next` goes, and what it answers
--     list_after_insert, ..       the list that `insert`, `update` and `delete` leave, and place_after_insert, .. the place
--     Retains, Finds, FindsNone   what `retain` leaves, and where `find` ends: f is asked on each value in turn, by the relation step
--     on_value, takes_insert      whether a place is on a value, and whether a value can be put in there
--     IsOnValue, AllowsInsert     where `update` and `delete` are allowed, and where `insert` is
use Rattle.std.specs.Prelude.{◌≡◌, ◌<◌, ℕ, ◌+◌, Bool, true, false, if◌then◌else◌, nat_lt, IsTrue, List, [], ◌∷◌, ◌++◌, length, take, drop, slice_get, slice_set, replicate, Option, None}
use Rattle.std.specs.List.Retain.{IsFiltered, ReturnsInTurn}
use Rattle.key_index_flat.specs.declared.index.traits.cursor.CursorState.{CursorState}
use Rattle.key_index_flat.specs.declared.index.traits.cursor.CursorState.TheVariants as state

pub data Place : Type 0 where
  NeedNext : ℕ → Place
  Active : ℕ → Place
  Done : Place

-- the state at a place
abbrev pub state_of : Place → CursorState
state_of (NeedNext i) = state.NeedNext
state_of (Active i) = state.Active
state_of Done = state.Done

-- the place that a state and a number stand for
abbrev pub place_of : CursorState → ℕ → Place
place_of state.NeedNext i = NeedNext i
place_of state.Active i = Active i
place_of state.Done i = Done

abbrev pub place_after_insert : Place → Place
place_after_insert (NeedNext i) = NeedNext i
place_after_insert (Active i) = NeedNext (i + 2)
place_after_insert Done = Done

abbrev pub place_after_delete : Place → Place
place_after_delete (NeedNext i) = NeedNext i
place_after_delete (Active i) = NeedNext i
place_after_delete Done = Done

-- how many values `delete` takes out
abbrev pub taken_by_delete : Place → ℕ
taken_by_delete (NeedNext i) = 0
taken_by_delete (Active i) = 1
taken_by_delete Done = 0

-- the place of the value that `next` would give
abbrev pub next_place : {V : Type 0} → List V → Place → ℕ
next_place l (NeedNext i) = i
next_place l (Active i) = i + 1
next_place l Done = length l

module _ {V : Type 0} where
  -- on the value at i, or past the end
  abbrev pub place_from : List V → ℕ → Place
  place_from l i = if nat_lt i (length l) then Active i else Done

  abbrev pub after_next : List V → Place → Place
  after_next l (NeedNext i) = place_from l i
  after_next l (Active i) = place_from l (i + 1)
  after_next l Done = Done

  abbrev pub value_next : List V → Place → Option V
  value_next l (NeedNext i) = slice_get l i
  value_next l (Active i) = slice_get l (i + 1)
  value_next l Done = None

  -- a value goes behind the one that the cursor is on, or last
  abbrev pub list_after_insert : List V → Place → V → List V
  list_after_insert l (NeedNext i) v = l
  list_after_insert l (Active i) v = take (i + 1) l ++ v ∷ drop (i + 1) l
  list_after_insert l Done v = l ++ v ∷ []

  abbrev pub list_after_update : List V → Place → V → List V
  list_after_update l (NeedNext i) v = l
  list_after_update l (Active i) v = slice_set l i v
  list_after_update l Done v = l

  abbrev pub list_after_delete : List V → Place → List V
  list_after_delete l (NeedNext i) = l
  list_after_delete l (Active i) = take i l ++ drop (i + 1) l
  list_after_delete l Done = l

-- what `next` has not given yet
abbrev pub values_left : {V : Type 0} → List V → Place → List V
values_left l p = drop (next_place l p) l

-- what `retain` leaves: the values before the next one, and those left of which f said true, asked on each in order
abbrev pub Retains : {F V : Type 0} → (F → V → Bool → F → Type 0) → F → List V → Place → List V → Type 0
Retains {V = V} step f l p new =
    (rest : List V) × IsFiltered step f (values_left l p) rest × (new ≡ take (next_place l p) l ++ rest)

-- where `find` ends: on the first of the values left of which f said true, or past the end where it said false of each
abbrev pub Finds : {F V : Type 0} → (F → V → Bool → F → Type 0) → F → List V → Place → Place → Type 0
Finds {F = F} step f l p new =
    (i : ℕ) × (last : F) × (i < length (values_left l p))
    × ReturnsInTurn step f (replicate i false ++ true ∷ []) (values_left l p) last
    × (new ≡ Active (next_place l p + i))

abbrev pub FindsNone : {F V : Type 0} → (F → V → Bool → F → Type 0) → F → List V → Place → Place → Type 0
FindsNone {F = F} step f l p new =
    (last : F) × ReturnsInTurn step f (replicate (length (values_left l p)) false) (values_left l p) last × (new ≡ Done)

abbrev pub on_value : Place → Bool
on_value (NeedNext i) = false
on_value (Active i) = true
on_value Done = false

-- on a value, or past the end
abbrev pub takes_insert : Place → Bool
takes_insert (NeedNext i) = false
takes_insert (Active i) = true
takes_insert Done = true

abbrev pub IsOnValue : Place → Type 0
IsOnValue p = IsTrue (on_value p)

abbrev pub AllowsInsert : Place → Type 0
AllowsInsert p = IsTrue (takes_insert p)
