-- What the calls tell.
--     place_of         where the first of some values stands that equals a value
--     found_in         how many values there are, and the first one, 0 where there is none
--     start_of         where the key of a number begins, among keys that stand behind one another, by where each ends; key_of: that key
--     AreKeys          these are the ends of so many keys
--     after_inserts    the first so many keys and values are inserted, in turn
--     lists_of         the lists of the first so many keys, that of a key behind that of the key before it; values_of: those of an index
--     counted          how many values these are, as far as a usize goes
--     ShowsMany        what is told of so many keys: how many values they have, the buffer then, and where those of each key end
--     if_ordered       a neighbour of an index that has an order, and else none
--     Shows            what is told of a neighbour, and the buffer then. ordered: whether the index has an order
use Rattle.std.specs.Prelude.{◌≡◌, ℕ, zero, suc, ◌^◌, ◌-◌, min, ◌<◌, ◌≤◌, Bool, true, false, nat_eq, if◌then◌else◌, List, [], ◌∷◌, ◌++◌, length, slice_index, slice_range, Option, Some, None}
use Rattle.std.specs.List.{position}
use Rattle.key_index_c.specs.Buffer.{filled}
use Rattle.key_index_c.specs.Views.{AnyView, after_insert, values_under}
use Rattle.key_index_c.specs.declared.any.Found.{Found}
use Rattle.key_index_c.specs.declared.any.Neighbour.{Neighbour}

abbrev pub place_of : ℕ → List ℕ → Option ℕ
place_of value values = position (λ held. nat_eq held value) values

abbrev pub first_in : List ℕ → ℕ
first_in [] = 0
first_in (value ∷ values) = value

abbrev pub found_in : List ℕ → Found
found_in values = record { count = length values; first = first_in values }

abbrev pub start_of : List ℕ → ℕ → ℕ
start_of ends zero = 0
start_of ends (suc i) = slice_index ends i

abbrev pub key_of : List ℕ → List ℕ → ℕ → List ℕ
key_of keys ends i = slice_range keys (start_of ends i) (slice_index ends i)

pub record AreKeys (keys ends : List ℕ) (n : ℕ) : Type 0 where
  pub paired : length ends ≡ n
  pub ordered : (i : ℕ) → i < length ends → start_of ends i ≤ slice_index ends i
  pub within : (i : ℕ) → i < length ends → slice_index ends i ≤ length keys

abbrev pub after_inserts : Bool → AnyView → List ℕ → List ℕ → List ℕ → ℕ → AnyView
after_inserts first s keys ends values zero = s
after_inserts first s keys ends values (suc n) =
    after_insert first (after_inserts first s keys ends values n) (key_of keys ends n) (slice_index values n)

abbrev pub lists_of : (List ℕ → List ℕ) → List ℕ → List ℕ → ℕ → List ℕ
lists_of list keys ends zero = []
lists_of list keys ends (suc n) = lists_of list keys ends n ++ list (key_of keys ends n)

abbrev pub values_of : AnyView → List ℕ → List ℕ → ℕ → List ℕ
values_of s keys ends = lists_of (values_under s) keys ends

abbrev pub counted : List ℕ → ℕ
counted values = min (length values) (2 ^ 64 - 1)

-- lists: the values of the first so many of the n keys
pub record ShowsMany (lists : ℕ → List ℕ) (n told : ℕ) (old new ends : List ℕ) : Type 0 where
  pub count : told ≡ counted (lists n)
  pub values : new ≡ filled (lists n) old
  pub stops : (i : ℕ) → i < n → slice_index ends i ≡ counted (lists (suc i))

abbrev pub if_ordered : Bool → Option (List ℕ × Bool) → Option (List ℕ × Bool)
if_ordered true neighbour = neighbour
if_ordered false neighbour = None

abbrev pub list_in : Option (List ℕ × Bool) → List ℕ
list_in None = []
list_in (Some neighbour) = neighbour.0

abbrev pub cycled_in : Option (List ℕ × Bool) → Bool
cycled_in None = false
cycled_in (Some neighbour) = neighbour.1

pub record Shows (ordered : Bool) (neighbour : Option (List ℕ × Bool)) (told : Neighbour) (old new : List ℕ)
    : Type 0 where
  pub status : told.status ≡ (if ordered then 0 else 4)
  pub count : told.count ≡ length (list_in (if_ordered ordered neighbour))
  pub cycled : told.cycled ≡ cycled_in (if_ordered ordered neighbour)
  pub values : new ≡ filled (list_in (if_ordered ordered neighbour)) old
