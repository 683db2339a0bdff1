-- The entries of a plain index: index keys with lists of values.
--     listed       the keys and their lists, as they stand
--     content_of   the content that entries stand for: each put in its place, the first at last
--     place_of     the place of the entry with a key, or else the place before the first greater key
use Rattle.std.specs.Prelude.{ℕ, suc, List, [], ◌∷◌, Result, Ok, Err}
use Rattle.std.specs.declared.cmp.Ordering.{Ordering}
use Rattle.std.specs.FinMap.Entries.{by_order}
use Rattle.key_index_flat.specs.Content.{Content, with_list}
use Rattle.key_index_plain.specs.declared.entries.Entry.{Entry}

abbrev pub listed : {K V : Type 0} → List (Entry K V) → Content K V
listed [] = []
listed (e ∷ es) = (e.key, e.values.items) ∷ listed es

abbrev pub moved_on : Result ℕ ℕ → Result ℕ ℕ
moved_on (Ok i) = Ok (suc i)
moved_on (Err i) = Err (suc i)

module _ {K V : Type 0} (cmp : K → K → Ordering) where
  abbrev pub content_of : List (Entry K V) → Content K V
  content_of [] = []
  content_of (e ∷ es) = with_list cmp (content_of es) e.key e.values.items

  abbrev pub place_of : List (Entry K V) → K → Result ℕ ℕ
  place_of [] k = Err 0
  place_of (e ∷ es) k = by_order (cmp k e.key) (Err 0) (Ok 0) (moved_on (place_of es k))
