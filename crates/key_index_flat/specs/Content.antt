-- What a value index holds: a finite map from index keys to lists that are not empty (a multimap whose values keep their order).
-- It is the list of its entries in the order of the keys, so equal maps are one value. `cmp` is the order of the keys.
--     list_at, with_list      the list at a key, empty where the key is absent; the map with a list at a key, and without the key where the list is empty
--     lacks                   whether a key is absent
--     IsLawful                the keys strictly rise, and no list is empty
--     key_count, item_count   how many keys, and how many values
use Rattle.std.specs.Prelude.{ℕ, ◌+◌, Bool, true, false, not, ◌&&◌, T, List, [], ◌∷◌, length, unwrap_or}
use Rattle.std.specs.declared.cmp.Ordering.{Ordering}
use Rattle.std.specs.Ordering.{eq_by_cmp}
use Rattle.std.specs.FinMap.{find, put, is_sorted}
use Rattle.std.specs.FinMap.Entries.{where_key}

abbrev pub Content : Type 0 → Type 0 → Type 0
Content K V = List (K × List V)

abbrev pub is_filled : {V : Type 0} → List V → Bool
is_filled [] = false
is_filled (v ∷ vs) = true

abbrev pub all_filled : {K V : Type 0} → Content K V → Bool
all_filled [] = true
all_filled (e ∷ es) = is_filled e.1 && all_filled es

abbrev pub key_count : {K V : Type 0} → Content K V → ℕ
key_count c = length c

abbrev pub item_count : {K V : Type 0} → Content K V → ℕ
item_count [] = 0
item_count (e ∷ es) = length e.1 + item_count es

module _ {K V : Type 0} (cmp : K → K → Ordering) where
  abbrev pub list_at : Content K V → K → List V
  list_at c k = unwrap_or (find cmp k c) []

  abbrev pub lacks : Content K V → K → Bool
  lacks c k = not (is_filled (list_at c k))

  abbrev pub with_list : Content K V → K → List V → Content K V
  with_list c k [] = where_key cmp (λ x. not (eq_by_cmp cmp k x)) c
  with_list c k (v ∷ vs) = put cmp k (v ∷ vs) c

  -- with what f makes of the list at a key
  abbrev pub with_list_by : Content K V → K → (List V → List V) → Content K V
  with_list_by c k f = with_list c k (f (list_at c k))

  abbrev pub IsLawful : Content K V → Type 0
  IsLawful c = T (is_sorted cmp c) × T (all_filled c)
