-- On the scans for a place and for a neighbour.
--     shifted         a place that is counted from n on
--     lists_of        the lists of entries
--     last_listed     the list of the last entry
--     last_scanned    the last list, as a scan that keeps the last one so far finds it
use Rattle.std.proofs.Common.{◌≡◌, ℕ, ◌+◌, ◌-◌, List, [], ◌∷◌, length, map, slice_get, Option, Some, None, Result, Ok, Err, refl, sym, ap, ◌∙◌}
use Rattle.std.specs.List.{last_or}
use Rattle.std.specs.Option.{option_map}
use Rattle.key_index_flat.specs.Content.{Content}
use Rattle.key_index_flat.specs.Neighbours.{last_list}
use Rattle.key_index_flat.proofs.neighbours.NeighbourLemmas.{slice_get-last, last_or-map}
use Rattle.key_index_plain.specs.declared.entries.Entry.{Entry}
use Rattle.key_index_plain.specs.Entries.{listed}

abbrev pub shifted : ℕ → Result ℕ ℕ → Result ℕ ℕ
shifted n (Ok i) = Ok (n + i)
shifted n (Err i) = Err (n + i)

module _ {K V : Type 0} where
  abbrev pub lists_of : Content K V → List (List V)
  lists_of c = map (λ e. e.1) c

  pub last_scanned : (c : Content K V) → last_or None (lists_of c) ≡ last_list c
  last_scanned c = last_or-map (λ e. e.1) None c

  last_or-listed : (o : Option (Entry K V)) (es : List (Entry K V)) → last_or (option_map (λ e. (e.key, e.values.items)) o) (listed es) ≡ option_map (λ e. (e.key, e.values.items)) (last_or o es)
  last_or-listed o [] = refl
  last_or-listed o (e ∷ es) = last_or-listed (Some e) es

  pub last_listed : (es : List (Entry K V)) (e : Entry K V) → Some e ≡ slice_get es (length es - 1) → last_list (listed es) ≡ Some e.values.items
  last_listed es e is = ap (option_map (λ e. e.1)) (last_or-listed None es ∙ ap (option_map (λ e. (e.key, e.values.items))) (sym (slice_get-last es) ∙ sym is))
