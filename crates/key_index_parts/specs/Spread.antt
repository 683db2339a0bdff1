-- The pairs that a content is made of: what `grouped` makes of them is the content again.
--     pairs_with     each of some values with a key
--     spread         those of each entry in turn
--     AreBelow       each key of some pairs is below all keys of a content
use Rattle.std.specs.Prelude.{T, All, List, [], ◌∷◌, ◌++◌, map}
use Rattle.std.specs.FinMap.Entries.{below_all}
use Rattle.std.specs.Map.{keys_of}
use Rattle.std.specs.declared.cmp.Ordering.{Ordering}
use Rattle.key_index_flat.specs.Content.{Content}

module _ {K V : Type 0} where
  abbrev pub pairs_with : K → List V → List (K × V)
  pairs_with k vs = map (λ v. (k, v)) vs

  abbrev pub spread : Content K V → List (K × V)
  spread [] = []
  spread (e ∷ es) = pairs_with e.0 e.1 ++ spread es

abbrev pub AreBelow : {K V : Type 0} → (K → K → Ordering) → List (K × V) → Content K V → Type 0
AreBelow cmp pairs c = All (λ k. T (below_all cmp k c)) (keys_of pairs)
