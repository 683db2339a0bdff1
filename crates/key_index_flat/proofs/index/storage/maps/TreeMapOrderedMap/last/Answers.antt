use Rattle.std.proofs.Common.{◌∙◌}
use Rattle.std.specs.Map.Iter.{deref_pair}
use Rattle.key_index_flat.proofs.neighbours.NeighbourLemmas.{last_entry-by_place}
use Rattle.key_index_flat.proofs.index.storage.maps.TreeMapOrderedMap.last.Goals as goal

pub returns-clause-entry : goal.returns-clause-entry
returns-clause-entry g c = c.own_key.ensures ∙ last_entry-by_place (deref_pair {K = g.row.K.Denot} {X = g.row.V.Denot}) _ _ c.last_key_value.ensures.variant c.last_key_value.ensures.last
