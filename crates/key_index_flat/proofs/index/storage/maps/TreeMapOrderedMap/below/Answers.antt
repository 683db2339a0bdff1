use Rattle.std.proofs.Common.{ap, ◌∙◌}
use Rattle.std.specs.Map.Iter.{deref_pair}
use Rattle.key_index_flat.specs.Neighbours.{last_entry}
use Rattle.key_index_flat.proofs.neighbours.NeighbourLemmas.{last_taken, range_below}
use Rattle.key_index_flat.proofs.index.storage.maps.TreeMapOrderedMap.below.Goals as goal

pub returns-clause-entry : goal.returns-clause-entry
returns-clause-entry g c =
    c.own_key.ensures
    ∙ last_taken (deref_pair {K = g.row.K.Denot} {X = g.row.V.Denot}) _ _ _ c.next_back.ensures.steps
    ∙ ap last_entry (c.range.ensures.between tt ∙ range_below g.K.Ord.cmp c.args.self.now.entries c.args.key.now g.met.K.Ord.total)
