use Rattle.key_index_flat.proofs.content.KeyLemmas.{Sets_by_eq}
use Rattle.key_index_flat.proofs.index.storage.maps.MapAnyMap.remove.Goals as goal

pub returns-clause-sets : goal.returns-clause-sets
returns-clause-sets g c =
    Sets_by_eq g.K.PartialEq.eq g.K.Ord.cmp g.met.K.Ord.matches_eq g.met.K.Ord.total _ _ _ _ c.remove.ensures.updates
