use Rattle.std.proofs.lemmas.Result.{on_ok_weaker}
use Rattle.key_index_flat.proofs.content.HeadLemmas.{told}
use Rattle.key_index_flat.proofs.content.KeyLemmas.{Sets_by_eq}
use Rattle.key_index_flat.proofs.index.storage.maps.MapAnyMap.insert.Goals as goal

pub returns-clause-old : goal.returns-clause-old
returns-clause-old g c = told g.K.PartialEq.eq g.K.Ord.cmp g.met.K.Ord.matches_eq _ _ c.insert.result c.insert.ensures.old

pub returns-clause-sets : goal.returns-clause-sets
returns-clause-sets g c =
    on_ok_weaker c.insert.result
    (λ u. Sets_by_eq g.K.PartialEq.eq g.K.Ord.cmp g.met.K.Ord.matches_eq g.met.K.Ord.total _ _ _ _ u)
    c.insert.ensures.updates
