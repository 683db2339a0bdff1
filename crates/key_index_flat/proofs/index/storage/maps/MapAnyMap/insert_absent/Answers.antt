use Rattle.std.proofs.Common.{ap}
use Rattle.std.proofs.lemmas.Result.{on_err_weaker}
use Rattle.key_index_flat.proofs.content.HeadLemmas.{back, kept_at, others}
use Rattle.key_index_flat.proofs.index.storage.maps.MapAnyMap.insert_absent.Goals as goal

pub returns-clause-back : goal.returns-clause-back
returns-clause-back g c = back g.K.PartialEq.eq g.K.Ord.cmp g.met.K.Ord.matches_eq _ _ c.insert_absent.result c.args.value c.insert_absent.ensures.back

pub returns-clause-at : goal.returns-clause-at
returns-clause-at g c = kept_at g.K.PartialEq.eq g.K.Ord.cmp g.met.K.Ord.matches_eq _ _ _ c.insert_absent.result c.args.value c.insert_absent.ensures.updates

pub returns-clause-others : goal.returns-clause-others
returns-clause-others g c =
    others g.K.PartialEq.eq g.K.Ord.cmp g.met.K.Ord.matches_eq _ _ g.met.K.Ord.total _ c.insert_absent.result _ c.insert_absent.ensures.updates
    (on_err_weaker c.insert_absent.result (λ same. ap (λ m. m.entries) same) c.insert_absent.ensures.refused)
