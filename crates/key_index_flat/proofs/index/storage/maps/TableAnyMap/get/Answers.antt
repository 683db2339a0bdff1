use Rattle.key_index_flat.proofs.content.KeyLemmas.{value_by_eq}
use Rattle.key_index_flat.proofs.index.storage.maps.TableAnyMap.get.Goals as goal

pub returns : goal.returns
returns g c = value_by_eq g.K.PartialEq.eq g.K.Ord.cmp g.met.K.Ord.matches_eq _ _ _ c.get.ensures
