use Rattle.key_index_flat.proofs.content.PairLemmas.{value_at}
use Rattle.key_index_flat.proofs.index.storage.small_map.Pairs.get.Goals as goal

pub returns-in-Some : goal.returns-in-Some
returns-in-Some g c =
    value_at g.met.K.Ord.matches_eq g.met.K.Ord.total g.met.K.Eq.laws c.self.inside.pairs.items c.args.self.now c.self.view_is c.self.invariant.1
    c.args.key.now c.in-Some.place c.in-Some.ensures.found c.index.result.now c.index.ensures
