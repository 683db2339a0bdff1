use Rattle.std.proofs.Common.{arith}
use Rattle.key_index_flat.proofs.content.PairLemmas.{none_found}
use Rattle.key_index_flat.proofs.index.storage.small_map.place_from.Goals as goal

pub returns-clause-none : goal.returns-clause-none
returns-clause-none g c = none_found g.K.PartialEq.eq c.args.key.now c.args.pairs.now c.loop-place.place (omega arith) c.loop-place.invariant
