use Rattle.key_index_parts.proofs.closures.AheadLemmas.{visits_same}
use Rattle.key_index_parts.proofs.index.partitioned.ordered.ahead.same_visits.Goals as goal

pub returns : goal.returns
returns g c = visits_same
