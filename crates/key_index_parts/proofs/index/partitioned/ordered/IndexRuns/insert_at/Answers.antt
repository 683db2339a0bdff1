use Rattle.std.proofs.Common.{ap}
use Rattle.key_index_parts.proofs.buckets.ShiftedLemmas.{OnErr-implied}
use Rattle.key_index_parts.proofs.standing.StandingLemmas.{leaves_either}
use Rattle.key_index_parts.proofs.index.partitioned.ordered.IndexRuns.insert_at.Goals as goal

pub returns-clause-edited : goal.returns-clause-edited
returns-clause-edited g c =
    leaves_either c.insert_at.result c.args.slot.0 c.args.self.now.storage.standings c.insert_at.new.self.standings c.insert_at.ensures.standing
    (OnErr-implied c.insert_at.result _ _ (λ e. ap (λ s. s.standings) e) c.insert_at.ensures.refused)
