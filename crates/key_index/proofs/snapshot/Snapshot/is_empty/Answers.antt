use Rattle.key_index.proofs.snapshots.KeptLemmas.{positions_empty-len}
use Rattle.key_index.proofs.snapshot.Snapshot.is_empty.Goals as goal

pub returns : goal.returns
returns g c = positions_empty-len c.args.self.now c.len.result c.len.ensures
