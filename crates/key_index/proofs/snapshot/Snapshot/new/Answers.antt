use Rattle.key_index.proofs.snapshots.KeptLemmas.{empty_kept}
use Rattle.key_index.proofs.snapshot.Snapshot.new.Goals as goal

pub invariant_of-result : goal.invariant_of-result
invariant_of-result g c = empty_kept g.met.I.Key.Ord.total g.met.I.Runs.exact (g.I.Runs.view c.args.index) c.requires
