use Rattle.key_index_flat.specs.Neighbours.{entries_below}
use Rattle.key_index_plain.specs.Entries.{listed}
use Rattle.key_index_plain.proofs.ScanLemmas.{last_scanned}
use Rattle.key_index_plain.proofs.entries.neighbours.below.Goals as goal

pub loop-entry-init : goal.loop-entry-init
loop-entry-init g c = last_scanned (entries_below g.K.Ord.cmp (listed c.args.entries.now) c.args.key.now)
