use Rattle.std.proofs.Common.{length}
use Rattle.key_index_store.proofs.store.sample.add_keys.Given as goal

abbrev pub decreases-loop-rest : goal.decreases-loop-rest
decreases-loop-rest l = length l.rest
