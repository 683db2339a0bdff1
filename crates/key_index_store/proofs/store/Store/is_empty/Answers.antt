use Rattle.key_index_store.specs.Stored.{held_by}
use Rattle.key_index_store.proofs.StoreLemmas.{values_empty-len}
use Rattle.key_index_store.proofs.store.Store.is_empty.Goals as goal

pub returns : goal.returns
returns g c = λ log seen. values_empty-len (held_by log) c.len.result (c.len.ensures log seen)
