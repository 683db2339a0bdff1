use Rattle.std.proofs.Common.{refl}
use Rattle.key_index_store.proofs.NameLemmas.{memory_made}
use Rattle.key_index_store.proofs.memory_folder.MemoryFolderFolder.make.Goals as goal

pub invariant_of-self-2 : goal.invariant_of-self-2
invariant_of-self-2 c = rw (c.noted-self-inside.ensures, c.in_ok-set.ensures.done) (memory_made _ _ _ c.self.invariant c.args.name.now _ _ refl)
