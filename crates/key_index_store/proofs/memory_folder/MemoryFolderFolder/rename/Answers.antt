use Rattle.std.proofs.Common.{None}
use Rattle.key_index_store.proofs.NameLemmas.{memory_not_done}
use Rattle.key_index_store.proofs.memory_folder.MemoryFolderFolder.rename.Goals as goal

pub invariant_of-self : goal.invariant_of-self
invariant_of-self c = c.give.ensures.kept c.self.inside.kept (c.give-given.ensures.kept c.self.inside.kept c.self.invariant)

pub invariant_of-self-2 : goal.invariant_of-self-2
invariant_of-self-2 c = rw c.noted-self-inside.ensures (memory_not_done _ _ _ (c.give-given.ensures.kept c.self.inside.kept c.self.invariant) c.args.from.now None)
