use Rattle.key_index_store.proofs.memory_folder.MemoryFolderFolder.remove.Goals as goal

pub invariant_of-self : goal.invariant_of-self
invariant_of-self c = c.give.ensures.kept c.self.inside.kept c.self.invariant
