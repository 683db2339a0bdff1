use Rattle.key_index_store.proofs.memory_folder.MemoryFolderFolder.link.Goals as goal

pub invariant_of-self-2 : goal.invariant_of-self-2
invariant_of-self-2 c = c.give.ensures.kept c.self.inside.kept c.self.invariant
