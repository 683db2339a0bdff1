use Rattle.key_index_parts.proofs.index.partitioned.ordered.IndexUnordered.retain.Goals as goal

pub returns-clause-accepted : goal.returns-clause-accepted
returns-clause-accepted g c = rw (← c.slot_of-slot.ensures.slot) c.retain.ensures.retained
