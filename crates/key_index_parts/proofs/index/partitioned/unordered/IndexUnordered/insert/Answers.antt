use Rattle.key_index_parts.proofs.index.partitioned.unordered.IndexUnordered.insert.Goals as goal

pub returns-clause-accepted : goal.returns-clause-accepted
returns-clause-accepted g c = rw (← c.slot_of-slot.ensures.slot) c.insert.ensures.accepted
