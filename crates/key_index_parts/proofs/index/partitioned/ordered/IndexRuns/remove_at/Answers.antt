use Rattle.key_index_parts.proofs.index.partitioned.ordered.IndexRuns.remove_at.Goals as goal

pub returns-clause-edited : goal.returns-clause-edited
returns-clause-edited g c = (c.args.slot.0, c.remove_at.ensures.standing)
