use Rattle.key_index_parts.proofs.index.partitioned.ordered.Index.get_many.Goals as goal

pub returns-clause-seen : goal.returns-clause-seen
returns-clause-seen g c = (c.visit_probes.result, (c.in_ok-probes.probes.items, c.in_ok-probes.ensures.probes, c.visit_probes.ensures))
