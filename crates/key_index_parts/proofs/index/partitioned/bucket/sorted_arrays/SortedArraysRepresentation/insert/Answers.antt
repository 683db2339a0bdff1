use Rattle.std.proofs.Common.{ap, ◌∙◌}
use Rattle.key_index_parts.specs.Pairs.{grouped}
use Rattle.key_index_parts.proofs.pairs.FoundRun.{may_append, grouped-inserted_last, none_there}
use Rattle.key_index_parts.proofs.index.partitioned.bucket.sorted_arrays.SortedArraysRepresentation.insert.Goals as goal

pub insert_at-requires-clause-sorted : goal.insert_at-requires-clause-sorted
insert_at-requires-clause-sorted g c = may_append g.met.T.Key.Ord.total g.met.T.Translator.exact c.run_range-run.ensures

pub returns-in-Ok-clause-accepted : goal.returns-in-Ok-clause-accepted
returns-in-Ok-clause-accepted g c =
    (ap (grouped g.T.Key.Ord.cmp) c.in-Ok.ensures.accepted ∙ grouped-inserted_last g.met.T.Key.Ord.total g.met.T.Translator.exact c.run_range-run.ensures c.args.value, none_there g.met.T.Key.Ord.total g.met.T.Translator.exact c.run_range-run.ensures)
