use Rattle.std.proofs.Common.{ap, ◌∙◌, arith}
use Rattle.key_index_parts.specs.Pairs.{grouped}
use Rattle.key_index_parts.proofs.pairs.FoundRun.{run_count, grouped-removed_all}
use Rattle.key_index_parts.proofs.index.partitioned.bucket.sorted_arrays.SortedArraysRepresentation.remove.Goals as goal

pub returns-clause-content : goal.returns-clause-content
returns-clause-content g c = ap (grouped g.T.Key.Ord.cmp) c.remove_run.ensures.pairs ∙ grouped-removed_all g.met.T.Key.Ord.total g.met.T.Translator.exact c.run_range-run.ensures

pub returns-clause-taken : goal.returns-clause-taken
returns-clause-taken g c = let count = run_count g.met.T.Key.Ord.total g.met.T.Translator.exact c.run_range-run.ensures in omega (arith, count)
