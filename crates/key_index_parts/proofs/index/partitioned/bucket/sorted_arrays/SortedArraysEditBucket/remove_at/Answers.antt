use Rattle.std.proofs.Common.{rules, ◌<◌, ◌^◌, ap, sym, ◌∙◌, arith}
use Rattle.key_index_parts.specs.Pairs.{grouped}
use Rattle.key_index_parts.proofs.pairs.FoundRun.{run_count, place_within, slice_get-values_of, grouped-removed}
use Rattle.key_index_parts.proofs.index.partitioned.bucket.sorted_arrays.SortedArraysEditBucket.remove_at.Goals as goal

pub overflow_add-run : goal.overflow_add-run
overflow_add-run g c =
    let count = run_count g.met.T.Key.Ord.total g.met.T.Translator.exact c.run_range-run.ensures in
    let small : c.run_range-run.result.end < 2 ^ 64 = search rules in
    omega (arith, count, small, c.requires)

pub remove-value-requires : goal.remove-value-requires
remove-value-requires g c = place_within g.met.T.Key.Ord.total g.met.T.Translator.exact c.run_range-run.ensures c.args.place c.requires

pub overflow_sub-result-2 : goal.overflow_sub-result-2
overflow_sub-result-2 g c = let count = run_count g.met.T.Key.Ord.total g.met.T.Translator.exact c.run_range-run.ensures in omega (arith, count, c.requires)

pub returns-clause-value : goal.returns-clause-value
returns-clause-value g c = sym (slice_get-values_of g.met.T.Key.Ord.total g.met.T.Translator.exact c.run_range-run.ensures c.args.place c.requires) ∙ c.remove-value.ensures.value

pub returns-clause-content : goal.returns-clause-content
returns-clause-content g c = ap (grouped g.T.Key.Ord.cmp) c.remove-value.ensures.pairs ∙ grouped-removed g.met.T.Key.Ord.total g.met.T.Translator.exact c.run_range-run.ensures c.args.place c.requires

pub returns-clause-left : goal.returns-clause-left
returns-clause-left g c = let count = run_count g.met.T.Key.Ord.total g.met.T.Translator.exact c.run_range-run.ensures in omega (arith, count, c.requires)
