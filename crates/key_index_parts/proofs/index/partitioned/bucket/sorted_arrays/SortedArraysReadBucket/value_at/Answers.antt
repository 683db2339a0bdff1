use Rattle.std.proofs.Common.{rules, ◌<◌, ◌^◌, sym, ◌∙◌, arith}
use Rattle.key_index_parts.proofs.pairs.FoundRun.{run_count, place_within, slice_get-values_of}
use Rattle.key_index_parts.proofs.index.partitioned.bucket.sorted_arrays.SortedArraysReadBucket.value_at.Goals as goal

pub overflow_add-run : goal.overflow_add-run
overflow_add-run g c =
    let count = run_count g.met.T.Key.Ord.total g.met.T.Translator.exact c.run_range-run.ensures in
    let small : c.run_range-run.result.end < 2 ^ 64 = search rules in
    omega (arith, count, small, c.requires)

pub value_at-requires : goal.value_at-requires
value_at-requires g c = place_within g.met.T.Key.Ord.total g.met.T.Translator.exact c.run_range-run.ensures c.args.place c.requires

pub returns : goal.returns
returns g c = sym (slice_get-values_of g.met.T.Key.Ord.total g.met.T.Translator.exact c.run_range-run.ensures c.args.place c.requires) ∙ c.value_at.ensures
