use Rattle.std.proofs.Common.{rules, ◌<◌, ◌^◌, ap, ◌∙◌, arith}
use Rattle.key_index_parts.specs.Pairs.{grouped}
use Rattle.key_index_parts.proofs.pairs.FoundRun.{run_count, place_within, grouped-set_in}
use Rattle.key_index_parts.proofs.index.partitioned.bucket.sorted_arrays.SortedArraysEditBucket.set_at.Goals as goal

pub overflow_add-run : goal.overflow_add-run
overflow_add-run g c =
    let count = run_count g.met.T.Key.Ord.total g.met.T.Translator.exact c.run_range-run.ensures in
    let small : c.run_range-run.result.end < 2 ^ 64 = search rules in
    omega (arith, count, small, c.requires)

pub set-requires : goal.set-requires
set-requires g c = place_within g.met.T.Key.Ord.total g.met.T.Translator.exact c.run_range-run.ensures c.args.place c.requires

pub returns-clause-content : goal.returns-clause-content
returns-clause-content g c = ap (grouped g.T.Key.Ord.cmp) c.set.ensures.pairs ∙ grouped-set_in g.met.T.Key.Ord.total g.met.T.Translator.exact c.run_range-run.ensures c.args.place c.args.value c.requires
