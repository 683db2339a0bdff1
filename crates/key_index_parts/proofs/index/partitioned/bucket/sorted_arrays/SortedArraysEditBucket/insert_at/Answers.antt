use Rattle.std.proofs.Common.{rules, ◌<◌, ◌^◌, ap, ◌∙◌, arith}
use Rattle.key_index_parts.specs.Pairs.{grouped}
use Rattle.key_index_parts.proofs.pairs.FoundRun.{run_count, place_upto, may_insert, grouped-inserted, none_there}
use Rattle.key_index_parts.proofs.index.partitioned.bucket.sorted_arrays.SortedArraysEditBucket.insert_at.Goals as goal

pub overflow_add-run : goal.overflow_add-run
overflow_add-run g c =
    let count = run_count g.met.T.Key.Ord.total g.met.T.Translator.exact c.run_range-run.ensures in
    let small : c.run_range-run.result.end < 2 ^ 64 = search rules in
    omega (arith, count, small, c.requires)

pub insert_at-requires-clause-place : goal.insert_at-requires-clause-place
insert_at-requires-clause-place g c = place_upto g.met.T.Key.Ord.total g.met.T.Translator.exact c.run_range-run.ensures c.args.place c.requires

pub insert_at-requires-clause-sorted : goal.insert_at-requires-clause-sorted
insert_at-requires-clause-sorted g c = may_insert g.met.T.Key.Ord.total g.met.T.Translator.exact c.run_range-run.ensures c.args.place c.requires

pub returns-in-Ok-clause-accepted : goal.returns-in-Ok-clause-accepted
returns-in-Ok-clause-accepted g c =
    (ap (grouped g.T.Key.Ord.cmp) c.in-Ok.ensures.accepted ∙ grouped-inserted g.met.T.Key.Ord.total g.met.T.Translator.exact c.run_range-run.ensures c.args.place c.args.value c.requires, none_there g.met.T.Key.Ord.total g.met.T.Translator.exact c.run_range-run.ensures)
