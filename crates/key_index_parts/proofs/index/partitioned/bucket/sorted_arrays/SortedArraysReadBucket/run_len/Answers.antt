use Rattle.std.proofs.Common.{arith}
use Rattle.key_index_parts.proofs.pairs.FoundRun.{run_count}
use Rattle.key_index_parts.proofs.index.partitioned.bucket.sorted_arrays.SortedArraysReadBucket.run_len.Goals as goal

pub returns : goal.returns
returns g c = let count = run_count g.met.T.Key.Ord.total g.met.T.Translator.exact c.run_range-run.ensures in omega (arith, count)
