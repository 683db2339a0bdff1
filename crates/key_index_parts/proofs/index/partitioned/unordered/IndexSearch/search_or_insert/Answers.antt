use Rattle.std.proofs.Common.{arith}
use Rattle.key_index_parts.specs.Gathered.{pair_cmp}
use Rattle.key_index_parts.proofs.buckets.ReachLemmas.{run_reached}
use Rattle.key_index_parts.proofs.index.partitioned.unordered.IndexSearch.search_or_insert.Goals as goal

pub cursor_of-with_len-requires-clause-known : goal.cursor_of-with_len-requires-clause-known
cursor_of-with_len-requires-clause-known g c =
    let some = c.in-Ok-cursor_of.field-0-1-test.1 in
    run_reached (pair_cmp g.T.Key.Ord.cmp) c.in-Ok-cursor_of.field-0-0 c.in-Ok-cursor_of.field-0-1 (c.in-Ok-cursor_of.ensures.found (omega (arith, some))).0 c.in-Ok-cursor_of.ensures.reached
