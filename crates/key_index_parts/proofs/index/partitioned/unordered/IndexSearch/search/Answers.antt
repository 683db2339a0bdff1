use Rattle.key_index_parts.specs.Gathered.{pair_cmp}
use Rattle.key_index_parts.proofs.buckets.ReachLemmas.{run_reached}
use Rattle.key_index_parts.proofs.index.partitioned.unordered.IndexSearch.search.Goals as goal

pub cursor_of-with_len-requires-clause-known : goal.cursor_of-with_len-requires-clause-known
cursor_of-with_len-requires-clause-known g c = run_reached (pair_cmp g.T.Key.Ord.cmp) c.in-Ok-cursor_of.field-0-0 c.in-Ok-cursor_of.field-0-1 c.in-Ok-cursor_of.ensures.settled.0 c.in-Ok-cursor_of.ensures.reached
