use Rattle.std.proofs.Common.{rules, arith}
use Rattle.key_index_parts.specs.Gathered.{pair_cmp}
use Rattle.key_index_parts.proofs.buckets.ReachLemmas.{run_reached}
use Rattle.key_index_parts.proofs.index.partitioned.ordered.IndexSearch.search_or_insert.Goals as goal

pub cursor_of-with_len-requires-clause-known : goal.cursor_of-with_len-requires-clause-known
cursor_of-with_len-requires-clause-known g c =
    let some = c.in-Ok-cursor_of.field-0-1-test.1 in
    run_reached (pair_cmp g.T.Key.Ord.cmp) c.in-Ok-cursor_of.field-0-0 c.in-Ok-cursor_of.field-0-1 (c.in-Ok-cursor_of.ensures.found (omega (arith, some))).0 c.in-Ok-cursor_of.ensures.reached

pub returns-in-Ok-cursor_of : goal.returns-in-Ok-cursor_of
returns-in-Ok-cursor_of g c = (
  search rules,
  record {
    rests = tt;
    same_reference = search rules;
    found = rw c.cursor_of-with_len.ensures.same_index (c.in-Ok-cursor_of.ensures.found (omega (arith, c.in-Ok-cursor_of.field-0-1-test.1)));
    start = search rules;
    held = search rules;
    room = search rules;
    returned = tt;
    fault = tt;
  },
)
