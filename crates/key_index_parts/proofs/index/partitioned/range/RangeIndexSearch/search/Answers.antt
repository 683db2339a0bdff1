use Rattle.std.proofs.Common.{rules, refl, sym, true≢false, arith}
use Rattle.key_index_parts.specs.Gathered.{pair_cmp}
use Rattle.key_index_parts.proofs.buckets.ReachLemmas.{run_reached}
use Rattle.key_index_parts.proofs.index.partitioned.range.RangeIndexSearch.search.Goals as goal

pub cursor_of-with_len-requires-clause-known : goal.cursor_of-with_len-requires-clause-known
cursor_of-with_len-requires-clause-known g c = run_reached (pair_cmp g.T.Key.Ord.cmp) c.in-Ok-cursor_of.field-0-0 c.in-Ok-cursor_of.field-0-1 c.in-Ok-cursor_of.ensures.settled.0 c.in-Ok-cursor_of.ensures.reached

pub returns-in-Ok-cursor_of : goal.returns-in-Ok-cursor_of
returns-in-Ok-cursor_of g c = (
  search rules,
  record {
    rests = tt;
    same_reference = search rules;
    found = rw c.cursor_of-with_len.ensures.same_index c.in-Ok-cursor_of.ensures.settled;
    start = search rules;
    held = search rules;
    want = tt;
  },
)

pub returns-in-Ok-default-eq0-cursor_of : goal.returns-in-Ok-default-eq0-cursor_of
returns-in-Ok-default-eq0-cursor_of g c =
    let none = c.in-Ok-default-eq0-cursor_of.field-0-1-test in
    let told = c.in-Ok-default-eq0-cursor_of.ensures.reached in (
      (refl, λ _. tt, c.in-Ok-default-eq0-cursor_of.ensures.settled),
      record {
        rests = tt;
        same_reference = tt;
        found = tt;
        start = tt;
        held = (λ e. absurd (true≢false (sym e)), λ some. absurd (omega (arith, some, told.1, none)));
        want = tt;
      },
    )
