use Rattle.std.proofs.Common.{◌≡◌}
use Rattle.key_index_c.specs.Calls.{start_of}
use Rattle.key_index_c.specs.Ranges.{after_offers}
use Rattle.key_index_c.proofs.any_range.insert_many.Given as goal

abbrev pub invariant-loop-count : goal.invariant-loop-count
invariant-loop-count g l =
    let view = g.R.Runs.view in
    (l.start ≡ start_of l.ends l.count)
    × (view l.range ≡ after_offers g.R.Key.Ord.cmp g.R.PartitionRange.INSERT_FIRST (view l.initial.range) l.keys l.ends l.values l.count)
