use Rattle.std.proofs.Common.{◌≡◌, ◌≤◌, ◌++◌, length}
use Rattle.key_index_flat.specs.Content.{IsLawful, item_count}
use Rattle.key_index_parts.specs.Spread.{AreBelow, spread}
use Rattle.key_index_parts.proofs.index.partitioned.bucket.sorted_bucket.runs_into_lists.Given as goal

abbrev pub invariant-runs : goal.invariant-runs
invariant-runs g l = record {
  whole : l.arrays.pairs ++ spread l.lists.content ≡ l.initial.arrays.pairs;
  apart : AreBelow g.T.Key.Ord.cmp l.arrays.pairs l.lists.content;
  lawful : IsLawful g.T.Key.Ord.cmp l.lists.content;
  room : item_count l.lists.content ≤ l.arrays.room;
}

abbrev pub decreases-runs : goal.decreases-runs
decreases-runs g l = length l.arrays.pairs
