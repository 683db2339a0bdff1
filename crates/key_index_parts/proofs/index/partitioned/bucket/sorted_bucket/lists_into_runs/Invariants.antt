use Rattle.std.proofs.Common.{◌≡◌, ◌≤◌, ◌++◌, length}
use Rattle.key_index_flat.specs.Content.{IsLawful, item_count}
use Rattle.key_index_parts.specs.Spread.{AreBelow, spread}
use Rattle.key_index_parts.proofs.index.partitioned.bucket.sorted_bucket.lists_into_runs.Given as goal

abbrev pub invariant-lists : goal.invariant-lists
invariant-lists g l = record {
  whole : l.arrays.pairs ++ spread l.lists.content ≡ l.initial.arrays.pairs ++ spread l.initial.lists.content;
  apart : AreBelow g.T.Key.Ord.cmp l.arrays.pairs l.lists.content;
  lawful : IsLawful g.T.Key.Ord.cmp l.lists.content;
  room : item_count l.lists.content ≤ l.arrays.room;
}

abbrev pub decreases-lists : goal.decreases-lists
decreases-lists g l = length l.lists.content
