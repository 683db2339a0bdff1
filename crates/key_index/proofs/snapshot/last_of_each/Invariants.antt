use Rattle.std.proofs.Common.{◌≡◌, reverse}
use Rattle.std.specs.FinMap.{entries}
use Rattle.key_index.specs.Snapshot.{entries_of, positions_of}
use Rattle.key_index.proofs.snapshot.last_of_each.Given as goal

abbrev pub invariant-loop-item : goal.invariant-loop-item
invariant-loop-item l = entries_of l.last.entries ≡ entries (positions_of (reverse l.yielded))
