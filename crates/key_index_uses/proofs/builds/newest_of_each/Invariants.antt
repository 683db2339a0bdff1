use Rattle.std.proofs.Common.{◌≡◌, ◌++◌, ℕ, List, length, Vec}
use Rattle.std.specs.declared.alloc.Global.{Global}
use Rattle.std.specs.FinMap.{entries}
use Rattle.key_index.specs.Snapshot.{entries_of}
use Rattle.key_index_uses.specs.Newest.{newest}
use Rattle.key_index_uses.proofs.builds.newest_of_each.Given as goal

abbrev pub invariant-records : goal.invariant-records
invariant-records l = record {
  done : List (Vec ℕ Global × ℕ);
  split : l.records.items ++ done ≡ l.fn.records.items;
  kept : entries_of l.found.entries ≡ entries (newest done);
}

abbrev pub decreases-records : goal.decreases-records
decreases-records l = length l.records.items
