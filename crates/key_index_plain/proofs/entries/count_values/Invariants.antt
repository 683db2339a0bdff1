use Rattle.std.proofs.Common.{◌≡◌, ◌+◌, drop}
use Rattle.key_index_flat.specs.Content.{item_count}
use Rattle.key_index_plain.specs.Entries.{listed}
use Rattle.key_index_plain.proofs.entries.count_values.Given as goal

abbrev pub invariant-loop-entry : goal.invariant-loop-entry
invariant-loop-entry g l = l.count + item_count (listed (drop l.entry-index l.entries)) ≡ item_count (listed l.entries)
