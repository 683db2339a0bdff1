use Rattle.std.proofs.Common.{◌≡◌, drop}
use Rattle.std.specs.List.{last_or}
use Rattle.key_index_flat.specs.Neighbours.{entries_below, last_list}
use Rattle.key_index_plain.specs.Entries.{listed}
use Rattle.key_index_plain.proofs.ScanLemmas.{lists_of}
use Rattle.key_index_plain.proofs.entries.neighbours.below.Given as goal

abbrev pub invariant-loop-entry : goal.invariant-loop-entry
invariant-loop-entry g l = last_or l.found (lists_of (entries_below g.K.Ord.cmp (listed (drop l.entry-index l.entries)) l.key)) ≡ last_list (entries_below g.K.Ord.cmp (listed l.entries) l.key)
