use Rattle.std.proofs.Common.{◌≡◌, drop}
use Rattle.key_index_flat.specs.Neighbours.{entries_above, first_list}
use Rattle.key_index_plain.specs.Entries.{listed}
use Rattle.key_index_plain.proofs.entries.neighbours.above.Given as goal

abbrev pub invariant-loop-entry : goal.invariant-loop-entry
invariant-loop-entry g l = first_list (entries_above g.K.Ord.cmp (listed (drop l.entry-index l.entries)) l.key) ≡ first_list (entries_above g.K.Ord.cmp (listed l.entries) l.key)
