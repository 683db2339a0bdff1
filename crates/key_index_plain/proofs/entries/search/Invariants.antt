use Rattle.std.proofs.Common.{◌≡◌, drop}
use Rattle.key_index_plain.specs.Entries.{place_of}
use Rattle.key_index_plain.proofs.ScanLemmas.{shifted}
use Rattle.key_index_plain.proofs.entries.search.Given as goal

abbrev pub invariant-loop-place : goal.invariant-loop-place
invariant-loop-place g l = place_of g.K.Ord.cmp l.entries l.key ≡ shifted l.place (place_of g.K.Ord.cmp (drop l.place l.entries) l.key)
