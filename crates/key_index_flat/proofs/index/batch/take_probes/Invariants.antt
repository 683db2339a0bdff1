use Rattle.std.proofs.Common.{◌≡◌, ◌+◌, ◌^◌, ◌<◌, length, map}
use Rattle.key_index_flat.specs.Visits.{probes_from}
use Rattle.key_index_flat.proofs.index.batch.take_probes.Given as goal

abbrev pub invariant-loop-key : goal.invariant-loop-key
invariant-loop-key g l =
    (goal.iterator-loop-key g).can_next l.key-iterator
    × (goal.iterator-loop-key g).is_finite l.key-iterator
    × (l.place + (goal.iterator-loop-key g).remaining l.key-iterator < 2 ^ 64)
    × (l.place ≡ length l.yielded)
    × (l.probes.items ≡ probes_from (g.I.Runs.view l.index).slot 0 (map g.B.Item.AsSlice.items l.yielded))
