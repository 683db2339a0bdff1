use Rattle.std.proofs.Common.{◌≡◌, ℕ, suc, ◌<◌, slice_index}
use Rattle.key_index_flat.specs.View.{run_of}
use Rattle.key_index_c.specs.Buffer.{filled}
use Rattle.key_index_c.specs.Calls.{counted, lists_of, start_of}
use Rattle.key_index_c.proofs.any.get_many.Given as goal

abbrev pub invariant-loop-number : goal.invariant-loop-number
invariant-loop-number g l =
    let lists = lists_of (run_of g.I.Key.Ord.cmp (g.I.Runs.view l.index)) l.keys l.ends in
    (l.start ≡ start_of l.ends l.number)
    × (l.count ≡ counted (lists l.number))
    × (l.buffer ≡ filled (lists l.number) l.initial.buffer)
    × ((i : ℕ) → i < l.number → slice_index l.stops i ≡ counted (lists (suc i)))
