use Rattle.std.proofs.Common.{◌≡◌, ◌+◌, length, take, drop, map}
use denote.Param.Always.{always_mut}
use Rattle.std.specs.Slice.Iter.{iter_rest}
use Rattle.std.specs.List.{FoldsTo}
use Rattle.key_index_flat.specs.View.{run_at}
use Rattle.key_index_parts.specs.Ahead.{TellsAt, events_from, events_of, found_at}
use Rattle.key_index_parts.proofs.closures.AheadLemmas.{Waits}
use Rattle.key_index_parts.proofs.index.partitioned.ordered.ahead.look_ahead.Given as goal

abbrev pub invariant-loop-cell : goal.invariant-loop-cell
invariant-loop-cell g l =
    let run = run_at g.I.Key.Ord.cmp (g.I.Runs.view l.index) in
    always_mut g.F.FnMut l.on
    × (length l.waiting ≡ 4)
    × (iter_rest l.later ≡ drop l.cell l.probes)
    × Waits run l.probes l.waiting 0 l.cell
    × FoldsTo (TellsAt g.F.FnMut) l.fn.on (map (found_at run) (take l.cell l.probes)) l.on

abbrev pub invariant-loop-number : goal.invariant-loop-number
invariant-loop-number g l =
    let run = run_at g.I.Key.Ord.cmp (g.I.Runs.view l.index) in
    let tells = TellsAt g.F.FnMut in
    always_mut g.F.FnMut l.on
    × (length l.waiting ≡ 4)
    × (iter_rest l.later ≡ drop (l.number + 4) l.probes)
    × Waits run l.probes l.waiting l.number (l.number + 4)
    × ((last : _) → FoldsTo tells l.on (events_from run (drop (l.number + 4) l.probes) (drop l.number l.probes)) last → FoldsTo tells l.fn.on (events_of run l.probes) last)
