use Rattle.std.proofs.Common.{◌≡◌, [], ◌+◌, ◌-◌, ◌*◌, ◌≤◌, length, map, min, take}
use Rattle.key_index_store.specs.Device.{Changes, IsRead, Sees}
use Rattle.key_index_store.specs.Indexed.{HasRuns}
use Rattle.key_index_store.specs.Salvage.{gap_of, keeps}
use Rattle.key_index_store.proofs.SalvageLemmas.{Copied, Scan}
use Rattle.key_index_store.proofs.salvage.copy.Given as goal

abbrev pub invariant-loop-position : goal.invariant-loop-position
invariant-loop-position g l = record {
  order : l.start ≤ l.position;
  few : l.records ≤ l.position;
  behind : Sees (g.D.Device.seen l.from.device) (λ log. l.len ≤ length log → HasRuns g.I.Key.Ord.cmp (g.I.Runs.view l.index) (g.D.Device.damaged l.from.device) l.is_all (take l.len log) → l.end ≤ l.position);
  read : IsRead g.D.Device.seen g.D.Device.damaged g.D.Device.may_leave l.fn.from.device l.from.device;
  same_end : l.from.end ≡ l.fn.from.end;
  fresh : Changes (g.C.Device.seen l.fn.into) (g.C.Device.seen l.into) (λ old new. old ≡ []);
  scan : Sees (g.D.Device.seen l.from.device) (λ log. l.len ≤ length log → HasRuns g.I.Key.Ord.cmp (g.I.Runs.view l.index) (g.D.Device.damaged l.from.device) l.is_all (take l.len log)
      → Scan (keeps g.I.Key.Ord.cmp (g.I.Runs.view l.index) l.is_all) (take l.len log) l.block.items l.len l.start l.position l.records l.since (map gap_of l.gaps.items));
  copied : Sees (g.D.Device.seen l.from.device) (λ log. l.len ≤ length log → HasRuns g.I.Key.Ord.cmp (g.I.Runs.view l.index) (g.D.Device.damaged l.from.device) l.is_all (take l.len log)
      → Changes (g.C.Device.seen l.fn.into) (g.C.Device.seen l.into) (Copied (keeps g.I.Key.Ord.cmp (g.I.Runs.view l.index) l.is_all) (take l.len log) l.position l.end));
}

abbrev pub decreases-loop-position : goal.decreases-loop-position
decreases-loop-position g l = 2 * (l.len - l.position) + min (l.position - l.start) 1
