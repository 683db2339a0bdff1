use Rattle.std.proofs.Common.{◌≡◌, ◌≤◌, All, length, take}
use Rattle.key_index_store.specs.Device.{IsRead, Sees}
use Rattle.key_index_store.specs.Indexed.{IsLive}
use Rattle.key_index_store.specs.Positions.{positions_from}
use Rattle.key_index_store.proofs.DamageLemmas.{HasPassed}
use Rattle.key_index_store.proofs.store.neighbours.readable_from.Given as goal

-- what the turns so far have passed
abbrev pub invariant-loop-found : goal.invariant-loop-found
invariant-loop-found g l = record {
  read : IsRead g.D.Device.seen g.D.Device.damaged g.D.Device.may_leave l.fn.log.device l.log.device;
  end : l.log.end ≡ l.fn.log.end;
  passes : Sees (g.D.Device.seen l.log.device) (λ bytes. l.fn.log.end ≤ length bytes
      → All (IsLive (take l.fn.log.end bytes)) (positions_from g.I.Key.Ord.cmp (g.I.Runs.view l.index) l.fn.slot l.fn.place)
      → HasPassed (g.D.Device.damaged l.log.device) (take l.fn.log.end bytes) l.is_above l.key (positions_from g.I.Key.Ord.cmp (g.I.Runs.view l.index) l.fn.slot l.fn.place)
      (positions_from g.I.Key.Ord.cmp (g.I.Runs.view l.index) l.slot l.place) l.passed.items);
}

abbrev pub decreases-loop-found : goal.decreases-loop-found
decreases-loop-found g l = length (positions_from g.I.Key.Ord.cmp (g.I.Runs.view l.index) l.slot l.place)
