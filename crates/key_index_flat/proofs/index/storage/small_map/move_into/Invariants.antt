use Rattle.std.proofs.Common.{◌+◌, ◌≤◌, length}
use Rattle.key_index_map.proofs.Transfer.{Moving}
use Rattle.key_index_flat.proofs.index.storage.small_map.move_into.Given as goal

-- the pairs that are left fit into the map, which has the others
abbrev pub invariant-loop-pair : goal.invariant-loop-pair
invariant-loop-pair g l =
    record {
      moving : Moving g.met.K.Eq.laws l.fn.pairs.items l.pairs.items l.map.entries;
      fits : length l.pairs.items ≤ l.map.spare;
      room : l.fn.map.spare + length l.pairs.items ≤ l.map.spare + length l.fn.pairs.items;
    }

abbrev pub decreases-loop-pair : goal.decreases-loop-pair
decreases-loop-pair g l = length l.pairs.items
