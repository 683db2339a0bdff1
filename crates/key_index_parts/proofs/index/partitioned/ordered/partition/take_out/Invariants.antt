use Rattle.std.proofs.Common.{◌≡◌, ◌-◌, ◌≤◌, length}
use Rattle.std.specs.List.{remove_range}
use Rattle.std.specs.Vec.{vec_capacity}
use Rattle.key_index_parts.proofs.pairs.GapLemmas.{Closed}
use Rattle.key_index_parts.proofs.index.partitioned.ordered.partition.take_out.Given as goal

abbrev pub invariant-items : goal.invariant-items
invariant-items g l = record {
  closed : Closed l.fn.items.items l.items.items l.fn.from l.fn.to l.into l.at;
  capacity : vec_capacity l.items ≡ vec_capacity l.fn.items;
}

abbrev pub decreases-items : goal.decreases-items
decreases-items g l = length l.items.items - l.at

-- what is still to go
abbrev pub invariant-left : goal.invariant-left
invariant-left g l = record {
  rest : remove_range l.items.items l.fn.from l.end ≡ remove_range l.fn.items.items l.fn.from l.fn.to;
  order : l.fn.from ≤ l.end;
  within : l.end ≤ length l.items.items;
  capacity : vec_capacity l.items ≡ vec_capacity l.fn.items;
}

abbrev pub decreases-left : goal.decreases-left
decreases-left g l = l.end
