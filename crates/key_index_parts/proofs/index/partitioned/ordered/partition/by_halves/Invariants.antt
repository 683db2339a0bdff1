use Rattle.std.proofs.Common.{Bool, length, ◌+◌, ◌<◌, ◌≤◌}
use denote.Param.Always.{always_mut}
use Rattle.std.specs.Fn.{ComputesKey}
use Rattle.std.specs.List.{filter}
use Rattle.std.specs.List.Sorted.{IsPartitionedBy}
use Rattle.key_index_parts.proofs.index.partitioned.ordered.partition.by_halves.Given as goal

-- those in front that are counted, and among how many behind them the last of all that are stands
abbrev pub invariant-halves : goal.invariant-halves
invariant-halves g l = record {
  some : 0 < l.left;
  within : l.from + l.left ≤ length l.keys;
  callable : always_mut g.P.FnMut l.test;
  near : (p : g.row.K.Denot → Bool) → ComputesKey g.P.FnMut p l.initial.test → IsPartitionedBy p l.keys
      → ComputesKey g.P.FnMut p l.test × (l.from ≤ length (filter p l.keys)) × (length (filter p l.keys) ≤ l.from + l.left);
}
