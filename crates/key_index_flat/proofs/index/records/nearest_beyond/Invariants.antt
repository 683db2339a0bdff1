use Rattle.std.proofs.Common.{All, map}
use Rattle.std.specs.List.{Contains}
use Rattle.key_index_flat.specs.FullKeys.{AsRead, IsNearestRead, beyond}
use Rattle.key_index_flat.proofs.index.records.nearest_beyond.Given as goal

-- the nearest of those beyond the key among the values so far
abbrev pub invariant-loop-value : goal.invariant-loop-value
invariant-loop-value g l =
    record {
      reads : g.R.Records.reads l.fn.records l.records;
      left : All (Contains l.fn.values) l.value-iterator;
      least : AsRead (g.R.Records.agrees l.records) (λ keys.
          IsNearestRead keys g.R.Key.AsSlice.items g.S.Side.is_above (beyond keys g.S.Side.is_above l.key (map (λ value. value.now) l.yielded)) l.nearest);
    }
