use Rattle.std.proofs.Common.{◌≡◌, true, false, All, map}
use Rattle.std.specs.List.{Contains}
use Rattle.key_index_flat.specs.FullKeys.{AsRead, IsNearestRead, above, below, first_with}
use Rattle.key_index_flat.proofs.index.records.nearest_beside.Given as goal

-- the nearest on both sides among the values so far, of which none has the key
abbrev pub invariant-loop-value : goal.invariant-loop-value
invariant-loop-value g l = record {
  reads : g.R.Records.reads l.fn.records l.records;
  left : All (Contains l.fn.values) l.value-iterator;
  first : AsRead (g.R.Records.agrees l.records) (λ keys. first_with keys l.key l.fn.values ≡ first_with keys l.key l.value-iterator);
  below : AsRead (g.R.Records.agrees l.records) (λ keys.
      IsNearestRead keys g.R.Key.AsSlice.items false (below keys l.key (map (λ value. value.now) l.yielded)) l.below);
  above : AsRead (g.R.Records.agrees l.records) (λ keys.
      IsNearestRead keys g.R.Key.AsSlice.items true (above keys l.key (map (λ value. value.now) l.yielded)) l.above);
}
