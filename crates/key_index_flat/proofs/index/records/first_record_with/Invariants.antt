use Rattle.std.proofs.Common.{◌≡◌, All}
use Rattle.std.specs.List.{Contains}
use Rattle.key_index_flat.specs.FullKeys.{AsRead, first_with}
use Rattle.key_index_flat.proofs.index.records.first_record_with.Given as goal

-- the first of all is the first of those that are left
abbrev pub invariant-loop-value : goal.invariant-loop-value
invariant-loop-value g l =
    record {
      reads : g.R.Records.reads l.fn.records l.records;
      left : All (Contains l.fn.values) l.value-iterator;
      first : AsRead (g.R.Records.agrees l.records) (λ keys. first_with keys l.key l.fn.values ≡ first_with keys l.key l.value-iterator);
    }
