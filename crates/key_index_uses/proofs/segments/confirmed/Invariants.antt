use Rattle.std.proofs.Common.{◌≡◌, false, map, All}
use Rattle.std.specs.List.{Contains}
use Rattle.key_index_uses.specs.Records.{is_record}
use Rattle.key_index_uses.proofs.segments.confirmed.Given as goal

-- what is left is of the positions, and none of the others has the record
abbrev pub invariant-loop-position : goal.invariant-loop-position
invariant-loop-position g l = record {
  left : All (Contains l.fn.positions) l.position-iterator;
  rest : All (λ p. is_record (map (λ key. key.now) l.log) l.key p ≡ false) l.position-iterator
      → All (λ p. is_record (map (λ key. key.now) l.log) l.key p ≡ false) l.fn.positions;
}
