use Rattle.std.proofs.Common.{◌≡◌, ◌-◌, slice_index, nat_lt}
use Rattle.std.specs.List.{find, range_with_len}
use Rattle.key_index.proofs.table.free_between.Given as goal

-- what is found in the rest is found in the whole
abbrev pub invariant-loop-cell : goal.invariant-loop-cell
invariant-loop-cell l =
    find (λ i. nat_lt (slice_index l.controls i) 2) (range_with_len l.cell (l.fn.to - l.cell))
    ≡ find (λ i. nat_lt (slice_index l.controls i) 2) (range_with_len l.fn.from (l.fn.to - l.fn.from))
