use Rattle.std.proofs.Common.{◌≡◌, ◌+◌, ◌-◌, ◌*◌, ◌^◌, ◌<◌, ◌≤◌, ◌++◌, length}
use Rattle.std.specs.List.{range_with_len}
use Rattle.key_index.specs.Table.{marked}
use Rattle.key_index.proofs.table.Places.next.Given as goal

-- what is left to find is what was left as the search went on
abbrev pub invariant-loop-self : goal.invariant-loop-self
invariant-loop-self l = record {
  same : marked l.self-inside.controls (l.self-inside.wanted + 2)
      (range_with_len l.self-inside.next (l.self-inside.end - l.self-inside.next) ++ range_with_len 0 l.self-inside.rest) ≡ l.fn.self;
  next : l.self-inside.next ≤ l.self-inside.end;
  end : l.self-inside.end ≤ length l.self-inside.controls;
  rest : l.self-inside.rest ≤ length l.self-inside.controls;
  fits : length l.self-inside.controls < 2 ^ 64;
}

abbrev pub decreases-loop-self : goal.decreases-loop-self
decreases-loop-self l = (l.self-inside.end - l.self-inside.next) + 2 * l.self-inside.rest
