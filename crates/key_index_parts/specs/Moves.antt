-- What is moved stays paid for: with what the values that are held are yet to pay for, it is at most two moves for each of them, and three
-- for each that was taken out.
--     entries_in               how many values all partitions hold
--     credit                   what the values of a partition are yet to pay for: of an inline one, more than half of a spill; of a spilled one,
--                              a return
--     range_credit             the same of a range, which is installed at any threshold: the greatest credit
--     IsPaid                   the bound, until the count of the values that were taken out has stopped
--     IsWithin, IsRangeWithin  that of an index, and of a range
use Rattle.std.specs.Prelude.{ℕ, ◌+◌, ◌-◌, ◌*◌, ◌^◌, ◌<◌, ◌≤◌, min, if◌then◌else◌}
use Rattle.std.specs.List.{sum_by}
use Rattle.key_index_parts.specs.Standing.{Standing, Standings}

abbrev pub entries_in : Standings → ℕ
entries_in s = sum_by (λ p. p.entries) s.buckets

abbrev pub credit : ℕ → Standing → ℕ
credit threshold p = if p.spilled then min p.entries (threshold - p.entries) else 2 * p.entries - threshold

abbrev pub range_credit : Standing → ℕ
range_credit p = if p.spilled then p.entries else 2 * p.entries

abbrev pub IsPaid : (Standing → ℕ) → Standings → ℕ → Type 0
IsPaid owed s pruned = pruned < 2 ^ 64 - 1 → s.moved + sum_by owed s.buckets ≤ 2 * entries_in s + 3 * pruned

abbrev pub IsWithin : Standings → ℕ → Type 0
IsWithin s pruned = IsPaid (credit s.threshold) s pruned

abbrev pub IsRangeWithin : Standings → ℕ → Type 0
IsRangeWithin s pruned = IsPaid range_credit s pruned
