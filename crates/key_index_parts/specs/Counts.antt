-- The counts of what buckets hold.
use Rattle.std.specs.Prelude.{ℕ, Bool, ◌+◌, ◌-◌, ◌^◌, ◌≤◌, nat_lt, if◌then◌else◌}

abbrev pub one_if : Bool → ℕ
one_if b = if b then 1 else 0

-- how many index keys a list of n values takes
abbrev pub keys_for : ℕ → ℕ
keys_for n = one_if (nat_lt 0 n)

-- that under one index key so many values can become so many
pub record CanChange (items keys had left : ℕ) : Type 0 where
  pub held : had ≤ items
  pub keyed : keys_for had ≤ keys
  pub items_fit : items + left ≤ had + (2 ^ 64 - 1)
  pub keys_fit : keys + keys_for left ≤ keys_for had + (2 ^ 64 - 1)
