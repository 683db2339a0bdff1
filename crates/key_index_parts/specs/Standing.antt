-- How the partitions of an index stand: inline, as sorted arrays, or spilled, as an ordered map from keys to lists. A partition has the
-- number `n`.
--     Standing              how many values a partition holds, and whether it is spilled
--     Standings             the threshold, the partitions by their numbers, how many spills there ever were, and how many values were
--                           ever moved by spills and by returns to arrays
--     standings_of          the four of them
--     nth_standing          a partition; past the last one, one that holds nothing
--     inline_len            how many values of a partition stand in arrays: all of them, or none where it is spilled
--     Account               a partition apart from the others, with the counts of them all
--     account_at            that of a partition
--     with_account          the partitions with another one in its place, and with its counts
--     is_due                a partition stands inline with as many values as the threshold or more (is_reached: that of a number)
--     settled               it spilled if it is due, of a kind that spills, and what that moved counted
--     with_values           it holds m values; without values it isn't spilled
--     called                a call by key that leaves m values: it spills a partition that is due, and one that is due by what the
--                           call puts in
--     is_small              it is spilled with fewer than half as many values as the threshold
--     returned              its values moved back to arrays, and counted
--     Returns               that, of a small one, where there is memory for it
--     IsBelow               it has fewer values in arrays than the threshold
--     IsCalled, IsRemoved   what an accepted call by key leaves of it, and one that removes values
--     IsLeftBy              what a refused one leaves of it
--     Changes               one partition changes, and no other
--     Settles, Resettles    what an accepted call by key leaves, and one that removes values
--     Refuses               what a refused one leaves, of an index of so many values
--     Leaves, LeavesSome    what a cursor edit leaves, in a partition, and in some partition
--     joined_standings      with the partitions of a range from a number on
--     new_standings         so many partitions that hold nothing
--     spilled_in            how many partitions are spilled
use Rattle.std.specs.Prelude.{◌≡◌, ◌⊎◌, ℕ, ◌+◌, ◌-◌, ◌*◌, ◌^◌, ◌<◌, Bool, true, false, not, ◌&&◌, ◌||◌, nat_lt, nat_le, IsTrue, if◌then◌else◌, List, ◌++◌, length, take, drop, replicate, slice_index_or, slice_set}
use Rattle.std.specs.List.{filter}
use Rattle.key_index_flat.specs.View.{pruned_after}
use Rattle.key_index_parts.specs.Counts.{one_if}

pub record Standing : Type 0 where
  pub entries : ℕ
  pub spilled : Bool

pub record Standings : Type 0 where
  pub threshold : ℕ
  pub buckets : List Standing
  pub spills : ℕ
  pub moved : ℕ

abbrev pub standings_of : ℕ → List Standing → ℕ → ℕ → Standings
standings_of threshold buckets spills moved =
    record { threshold = threshold; buckets = buckets; spills = spills; moved = moved }

abbrev pub nth_standing : List Standing → ℕ → Standing
nth_standing buckets n = slice_index_or buckets n (record { entries = 0; spilled = false })

abbrev pub standing_at : Standings → ℕ → Standing
standing_at s n = nth_standing s.buckets n

abbrev pub entries_at : Standings → ℕ → ℕ
entries_at s n = (standing_at s n).entries

abbrev pub inline_len : Standings → ℕ → ℕ
inline_len s n = if (standing_at s n).spilled then 0 else entries_at s n

pub record Account : Type 0 where
  pub threshold : ℕ
  pub standing : Standing
  pub spills : ℕ
  pub moved : ℕ

abbrev pub account_at : Standings → ℕ → Account
account_at s n = record { threshold = s.threshold; standing = standing_at s n; spills = s.spills; moved = s.moved }

abbrev pub with_account : Standings → ℕ → Account → Standings
with_account s n a = standings_of a.threshold (slice_set s.buckets n a.standing) a.spills a.moved

abbrev pub is_due : Account → Bool
is_due a = not a.standing.spilled && nat_le a.threshold a.standing.entries

abbrev pub is_reached : Standings → ℕ → Bool
is_reached s n = is_due (account_at s n)

abbrev pub settled : Bool → Account → Account
settled spills a = record {
  threshold = a.threshold;
  standing = record { entries = a.standing.entries; spilled = (spills && is_due a) || a.standing.spilled };
  spills = pruned_after a.spills (one_if (spills && is_due a));
  moved = pruned_after a.moved (if spills && is_due a then a.standing.entries else 0);
}

abbrev pub with_values : Account → ℕ → Account
with_values a m = record a { standing = record { entries = m; spilled = a.standing.spilled && nat_lt 0 m } }

abbrev pub called : Bool → Account → ℕ → Account
called spills a m = settled spills (with_values (settled spills a) m)

abbrev pub is_small : Account → Bool
is_small a = a.standing.spilled && nat_lt (2 * a.standing.entries) a.threshold

abbrev pub returned : Account → Account
returned a = record a {
  standing = record { entries = a.standing.entries; spilled = false };
  moved = pruned_after a.moved a.standing.entries;
}

-- where the memory for its arrays is refused, it stays as it is
abbrev pub Returns : Account → Account → Type 0
Returns a b = (b ≡ a) ⊎ (IsTrue (is_small a) × (b ≡ returned a))

abbrev pub IsBelow : Account → Type 0
IsBelow a = (if a.standing.spilled then 0 else a.standing.entries) < a.threshold

abbrev pub IsCalled : Bool → Account → Account → Type 0
IsCalled spills a b = b ≡ called spills a b.standing.entries

abbrev pub IsRemoved : Bool → Account → Account → Type 0
IsRemoved spills a b = Returns (called spills a b.standing.entries) b

abbrev pub IsLeftBy : Bool → Account → Account → Type 0
IsLeftBy spills a b = (b ≡ a) ⊎ (b ≡ settled spills a)

pub record Changes (R : Account → Account → Type 0) (old : Standings) (n : ℕ) (new : Standings) : Type 0 where
  pub by : R (account_at old n) (account_at new n)
  pub alone : new ≡ with_account old n (account_at new n)

abbrev pub Settles : Standings → ℕ → Standings → Type 0
Settles = Changes (λ a b. IsCalled true a b × IsBelow b)

abbrev pub Resettles : Standings → ℕ → Standings → Type 0
Resettles = Changes (λ a b. IsRemoved true a b × IsBelow b)

-- a full index refuses before anything spills; else a spill that was due may have come before the growth that was refused
abbrev pub Refuses : ℕ → Standings → ℕ → Standings → Type 0
Refuses items old n new = (new ≡ old) ⊎ ((items < 2 ^ 64 - 1) × Changes (λ a b. b ≡ settled true a) old n new)

abbrev pub Leaves : Standings → ℕ → Standings → Type 0
Leaves = Changes (λ a b. b ≡ with_values a b.standing.entries)

abbrev pub LeavesSome : Standings → Standings → Type 0
LeavesSome old new = (n : ℕ) × Leaves old n new

abbrev pub joined_standings : Standings → ℕ → Standings → Standings
joined_standings s first range = record s {
  buckets = take first s.buckets ++ (range.buckets ++ drop (first + length range.buckets) s.buckets);
  spills = pruned_after s.spills range.spills;
  moved = pruned_after s.moved range.moved;
}

abbrev pub new_standings : ℕ → ℕ → Standings
new_standings threshold count = record {
  threshold = threshold;
  buckets = replicate count (record { entries = 0; spilled = false });
  spills = 0;
  moved = 0;
}

abbrev pub spilled_in : List Standing → ℕ
spilled_in buckets = length (filter (λ p. p.spilled) buckets)
