use Rattle.std.proofs.Common.{◌≡◌, ◌≤◌, ◌<◌, ◌-◌, ℕ, length, slice_index}
use Rattle.key_index_map.proofs.table.fill.Given as goal

abbrev pub invariant-loop-place : goal.invariant-loop-place
invariant-loop-place l =
    record {
      from : l.from ≤ l.place;
      long : length l.tags ≡ length l.fn.tags;
      before : (i : ℕ) → i < l.from → slice_index l.tags i ≡ slice_index l.fn.tags i;
      behind : (i : ℕ) → l.from ≤ i → i < l.place → slice_index l.tags i ≡ l.tag;
    }

abbrev pub decreases-loop-place : goal.decreases-loop-place
decreases-loop-place l = length l.tags - l.place
