use Rattle.std.proofs.Common.{◌-◌, ◌≡◌, ℕ, ◌<◌, ◌≤◌, true, false, slice_index_or}
use Rattle.core.specs.Mem.Slots.{slots_items, slots_filled, slots_ptr, slots_len}
use Rattle.key_index_map.proofs.Joined.{AreZeros}
use Rattle.key_index_map.proofs.tags.Tags.empty.Given as goal

-- the groups so far are there, of empty cells
abbrev pub invariant-loop-group : goal.invariant-loop-group
invariant-loop-group l =
    record {
      len : slots_len l.row ≡ l.groups;
      within : l.group ≤ l.groups;
      zeros : AreZeros (slots_items l.row) l.group;
      full : (i : ℕ) → i < l.group → slice_index_or (slots_filled l.row) i false ≡ true;
      at : l.deed.at ≡ slots_ptr l.row;
      places : l.deed.len ≡ slots_len l.row;
    }

abbrev pub decreases-loop-group : goal.decreases-loop-group
decreases-loop-group l = l.groups - l.group
