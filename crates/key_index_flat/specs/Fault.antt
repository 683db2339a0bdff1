-- The refusals: when each comes, and the texts that they print.
use Rattle.std.specs.Prelude.{◌≡◌, ℕ, Bool, IsTrue, List, codes, nat_eq, if◌then◌else◌, ◌-◌, ◌^◌}
use Rattle.key_index_flat.specs.declared.index.Fault.{Fault}
use Rattle.key_index_flat.specs.declared.index.Fault.TheVariants.{Memory, Full, TooFar}

abbrev pub fault_text : Fault → List ℕ
fault_text Memory = codes "refused memory"
fault_text Full = codes "refused full"
fault_text TooFar = codes "refused far"

-- why an index of so many values refuses one more
abbrev pub growth_fault : ℕ → Fault
growth_fault items = if nat_eq items (2 ^ 64 - 1) then Full else Memory

-- want of memory, of a call that inserts nothing and may have it
abbrev pub IsWant : Fault → Bool → Type 0
IsWant fault may = (fault ≡ Memory) × IsTrue may
