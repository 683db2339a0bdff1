-- On why a value is refused.
--     growth_fault-memory   where there is space for one more, want of memory
use Rattle.std.proofs.Common.{◌≡◌, ℕ, ◌-◌, ◌^◌, if◌then◌else◌, ap, sym}
use Rattle.std.proofs.lemmas.Bool.{ne_eqb}
use Rattle.key_index_flat.specs.Fault.{growth_fault}
use Rattle.key_index_flat.specs.declared.index.Fault.TheVariants.{Memory, Full}

pub growth_fault-memory : (n : ℕ) → ¬ (n ≡ 2 ^ 64 - 1) → Memory ≡ growth_fault n
growth_fault-memory n apart = ap (λ b. if b then Full else Memory) (sym (ne_eqb n (2 ^ 64 - 1) apart))
