-- The numbers by which refusals are told: a fault, and why no index of a kind was made.
use Rattle.std.specs.Prelude.{ℕ, nat_lt, ◌&&◌, if◌then◌else◌}
use Rattle.key_index_flat.specs.declared.index.Fault.{Fault}
use Rattle.key_index_flat.specs.declared.index.Fault.TheVariants.{Memory, Full, TooFar}

abbrev pub status_of : Fault → ℕ
status_of Memory = 1
status_of Full = 2
status_of TooFar = 3

abbrev pub kind_refusal : ℕ → ℕ
kind_refusal kind = if nat_lt kind 7 then 1 else 4

abbrev pub immutable_refusal : ℕ → ℕ
immutable_refusal kind = if nat_lt 6 kind && nat_lt kind 9 then 1 else 4
