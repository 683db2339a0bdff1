-- The controls of a table's cells as they stand: a byte each, since a search reads one after another. A control is one of 258 numbers, so three
-- fingerprints have one byte, and the cells with that byte have theirs beside it.
--     byte_of         the byte of a fingerprint
--     control_by      the control of a byte, and of a fingerprint where the byte is that of three
--     controls_by     those of some cells
--     AreControls     bytes, and beside each that three fingerprints have one of the three
use Rattle.std.specs.Prelude.{◌≡◌, ℕ, ◌+◌, ◌≤◌, nat_eq, nat_lt, List, length, slice_index, if◌then◌else◌}
use Rattle.std.specs.Simd.Lanes.{zip2}

abbrev pub byte_of : ℕ → ℕ
byte_of f = if nat_lt f 2 then 2 else f

abbrev pub control_by : ℕ → ℕ → ℕ
control_by byte f = if nat_lt byte 2 then byte else (if nat_eq byte 2 then f + 2 else byte + 2)

abbrev pub controls_by : List ℕ → List ℕ → List ℕ
controls_by bytes fs = zip2 control_by bytes fs

pub record AreControls (bytes fs : List ℕ) : Type 0 where
  pub sized : length fs ≡ length bytes
  pub shared : (i : ℕ) → slice_index bytes i ≡ 2 → slice_index fs i ≤ 2
