-- CRC-32 of ISO 3309, by bits: the remainder of the bits, taken as a polynomial over two elements, lowest bits first.
--     after_bit, after_bits       a register of 32 bits after its lowest bit was divided out; after n of them
--     after_byte                  after the eight bits of a byte
--     crc32                       the checksum: the register begins with all bits set, and ends turned over
use Rattle.std.specs.Prelude.{ℕ, zero, suc, ◌/◌, ◌%◌, ◌==◌, if◌then◌else◌, List, bit_xor}
use Rattle.std.specs.List.{fold}

unfoldable pub after_bit : ℕ → ℕ
after_bit c = if c % 2 == 1 then bit_xor (c / 2) 0xEDB88320 else c / 2

unfoldable pub after_bits : ℕ → ℕ → ℕ
after_bits zero c = c
after_bits (suc n) c = after_bits n (after_bit c)

abbrev pub after_byte : ℕ → ℕ → ℕ
after_byte c b = after_bits 8 (bit_xor c b)

abbrev pub crc32 : List ℕ → ℕ
crc32 bytes = bit_xor (fold after_byte 0xFFFFFFFF bytes) 0xFFFFFFFF
