-- The partition of a key, the rest of the key, and the index key that the two make.
--     prefix_number p b      the big-endian number of the first p bytes, with zeros behind a shorter key
--     rest_of p b            the bytes behind the first p, none of a shorter key
--     partition_count p      how many partitions there are; their numbers are those below it
--     partition_by p b       the partition of a key, and 0 where no index is made of p bytes
--     slot_by p f b          the partition of a key, with what f makes of the rest
use Rattle.std.specs.Prelude.{ℕ, ◌^◌, ◌&&◌, if◌then◌else◌, nat_lt, List, drop}
use Rattle.key_index_flat.specs.Padding.{cap_number}

abbrev pub prefix_number : ℕ → List ℕ → ℕ
prefix_number p b = cap_number p b

abbrev pub rest_of : ℕ → List ℕ → List ℕ
rest_of p b = drop p b

abbrev pub partition_count : ℕ → ℕ
partition_count p = 256 ^ p

abbrev pub partition_by : ℕ → List ℕ → ℕ
partition_by p b = if nat_lt 0 p && nat_lt p 4 then prefix_number p b else 0

abbrev pub slot_by : {K : Type 0} → ℕ → (List ℕ → K) → List ℕ → ℕ × K
slot_by p f b = (prefix_number p b, f (rest_of p b))
