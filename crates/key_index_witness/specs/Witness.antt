-- What a witness has, without where it lies in memory.
--     Parts       of a held key its value, the digest of the next key, and the path; of an absent key the held keys around it, the digest of
--                 the value of the one below, and the path. A path begins at the place of a leaf
--     parts_of    those of a witness
--     told        what an answer says of a key: its value, if it is held
use Rattle.std.specs.Prelude.{ℕ, List, Option, Some, None, option_map}
use Rattle.std.specs.Borrow.{Bor}
use Rattle.key_index_witness.specs.declared.Witness.{Witness}
use Rattle.key_index_witness.specs.declared.Witness.TheVariants as the
use Rattle.key_index_witness.specs.declared.Answer.{Answer}
use Rattle.key_index_witness.specs.declared.Answer.TheVariants as answer

pub data Parts : Type 0 where
  Present : (value next : List ℕ) (place : ℕ) (path : List (List ℕ)) → Parts
  Absent : (below : Option (List ℕ)) (value : List ℕ) (next : Option (List ℕ)) (place : ℕ) (path : List (List ℕ)) → Parts

abbrev pub bytes_in : Option (Bor (List ℕ)) → Option (List ℕ)
bytes_in bound = option_map (λ b. b.now) bound

abbrev pub parts_of : Witness → Parts
parts_of (the.Present value next place path) = Present value.now next.now place path.now
parts_of (the.Absent below value next place path) = Absent (bytes_in below) value.now (bytes_in next) place path.now

abbrev pub told : Answer → Option (List ℕ)
told (answer.Present value) = Some value.now
told answer.Absent = None
