-- A witness as bytes.
--     encoded     0 of a held key and 1 of an absent one; the place, in eight bytes, the lowest first; the digest that the witness has; the
--                 length of the path, in one byte, and the path; the value, or the keys around
--     HasSizes    the sizes that the types of a witness give it, and a path whose length is a byte
--     is_short    a path's length is a byte
--     written     a list with other bytes in the place of its own, from one on
use Rattle.std.specs.Prelude.{◌≡◌, ℕ, ◌+◌, ◌^◌, ◌<◌, Bool, nat_lt, List, [], ◌∷◌, ◌++◌, length, take, drop, Option, Some, None, IfSome}
use Rattle.std.specs.Int.{w64, to_le_bytes}
use Rattle.std.specs.List.{AllByRecursion, flat_map}
use Rattle.key_index_witness.specs.Witness.{Parts, Present, Absent}

-- a 1 with the key's length in eight bytes, the lowest first, and the key; or a 0
abbrev pub bound_field : Option (List ℕ) → List ℕ
bound_field None = 0 ∷ []
bound_field (Some key) = 1 ∷ (to_le_bytes w64 (length key) ++ key)

abbrev pub path_field : List (List ℕ) → List ℕ
path_field path = length path ∷ flat_map (λ d. d) path

abbrev pub head_field : ℕ → List ℕ → List (List ℕ) → List ℕ
head_field place digest path = to_le_bytes w64 place ++ (digest ++ path_field path)

abbrev pub encoded : Parts → List ℕ
encoded (Present value next place path) = 0 ∷ (head_field place next path ++ value)
encoded (Absent below value next place path) = 1 ∷ (head_field place value path ++ (bound_field below ++ bound_field next))

pub record HasHeadSizes (place : ℕ) (digest : List ℕ) (path : List (List ℕ)) : Type 0 where
  pub small : place < 2 ^ 64
  pub sized : length digest ≡ 32
  pub short : length path < 256
  pub steps : AllByRecursion (λ d. length d ≡ 32) path

abbrev pub HasKeySize : Option (List ℕ) → Type 0
HasKeySize bound = IfSome bound (λ key. length key < 2 ^ 64)

abbrev pub HasSizes : Parts → Type 0
HasSizes (Present value next place path) = HasHeadSizes place next path
HasSizes (Absent below value next place path) = HasHeadSizes place value path × HasKeySize below × HasKeySize next

abbrev pub path_in : Parts → List (List ℕ)
path_in (Present value next place path) = path
path_in (Absent below value next place path) = path

abbrev pub is_short : Parts → Bool
is_short w = nat_lt (length (path_in w)) 256

abbrev pub written : ℕ → List ℕ → List ℕ → List ℕ
written at bytes old = take at old ++ (bytes ++ drop (at + length bytes) old)
