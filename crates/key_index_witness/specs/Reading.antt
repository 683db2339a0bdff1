-- Reading a witness from left to right. Each field is a value and the bytes after it.
use Rattle.std.specs.Prelude.{ℕ, ◌*◌, ◌==◌, zero, suc, List, [], ◌∷◌, length, take, drop, Option, Some, None, nat_lt, if◌then◌else◌}
use Rattle.std.specs.Int.{w64, from_le_bytes}
use Rattle.std.specs.Simd.{first_chunks}
use Rattle.key_index_witness.specs.declared.bytes.Head.{Head}
use Rattle.key_index_witness.specs.Witness.{Parts, Present, Absent}

infixl 10 ◌>>=◌
abbrev pub ◌>>=◌ : {A B : Type 0} → Option A → (A → Option B) → Option B
(Some x) >>= f = f x
None >>= f = None

-- so many bytes
abbrev pub cut : ℕ → List ℕ → Option (List ℕ × List ℕ)
cut n bytes = if nat_lt (length bytes) n then None else Some (take n bytes, drop n bytes)

abbrev pub number_at : List ℕ → Option (ℕ × List ℕ)
number_at bytes = if nat_lt (length bytes) 8 then None else Some (from_le_bytes w64 (take 8 bytes), drop 8 bytes)

unfoldable pub path_at : List ℕ → Option (List (List ℕ) × List ℕ)
path_at [] = None
path_at (steps ∷ bytes) = do
  path ← cut (32 * steps) bytes
  Some (first_chunks 32 steps path.0, path.1)

pub record Front : Type 0 where
  pub place : ℕ
  pub digest : List ℕ
  pub path : List (List ℕ)

abbrev pub front_of : Head → Front
front_of h = record { place = h.place; digest = h.digest.now; path = h.path.now }

unfoldable pub head_at : List ℕ → Option (Front × List ℕ)
head_at bytes = do
  place ← number_at bytes
  digest ← cut 32 place.1
  path ← path_at digest.1
  Some (record { place = place.0; digest = digest.0; path = path.0 }, path.1)

unfoldable pub bound_at : List ℕ → Option (Option (List ℕ) × List ℕ)
bound_at [] = None
bound_at (zero ∷ bytes) = Some (None, bytes)
bound_at (suc zero ∷ bytes) = do
  long ← number_at bytes
  key ← cut long.0 long.1
  Some (Some key.0, key.1)
bound_at (suc (suc mark) ∷ bytes) = None

unfoldable pub absent_at : Front → List ℕ → Option Parts
absent_at h bytes = do
  below ← bound_at bytes
  next ← bound_at below.1
  if length next.1 == 0 then Some (Absent below.0 h.digest next.0 h.place h.path) else None

unfoldable pub read : List ℕ → Option Parts
read [] = None
read (zero ∷ bytes) = do
  head ← head_at bytes
  Some (Present head.1 head.0.digest head.0.place head.0.path)
read (suc zero ∷ bytes) = do
  head ← head_at bytes
  absent_at head.0 head.1
read (suc (suc kind) ∷ bytes) = None
