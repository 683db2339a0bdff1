-- An archive: an immutable index of the positions of records, and a log that has their full keys by position.
--     has_record     whether the record at a position is indexed and has a full key
--     IsLogOf        each one is indexed under the index key of its full key
use Rattle.std.specs.Prelude.{◌≡◌, ℕ, Bool, ◌&&◌, List, Some, IsTrue, is_some}
use Rattle.key_index.specs.Immutable.{Log, key_at}
use Rattle.key_index_uses.specs.Records.{is_record}

module _ {T K : Type 0} where
  abbrev pub has_record : Log T K → List (List ℕ) → List ℕ → ℕ → Bool
  has_record s log key p = is_some (key_at s p) && is_record log key p

  abbrev pub IsLogOf : (T → List ℕ → K) → Log T K → List (List ℕ) → Type 0
  IsLogOf translated s log =
      (key : List ℕ) (p : ℕ) → IsTrue (has_record s log key p) → key_at s p ≡ Some (translated s.translator key)
