-- What a witness tells of a key to one who knows a root.
--     is_between        a key is strictly between two others, in the order of their bytes. None is below all keys, or above them
--     Map               the value of each held key
--     HasRecords        a tree has records of a map: a key with its value, and no key of the map between a record's key and the next one
--     HasEachKeyOnce    no two of its records have one key
--     hashed_by         all the bytes of which a digest is taken to verify a witness of a key
--     Collision         two different lists of bytes with one digest, the first among some, the second among others
--     verdict           what a witness tells of a key, if anything: its value, or that it is absent
use Rattle.std.specs.Prelude.{◌≡◌, ◌≢◌, ◌&&◌, ◌==◌, ℕ, Bool, true, if◌then◌else◌, List, ◌∷◌, Option, Some, None, Contains, bytes_eq, slice_get}
use Rattle.std.specs.Ordering.{is_lt, nat_cmp}
use Rattle.std.specs.Cmp.Lexicographic.{slice_cmp}
use Rattle.sha2.specs.Sha256.{sha256}
use Rattle.key_index_witness.specs.Tree.{Link, Tree, links_in, leaf_bytes, bound_bytes, climb, climbed, halved}
use Rattle.key_index_witness.specs.Witness.{Parts, Present, Absent}

abbrev pub is_below : List ℕ → List ℕ → Bool
is_below a b = is_lt (slice_cmp nat_cmp a b)

abbrev pub is_above : Option (List ℕ) → List ℕ → Bool
is_above None q = true
is_above (Some key) q = is_below key q

abbrev pub is_under : List ℕ → Option (List ℕ) → Bool
is_under q None = true
is_under q (Some key) = is_below q key

abbrev pub is_between : Option (List ℕ) → List ℕ → Option (List ℕ) → Bool
is_between below q next = is_above below q && is_under q next

abbrev pub Map : Type 0
Map = List ℕ → Option (List ℕ)

pub record HasRecords (t : Tree) (map : Map) : Type 0 where
  pub held : (r : Link) (key : List ℕ) → Contains (links_in t) r → r.key ≡ Some key → map key ≡ Some r.value
  pub gap : (r : Link) (q : List ℕ) → Contains (links_in t) r → is_between r.key q r.next ≡ true → map q ≡ None

abbrev pub HasEachKeyOnce : Tree → Type 0
HasEachKeyOnce t =
    (i j : ℕ) (r s : Link) → slice_get (links_in t) i ≡ Some r → slice_get (links_in t) j ≡ Some s → r.key ≡ s.key → i ≡ j

pub record Collision (mine theirs : List (List ℕ)) : Type 0 where
  pub first : List ℕ
  pub second : List ℕ
  pub is_mine : Contains mine first
  pub is_theirs : Contains theirs second
  pub distinct : first ≢ second
  pub same : sha256 first ≡ sha256 second

abbrev pub leaf_path : ℕ → List ℕ → List (List ℕ) → List (List ℕ)
leaf_path place leaf path = leaf ∷ climbed place (sha256 leaf) path

abbrev pub hashed_by : List ℕ → Parts → List (List ℕ)
hashed_by key (Present value next place path) =
    (0 ∷ key) ∷ (value ∷ leaf_path place (leaf_bytes (sha256 (0 ∷ key)) (sha256 value) next) path)
hashed_by key (Absent below value next place path) =
    bound_bytes below ∷ (bound_bytes next
    ∷ leaf_path place (leaf_bytes (sha256 (bound_bytes below)) value (sha256 (bound_bytes next))) path)

abbrev pub root_by : List ℕ → List ℕ → List ℕ → ℕ → List (List ℕ) → List ℕ
root_by key value next place path = climb place (sha256 (leaf_bytes key value next)) path

-- a path from a leaf ends at the root, and at its place, which is 1
abbrev pub is_shown : List ℕ → List ℕ → List ℕ → List ℕ → ℕ → List (List ℕ) → Bool
is_shown root key value next place path = halved place path == 1 && bytes_eq root (root_by key value next place path)

abbrev pub verdict : List ℕ → List ℕ → Parts → Option (Option (List ℕ))
verdict root key (Present value next place path) =
    if is_shown root (sha256 (0 ∷ key)) (sha256 value) next place path then Some (Some value) else None
verdict root key (Absent below value next place path) =
    if is_between below key next && is_shown root (sha256 (bound_bytes below)) value (sha256 (bound_bytes next)) place path
    then Some None else None
