-- An indexed Merkle tree: each leaf is a record, which has a key, its value and the next key in order. SHA-256 is that of FIPS 180-4.
--     Link             a record: a key, its value, the next key. The first record has no key and stands in front of all keys; the last one has
--                      no next key
--     Tree             a binary tree of any shape with records at its leaves
--     bytes_of         the bytes of which a tree's digest is taken. The first one is 0 at a leaf and 1 at a node
--     root_of          the digest of a tree
--     hashed_in        all the bytes of which a digest is taken for the root
--     links_in         the records, from left to right
--     climb, climbed   the digest at the end of a path, and all the bytes of which a digest is taken on the way
--     halved           the place at the end of a path: the root is at 1, and below i are 2 * i and 2 * i + 1
use Rattle.std.specs.Prelude.{ℕ, ◌==◌, ◌%◌, ◌/◌, List, [], ◌∷◌, ◌++◌, Option, Some, None, if◌then◌else◌}
use Rattle.sha2.specs.Sha256.{sha256}

-- of a key, or of the lack of one
abbrev pub bound_bytes : Option (List ℕ) → List ℕ
bound_bytes None = []
bound_bytes (Some key) = 0 ∷ key

-- of the digests of a key, its value and the next key
abbrev pub leaf_bytes : List ℕ → List ℕ → List ℕ → List ℕ
leaf_bytes key value next = 0 ∷ ((key ++ value) ++ next)

-- of the digests of two trees
abbrev pub node_bytes : List ℕ → List ℕ → List ℕ
node_bytes left right = 1 ∷ (left ++ right)

pub record Link : Type 0 where
  pub key : Option (List ℕ)
  pub value : List ℕ
  pub next : Option (List ℕ)

pub data Tree : Type 0 where
  Leaf : Link → Tree
  Node : Tree → Tree → Tree

abbrev pub link_bytes : Link → List ℕ
link_bytes r = leaf_bytes (sha256 (bound_bytes r.key)) (sha256 r.value) (sha256 (bound_bytes r.next))

abbrev pub bytes_of : Tree → List ℕ
bytes_of (Leaf r) = link_bytes r
bytes_of (Node left right) = node_bytes (sha256 (bytes_of left)) (sha256 (bytes_of right))

abbrev pub root_of : Tree → List ℕ
root_of t = sha256 (bytes_of t)

abbrev pub hashed_in : Tree → List (List ℕ)
hashed_in (Leaf r) = link_bytes r ∷ (bound_bytes r.key ∷ (r.value ∷ (bound_bytes r.next ∷ [])))
hashed_in (Node left right) = node_bytes (root_of left) (root_of right) ∷ (hashed_in left ++ hashed_in right)

abbrev pub links_in : Tree → List Link
links_in (Leaf r) = r ∷ []
links_in (Node left right) = links_in left ++ links_in right

-- of a digest at a place and the one beside it: an even place is on the left
abbrev pub pair_bytes : ℕ → List ℕ → List ℕ → List ℕ
pair_bytes place node sibling = if place % 2 == 0 then node_bytes node sibling else node_bytes sibling node

abbrev pub climb : ℕ → List ℕ → List (List ℕ) → List ℕ
climb place node [] = node
climb place node (sibling ∷ path) = climb (place / 2) (sha256 (pair_bytes place node sibling)) path

abbrev pub climbed : ℕ → List ℕ → List (List ℕ) → List (List ℕ)
climbed place node [] = []
climbed place node (sibling ∷ path) =
    pair_bytes place node sibling ∷ climbed (place / 2) (sha256 (pair_bytes place node sibling)) path

abbrev pub halved : ℕ → List (List ℕ) → ℕ
halved place [] = place
halved place (sibling ∷ path) = halved (place / 2) path
