-- A Merkle tree of any number of leaves in one list, as a heap: the root stands at 1, and below i stand 2 * i and 2 * i + 1.
--     root_digest    the root of some leaves, which are given by their slots
--     tree_of        the tree of some trees by their slots
--     AreRoots       the leaves are the roots of such trees
--     set_all        some leaves after changes, each a slot and a digest, in their order
--     leaf_in        of a list of nodes the leaf in a slot
--     leaves_of      all its leaves
--     IsTree         a list of nodes, each of them the digest of the two below it
use Rattle.std.specs.Prelude.{◌≡◌, ◌⊎◌, ℕ, zero, suc, ◌+◌, ◌-◌, ◌*◌, ◌/◌, ◌%◌, ◌==◌, if◌then◌else◌, ◌<◌, ◌≤◌, Bool, true, false, List, [], ◌∷◌, length, slice_index_or, slice_set, nat_le}
use Rattle.sha2.specs.Sha256.{sha256}
use Rattle.key_index_witness.specs.Tree.{Tree, Node, node_bytes, root_of}
use Rattle.key_index_witness_tree.specs.Slots.{by_slot, place_of, slot_of}

-- the digest at a place, f steps above the leaves at most
abbrev pub digest_at : List (List ℕ) → ℕ → ℕ → List ℕ
digest_at leaves zero i = slice_index_or leaves (slot_of i) []
digest_at leaves (suc f) i =
    if nat_le (length leaves) i then slice_index_or leaves (slot_of i) []
    else sha256 (node_bytes (digest_at leaves f (2 * i)) (digest_at leaves f (2 * i + 1)))

abbrev pub root_digest : List (List ℕ) → List ℕ
root_digest leaves = digest_at leaves (length leaves) 1

-- the tree at a place, the same
abbrev pub tree_at : (ℕ → Tree) → ℕ → ℕ → ℕ → Tree
tree_at tree n zero i = tree (slot_of i)
tree_at tree n (suc f) i =
    if nat_le n i then tree (slot_of i) else Node (tree_at tree n f (2 * i)) (tree_at tree n f (2 * i + 1))

abbrev pub tree_of : (ℕ → Tree) → ℕ → Tree
tree_of tree n = tree_at tree n n 1

abbrev pub AreRoots : List (List ℕ) → (ℕ → Tree) → Type 0
AreRoots leaves tree = (s : ℕ) → s < length leaves → slice_index_or leaves s [] ≡ root_of (tree s)

abbrev pub set_all : List (List ℕ) → List (ℕ × List ℕ) → List (List ℕ)
set_all leaves [] = leaves
set_all leaves (c ∷ changes) = set_all (slice_set leaves c.0 c.1) changes

-- ---- the list of nodes

abbrev pub node_at : List (List ℕ) → ℕ → List ℕ
node_at nodes i = slice_index_or nodes i []

abbrev pub leaf_in : List (List ℕ) → ℕ → List ℕ
leaf_in nodes s = node_at nodes (place_of (length nodes / 2) s)

abbrev pub leaves_of : List (List ℕ) → List (List ℕ)
leaves_of nodes = by_slot (leaf_in nodes) (length nodes / 2)

abbrev pub IsJoined : List (List ℕ) → ℕ → Type 0
IsJoined nodes i = node_at nodes i ≡ sha256 (node_bytes (node_at nodes (2 * i)) (node_at nodes (2 * i + 1)))

abbrev pub IsHeap : List (List ℕ) → Type 0
IsHeap nodes = (i : ℕ) → 1 ≤ i → 2 * i + 1 < length nodes → IsJoined nodes i

-- the same but for one place
abbrev pub IsHeapBut : ℕ → List (List ℕ) → Type 0
IsHeapBut k nodes = (i : ℕ) → 1 ≤ i → 2 * i + 1 < length nodes → (i ≡ k → ⊥) → IsJoined nodes i

-- the same but for places below one that are marked
abbrev pub IsHeapBesides : ℕ → List Bool → List (List ℕ) → Type 0
IsHeapBesides k marks nodes =
    (i : ℕ) → 1 ≤ i → 2 * i + 1 < length nodes → IsJoined nodes i ⊎ ((i < k) × (slice_index_or marks i false ≡ true))

pub record IsTree (nodes : List (List ℕ)) : Type 0 where
  pub heap : IsHeap nodes
  pub even : length nodes % 2 ≡ 0
  pub some : 2 ≤ length nodes

-- the other place under the same node
abbrev pub beside : ℕ → ℕ
beside i = if i % 2 == 0 then i + 1 else i - 1
