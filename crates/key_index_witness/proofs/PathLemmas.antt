-- A path that ends at the root of a tree begins at a part of it, unless two lists of bytes that were hashed have one digest.
--     Within          the records of a part, and what was hashed for it, are of the whole
--     Leads           from the top of a tree some turns lead to a record, each with the digest on the other side
--     turns           those of a path, before others
--     climb-reaches   the digest at the front of a path is that of a part
--     leaf-reached    and where it is a leaf's, the part has that record
use Rattle.std.proofs.Common.{◌≡◌, ◌⊎◌, ℕ, ◌/◌, ◌%◌, ◌==◌, Bool, true, false, if◌then◌else◌, List, [], ◌∷◌, ◌++◌, length, drop, get_or, Contains, refl, sym, ap, ◌∙◌, inl, inr, arith, length-append}
use Rattle.std.proofs.lemmas.List.Elements.{Contains-append_left, Contains-append_right}
use Rattle.sha2.specs.Sha256.{sha256}
use Rattle.sha2.proofs.Facts256.{length-sha256}
use Rattle.key_index_witness.specs.Tree.{Link, Tree, Leaf, Node, bytes_of, root_of, hashed_in, links_in, bound_bytes, leaf_bytes, node_bytes, pair_bytes, climb, climbed}
use Rattle.key_index_witness.specs.Verdict.{leaf_path}
use Rattle.key_index_witness.proofs.CollisionLemmas.{Apart, here, there}

pub heads : (x y : ℕ) (xs ys : List ℕ) → x ∷ xs ≡ y ∷ ys → x ≡ y
heads x y xs ys h = ap (λ l. get_or l 0 0) h

pub tails : (x y : ℕ) (xs ys : List ℕ) → x ∷ xs ≡ y ∷ ys → xs ≡ ys
tails x y xs ys h = ap (λ l. drop 1 l) h

append-parts : (a b c d : List ℕ) → length a ≡ length b → a ++ c ≡ b ++ d → (a ≡ b) × (c ≡ d)
append-parts [] [] c d n h = (refl, h)
append-parts [] (y ∷ b) c d n h = absurd (omega (arith, n))
append-parts (x ∷ a) [] c d n h = absurd (omega (arith, n))
append-parts (x ∷ a) (y ∷ b) c d n h =
    let rest = append-parts a b c d (omega (arith, n)) (tails x y (a ++ c) (b ++ d) h) in
    let first = heads x y (a ++ c) (b ++ d) h in
    (λ i. first i ∷ rest.0 i, rest.1)

-- the same by the lengths of what stands behind
append-parts_behind : (a b c d : List ℕ) → length c ≡ length d → a ++ c ≡ b ++ d → (a ≡ b) × (c ≡ d)
append-parts_behind a b c d n h =
    let whole : length (a ++ c) ≡ length (b ++ d) = ap length h in
    let left = length-append a c in
    let right = length-append b d in
    append-parts a b c d (omega (arith, whole, left, right, n)) h

record Within (u t : Tree) : Type 0 where
  hashed : (b : List ℕ) → Contains (hashed_in u) b → Contains (hashed_in t) b
  links : (r : Link) → Contains (links_in u) r → Contains (links_in t) r

within-self : (t : Tree) → Within t t
within-self t = record { hashed = λ b h. h; links = λ r h. h }

within-through : (s u t : Tree) → Within s u → Within u t → Within s t
within-through s u t a b = record { hashed = λ c h. b.hashed c (a.hashed c h); links = λ r h. b.links r (a.links r h) }

within-left : (l r : Tree) → Within l (Node l r)
within-left l r = record {
  hashed = λ b h. there _ _ b (Contains-append_left (hashed_in l) (hashed_in r) b h);
  links = λ k h. Contains-append_left (links_in l) (links_in r) k h;
}

within-right : (l r : Tree) → Within r (Node l r)
within-right l r = record {
  hashed = λ b h. there _ _ b (Contains-append_right (hashed_in l) (hashed_in r) b h);
  links = λ k h. Contains-append_right (links_in l) (links_in r) k h;
}

own_bytes : (u : Tree) → Contains (hashed_in u) (bytes_of u)
own_bytes (Leaf r) = here (bytes_of (Leaf r)) (bound_bytes r.key ∷ r.value ∷ bound_bytes r.next ∷ [])
own_bytes (Node l r) = here (bytes_of (Node l r)) (hashed_in l ++ hashed_in r)

-- to the left or to the right
abbrev pub Turn : Type 0
Turn = Bool × List ℕ

abbrev pub Leads : Tree → List Turn → Link → Type 0
Leads (Leaf r) [] k = r ≡ k
Leads (Leaf r) (t ∷ w) k = ⊥
Leads (Node l r) [] k = ⊥
Leads (Node l r) ((true, s) ∷ w) k = (s ≡ root_of r) × Leads l w k
Leads (Node l r) ((false, s) ∷ w) k = (s ≡ root_of l) × Leads r w k

abbrev pub turns : ℕ → List (List ℕ) → List Turn → List Turn
turns place [] w = w
turns place (s ∷ path) w = turns (place / 2) path ((place % 2 == 0, s) ∷ w)

-- the digest is that of a part of the tree, and what leads on from there, leads from the top with some turns before
record IsPart (t : Tree) (before : List Turn → List Turn) (x : List ℕ) : Type 0 where
  part : Tree
  within : Within part t
  digest : x ≡ root_of part
  leads : (w : List Turn) (k : Link) → Leads part w k → Leads t (before w) k

abbrev sided : Bool → List ℕ → List ℕ → List ℕ
sided on_left x s = if on_left then node_bytes x s else node_bytes s x

length-root : (t : Tree) → length (root_of t) ≡ 32
length-root t = length-sha256 (bytes_of t)

part-of_pair : (on_left : Bool) (x s : List ℕ) (u : Tree) → length x ≡ 32 → sided on_left x s ≡ bytes_of u
    → IsPart u (λ w. (on_left, s) ∷ w) x
part-of_pair true x s (Leaf r) n h = absurd (let e = heads _ _ _ _ h in omega (arith, e))
part-of_pair false x s (Leaf r) n h = absurd (let e = heads _ _ _ _ h in omega (arith, e))
part-of_pair true x s (Node l r) n h =
    let parts = append-parts x (root_of l) s (root_of r) (n ∙ sym (length-root l)) (tails _ _ _ _ h) in
    record { part = l; within = within-left l r; digest = parts.0; leads = λ w k h. (parts.1, h) }
part-of_pair false x s (Node l r) n h =
    let parts = append-parts_behind s (root_of l) x (root_of r) (n ∙ sym (length-root r)) (tails _ _ _ _ h) in
    record { part = r; within = within-right l r; digest = parts.1; leads = λ w k h. (parts.0, h) }

climb-reaches : (t : Tree) (path : List (List ℕ)) (place : ℕ) (x : List ℕ) → length x ≡ 32
    → Apart (climbed place x path) (hashed_in t) → climb place x path ≡ root_of t → IsPart t (turns place path) x
climb-reaches t [] place x n apart h = record { part = t; within = within-self t; digest = h; leads = λ w k h. h }
climb-reaches t (s ∷ path) place x n apart h =
    let up = climb-reaches t path (place / 2) (sha256 (pair_bytes place x s)) (length-sha256 _) (λ a b i j. apart a b (there _ _ a i) j) h in
    let same : pair_bytes place x s ≡ bytes_of up.part = apart _ _ (here _ _) (up.within.hashed _ (own_bytes up.part)) up.digest in
    let below = part-of_pair (place % 2 == 0) x s up.part n same in
    record {
      part = below.part;
      within = within-through below.part up.part t below.within up.within;
      digest = below.digest;
      leads = λ w k h. up.leads ((place % 2 == 0, s) ∷ w) k (below.leads w k h);
    }

-- a record of the tree, by the digests of its parts, and what leads to it
pub record HasLeaf (t : Tree) (way : List Turn) (key value next : List ℕ) : Type 0 where
  pub link : Link
  pub leads : Leads t way link
  pub found : Contains (links_in t) link
  pub keyed : Contains (hashed_in t) (bound_bytes link.key)
  pub valued : Contains (hashed_in t) link.value
  pub nexted : Contains (hashed_in t) (bound_bytes link.next)
  pub key_is : key ≡ sha256 (bound_bytes link.key)
  pub value_is : value ≡ sha256 link.value
  pub next_is : next ≡ sha256 (bound_bytes link.next)

-- where two of the three have their length
abbrev pub AreDigests : List ℕ → List ℕ → List ℕ → Type 0
AreDigests k v n = (length k ≡ 32) × ((length v ≡ 32) ⊎ (length n ≡ 32))

thirds : (k v n a b c : List ℕ) → length a ≡ 32 → length b ≡ 32 → length c ≡ 32 → AreDigests k v n
    → (k ++ v) ++ n ≡ (a ++ b) ++ c → (k ≡ a) × (v ≡ b) × (n ≡ c)
thirds k v n a b c x y z (l, inl m) h =
    let first = length-append k v in
    let second = length-append a b in
    let outer = append-parts (k ++ v) (a ++ b) n c (omega (arith, first, second, l, m, x, y)) h in
    let inner = append-parts k a v b (l ∙ sym x) outer.0 in
    (inner.0, inner.1, outer.1)
thirds k v n a b c x y z (l, inr m) h =
    let outer = append-parts_behind (k ++ v) (a ++ b) n c (m ∙ sym z) h in
    let inner = append-parts k a v b (l ∙ sym x) outer.0 in
    (inner.0, inner.1, outer.1)

leaf-of_bytes : (k v n : List ℕ) → AreDigests k v n → (u : Tree) → leaf_bytes k v n ≡ bytes_of u → HasLeaf u [] k v n
leaf-of_bytes k v n d (Node l r) h = absurd (let e = heads _ _ _ _ h in omega (arith, e))
leaf-of_bytes k v n d (Leaf r) h =
    let parts = thirds k v n (sha256 (bound_bytes r.key)) (sha256 r.value) (sha256 (bound_bytes r.next)) (length-sha256 (bound_bytes r.key)) (length-sha256 r.value) (length-sha256 (bound_bytes r.next)) d (tails _ _ _ _ h) in
    record {
      link = r;
      leads = refl;
      found = here r [];
      keyed = (1, omega arith, refl);
      valued = (2, omega arith, refl);
      nexted = (3, omega arith, refl);
      key_is = parts.0;
      value_is = parts.1;
      next_is = parts.2;
    }

-- a path from a leaf to the root of a tree
pub leaf-reached : (t : Tree) (k v n : List ℕ) (place : ℕ) (path : List (List ℕ)) → AreDigests k v n
    → Apart (leaf_path place (leaf_bytes k v n) path) (hashed_in t) → climb place (sha256 (leaf_bytes k v n)) path ≡ root_of t
    → HasLeaf t (turns place path []) k v n
leaf-reached t k v n place path d apart h =
    let leaf = leaf_bytes k v n in
    let up = climb-reaches t path place (sha256 leaf) (length-sha256 leaf) (λ x y i j. apart x y (there _ _ x i) j) h in
    let same : leaf ≡ bytes_of up.part = apart _ _ (here leaf (climbed place (sha256 leaf) path)) (up.within.hashed _ (own_bytes up.part)) up.digest in
    let has = leaf-of_bytes k v n d up.part same in
    record {
      link = has.link;
      leads = up.leads [] has.link has.leads;
      found = up.within.links has.link has.found;
      keyed = up.within.hashed (bound_bytes has.link.key) has.keyed;
      valued = up.within.hashed has.link.value has.valued;
      nexted = up.within.hashed (bound_bytes has.link.next) has.nexted;
      key_is = has.key_is;
      value_is = has.value_is;
      next_is = has.next_is;
    }
