-- The leaves of a list of nodes after a change, and its root by them.
use Rattle.std.proofs.Common.{◌≡◌, ◌≢◌, ℕ, zero, suc, ◌+◌, ◌-◌, ◌*◌, ◌/◌, ◌%◌, ◌==◌, ◌<◌, ◌≤◌, nat_le, List, [], ◌∷◌, ◌++◌, length, get_or, take, true, false, if◌then◌else◌, Result, Ok, Err, OnOk, refl, sym, ap, ◌∙◌, inl, inr, arith, length-append, leb-true, leb-false, get_or-set_same, get_or-set_other}
use Rattle.std.specs.Prelude.{slice_set}
use Rattle.std.proofs.lemmas.Bool.{false≢true, cases_lt}
use Rattle.std.proofs.lemmas.Bool.Decides.{Decides-eqb}
use Rattle.std.proofs.lemmas.List.{ext_get_or, take_at, get_or_append_left, get_or-append_right}
use Rattle.std.proofs.Math.ListN.{length-set}
use Rattle.sha2.specs.Sha256.{sha256}
use Rattle.key_index_witness.specs.Tree.{Tree, Node, node_bytes, root_of}
use Rattle.key_index_witness_tree.specs.Slots.{by_slot, place_of, slot_of}
use Rattle.key_index_witness_tree.specs.Heap.{AreRoots, IsTree, digest_at, leaf_in, leaves_of, node_at, root_digest, set_all, tree_at, tree_of}
use Rattle.key_index_witness_tree.proofs.SlotLemmas.{leaf_added, leaf_after_set, leaf_of_longer, place-slot, place-within, slot-within}

pub length-by_slot : (f : ℕ → List ℕ) (n : ℕ) → length (by_slot f n) ≡ n
length-by_slot f zero = refl
length-by_slot f (suc n) = let rest = length-by_slot f n in omega (arith, rest, length-append (by_slot f n) (f n ∷ []))

pub get-by_slot : (f : ℕ → List ℕ) (n s : ℕ) (d : List ℕ) → s < n → get_or (by_slot f n) s d ≡ f s
get-by_slot f zero s d h = absurd (omega (arith, h))
get-by_slot f (suc n) s d h =
    let size = length-by_slot f n in
    elim (cases_lt s n) [
      | inl lt ↦ get_or_append_left (by_slot f n) (f n ∷ []) d s (omega (arith, lt, size)) ∙ get-by_slot f n s d lt
      | inr le ↦
          let same : s ≡ n = omega (arith, le, h) in
          let none : s - n ≡ 0 = omega (arith, same) in
          get_or-append_right (by_slot f n) (f n ∷ []) n s d size le ∙ (ap (λ i. get_or (f n ∷ []) i d) none ∙ ap f (sym same))
    ]

by_slot-same : (f g : ℕ → List ℕ) (n : ℕ) → ((s : ℕ) → s < n → f s ≡ g s) → by_slot f n ≡ by_slot g n
by_slot-same f g zero h = refl
by_slot-same f g (suc n) h =
    let front = by_slot-same f g n (λ s lt. h s (omega (arith, lt))) in
    let last = h n (omega arith) in
    λ i. front i ++ last i ∷ []

pub length-leaves : (nodes : List (List ℕ)) → length (leaves_of nodes) ≡ length nodes / 2
length-leaves nodes = length-by_slot (leaf_in nodes) (length nodes / 2)

pub get-leaves : (nodes : List (List ℕ)) (s : ℕ) → s < length nodes / 2 → get_or (leaves_of nodes) s [] ≡ leaf_in nodes s
get-leaves nodes s h = get-by_slot (leaf_in nodes) (length nodes / 2) s [] h

-- ---- changes

-- the leaf in a slot is set, and the other leaves stay
pub leaves-set : (old new : List (List ℕ)) (slot place : ℕ) (digest : List ℕ) → length old % 2 ≡ 0 → length new ≡ length old
    → slot < length old / 2 → place ≡ place_of (length old / 2) slot → node_at new place ≡ digest
    → ((i : ℕ) → length old ≤ 2 * i → i ≢ place → node_at new i ≡ node_at old i)
    → leaves_of new ≡ slice_set (leaves_of old) slot digest
leaves-set old new slot place digest even size low is at others =
    let n = length old / 2 in
    let xs = leaves_of old in
    let m : length new / 2 ≡ n = ap (λ l. l / 2) size in
    let new_size = length-leaves new in
    let old_size = length-leaves old in
    let set_size = length-set {A = List ℕ} xs slot digest in
    ext_get_or [] (leaves_of new) (slice_set xs slot digest) (omega (arith, m, new_size, old_size, set_size)) (λ s h.
    let within : s < length new / 2 = omega (arith, h, new_size) in
    let under : s < n = omega (arith, within, m) in
    get-leaves new s within
    ∙ elim (s == slot) as (λ b. b ≡ (s == slot) → leaf_in new s ≡ get_or (slice_set xs slot digest) s []) [
      | true ↦ λ e.
          let same : s ≡ slot = (Decides-eqb s slot).0 (sym e) in
          let inside : slot < length xs = omega (arith, low, old_size) in
          ap (leaf_in new) same ∙ ((λ i. node_at new (place_of (m i) slot)) ∙ (ap (node_at new) (sym is) ∙ (at
          ∙ (sym (get_or-set_same xs slot digest [] inside) ∙ ap (λ j. get_or (slice_set xs slot digest) j []) (sym same)))))
      | false ↦ λ e.
          let differ : s ≢ slot = λ h. false≢true (e ∙ (Decides-eqb s slot).1 h) in
          leaf_after_set old new slot place s even size is others under differ
          ∙ (sym (get-leaves old s under) ∙ sym (get_or-set_other xs slot s digest [] differ))
    ] refl)

-- a longer list has the leaves of the shorter one, and one more
leaves-longer : (shorter longer : List (List ℕ)) → length shorter % 2 ≡ 0 → length longer ≡ length shorter + 2
    → node_at longer (length shorter) ≡ node_at shorter (length shorter / 2)
    → ((i : ℕ) → length shorter < 2 * i → i < length shorter → node_at longer i ≡ node_at shorter i)
    → leaves_of longer ≡ leaves_of shorter ++ leaf_in longer (length shorter / 2) ∷ []
leaves-longer shorter longer even size moved others =
    let n = length shorter / 2 in
    let more : length longer / 2 ≡ suc n = omega (arith, size, even) in
    ap (by_slot (leaf_in longer)) more
    ∙ ap (λ l. l ++ leaf_in longer n ∷ []) (by_slot-same (leaf_in longer) (leaf_in shorter) n (λ s low. leaf_of_longer shorter longer s even size moved others low))

pub leaves-push : (old new : List (List ℕ)) (digest : List ℕ) → length old % 2 ≡ 0 → length new ≡ length old + 2
    → node_at new (length old + 1) ≡ digest → node_at new (length old) ≡ node_at old (length old / 2)
    → ((i : ℕ) → length old < 2 * i → i < length old → node_at new i ≡ node_at old i)
    → leaves_of new ≡ leaves_of old ++ digest ∷ []
leaves-push old new digest even size added moved others =
    leaves-longer old new even size moved others ∙ ap (λ d. leaves_of old ++ d ∷ []) (leaf_added old new even size ∙ added)

pub leaves-pop : (old new : List (List ℕ)) → length new % 2 ≡ 0 → length new + 2 ≡ length old
    → node_at new (length new / 2) ≡ node_at old (length new)
    → ((i : ℕ) → length new < 2 * i → i < length new → node_at new i ≡ node_at old i)
    → leaves_of new ≡ take (length (leaves_of old) - 1) (leaves_of old)
leaves-pop old new even size moved others =
    let longer = leaves-longer new old even (sym size) (sym moved) (λ i a b. sym (others i a b)) in
    let last = leaf_in old (length new / 2) ∷ [] in
    let short : length (leaves_of new) ≡ length (leaves_of old) - 1 =
    let whole : length (leaves_of old) ≡ length (leaves_of new ++ last) = ap length longer in omega (arith, whole, length-append (leaves_of new) last) in
    sym (ap (take (length (leaves_of old) - 1)) longer ∙ take_at (leaves_of new) last (length (leaves_of old) - 1) short)

pub leaves-same : (old new : List (List ℕ)) → length old % 2 ≡ 0 → length new ≡ length old
    → ((i : ℕ) → length old ≤ 2 * i → node_at new i ≡ node_at old i) → leaves_of new ≡ leaves_of old
leaves-same old new even size same =
    let n = length old / 2 in
    ap (λ l. by_slot (leaf_in new) (l / 2)) size
    ∙ by_slot-same (leaf_in new) (leaf_in old) n (λ s low.
    ap (λ l. node_at new (place_of (l / 2) s)) size ∙ same (place_of n s) (let w = (place-within n s low).0 in omega (arith, w, even)))

-- ---- the root

-- a leaf stands at the place of its slot
leaf-there : (nodes : List (List ℕ)) → IsTree nodes → (i : ℕ) → length nodes / 2 ≤ i → i < length nodes
    → node_at nodes i ≡ get_or (leaves_of nodes) (slot_of i) []
leaf-there nodes tree i over high =
    let n = length nodes / 2 in
    let some = tree.some in
    let even = tree.even in
    let low : slot_of i < n = slot-within n i (omega (arith, over, some)) (omega (arith, high, even)) in
    ap (node_at nodes) (sym (place-slot n i (omega (arith, some)) over (omega (arith, high, even)))) ∙ sym (get-leaves nodes (slot_of i) low)

pub node-digest : (nodes : List (List ℕ)) → IsTree nodes → (f i : ℕ) → 1 ≤ i → i < length nodes → length nodes / 2 ≤ i + f
    → node_at nodes i ≡ digest_at (leaves_of nodes) f i
node-digest nodes tree zero i low high deep = leaf-there nodes tree i (omega (arith, deep)) high
node-digest nodes tree (suc f) i low high deep =
    let leaves = leaves_of nodes in
    let size = length-leaves nodes in
    elim (nat_le (length leaves) i) as (λ r. r ≡ nat_le (length leaves) i
    → node_at nodes i ≡ (if r then get_or leaves (slot_of i) [] else sha256 (node_bytes (digest_at leaves f (2 * i)) (digest_at leaves f (2 * i + 1))))) [
      | true ↦ λ e. let over = leb-true (length leaves) i (sym e) in leaf-there nodes tree i (omega (arith, over, size)) high
      | false ↦ λ e.
          let even = tree.even in
          let under : i < length leaves = leb-false (length leaves) i (sym e) in
          let inside : 2 * i + 1 < length nodes = omega (arith, under, size, even) in
          let left = node-digest nodes tree f (2 * i) (omega (arith, low)) (omega (arith, inside)) (omega (arith, deep, low)) in
          let right = node-digest nodes tree f (2 * i + 1) (omega (arith, low)) inside (omega (arith, deep, low)) in
          tree.heap i low inside ∙ (λ k. sha256 (node_bytes (left k) (right k)))
    ] refl

pub root-digest : (nodes : List (List ℕ)) → IsTree nodes → node_at nodes 1 ≡ root_digest (leaves_of nodes)
root-digest nodes tree =
    let size = length-leaves nodes in
    let some = tree.some in
    node-digest nodes tree (length (leaves_of nodes)) 1 (omega arith) (omega (arith, some)) (omega (arith, size))

digest-tree : (leaves : List (List ℕ)) (tree : ℕ → Tree) → AreRoots leaves tree → (f i : ℕ) → 1 ≤ i → i < 2 * length leaves → length leaves ≤ i + f
    → digest_at leaves f i ≡ root_of (tree_at tree (length leaves) f i)
digest-tree leaves tree roots zero i low high deep = roots (slot_of i) (slot-within (length leaves) i low high)
digest-tree leaves tree roots (suc f) i low high deep =
    let n = length leaves in
    elim (nat_le n i) as (λ r. r ≡ nat_le n i
    → (if r then get_or leaves (slot_of i) [] else sha256 (node_bytes (digest_at leaves f (2 * i)) (digest_at leaves f (2 * i + 1))))
    ≡ root_of (if r then tree (slot_of i) else Node (tree_at tree n f (2 * i)) (tree_at tree n f (2 * i + 1)))) [
      | true ↦ λ e. roots (slot_of i) (slot-within n i low high)
      | false ↦ λ e.
          let under : i < n = leb-false n i (sym e) in
          let left = digest-tree leaves tree roots f (2 * i) (omega (arith, low)) (omega (arith, under)) (omega (arith, deep, low)) in
          let right = digest-tree leaves tree roots f (2 * i + 1) (omega (arith, low)) (omega (arith, under)) (omega (arith, deep, low)) in
          λ k. sha256 (node_bytes (left k) (right k))
    ] refl

pub root-tree : (nodes : List (List ℕ)) → IsTree nodes → (tree : ℕ → Tree) → AreRoots (leaves_of nodes) tree
    → node_at nodes 1 ≡ root_of (tree_of tree (length (leaves_of nodes)))
root-tree nodes is tree roots =
    let n = length (leaves_of nodes) in
    let size = length-leaves nodes in
    let some = is.some in
    root-digest nodes is ∙ digest-tree (leaves_of nodes) tree roots n 1 (omega arith) (omega (arith, some, size)) (omega arith)

pub leaves-pushed : {T E : Type 0} (r : Result T E) (old new : List (List ℕ)) (digest : List ℕ) → length old % 2 ≡ 0
    → OnOk r (length new ≡ length old + 2) → OnOk r (node_at new (length old + 1) ≡ digest)
    → OnOk r (node_at new (length old) ≡ node_at old (length old / 2))
    → ((i : ℕ) → length old < 2 * i → i < length old → node_at new i ≡ node_at old i)
    → OnOk r (leaves_of new ≡ leaves_of old ++ digest ∷ [])
leaves-pushed (Ok x) old new digest even size added moved others = leaves-push old new digest even size added moved others
leaves-pushed (Err e) old new digest even size added moved others = tt

pub set_all-push : (leaves : List (List ℕ)) (changes : List (ℕ × List ℕ)) (c : ℕ × List ℕ) → set_all leaves (changes ++ c ∷ []) ≡ slice_set (set_all leaves changes) c.0 c.1
set_all-push leaves [] c = refl
set_all-push leaves (d ∷ changes) c = set_all-push (slice_set leaves d.0 d.1) changes c
