-- Steps up a tree.
use Rattle.std.proofs.Common.{◌≡◌, ℕ, ◌+◌, ◌-◌, ◌*◌, ◌/◌, ◌%◌, ◌==◌, ◌<◌, ◌≤◌, true, false, if◌then◌else◌, List, [], ◌∷◌, ◌++◌, length, refl, sym, ap, ◌∙◌, arith}
use Rattle.std.proofs.lemmas.Bool.{false≢true}
use Rattle.std.proofs.lemmas.Bool.Decides.{Decides-eqb}
use Rattle.sha2.specs.Sha256.{sha256}
use Rattle.key_index_witness.specs.Tree.{node_bytes, pair_bytes, climb, halved}
use Rattle.key_index_witness_tree.specs.Heap.{IsHeap, beside, node_at}

pub climb-push : (place : ℕ) (x : List ℕ) (path : List (List ℕ)) (s : List ℕ)
    → climb place x (path ++ s ∷ []) ≡ sha256 (pair_bytes (halved place path) (climb place x path) s)
climb-push place x [] s = refl
climb-push place x (p ∷ path) s = climb-push (place / 2) (sha256 (pair_bytes place x p)) path s

pub halved-push : (place : ℕ) (path : List (List ℕ)) (s : List ℕ) → halved place (path ++ s ∷ []) ≡ halved place path / 2
halved-push place [] s = refl
halved-push place (p ∷ path) s = halved-push (place / 2) path s

pair-of_node : (nodes : List (List ℕ)) (i : ℕ) → 1 ≤ i
    → pair_bytes i (node_at nodes i) (node_at nodes (beside i)) ≡ node_bytes (node_at nodes (2 * (i / 2))) (node_at nodes (2 * (i / 2) + 1))
pair-of_node nodes i low =
    elim (i % 2 == 0) as (λ r. r ≡ (i % 2 == 0)
    → (if r then node_bytes (node_at nodes i) (node_at nodes (if r then i + 1 else i - 1)) else node_bytes (node_at nodes (if r then i + 1 else i - 1)) (node_at nodes i))
    ≡ node_bytes (node_at nodes (2 * (i / 2))) (node_at nodes (2 * (i / 2) + 1))) [
      | true ↦ λ e.
          let even = (Decides-eqb (i % 2) 0).0 (sym e) in
          let left : i ≡ 2 * (i / 2) = omega (arith, even) in
          λ k. node_bytes (node_at nodes (left k)) (node_at nodes (left k + 1))
      | false ↦ λ e.
          let odd : i % 2 ≡ 0 → ⊥ = λ h. false≢true (e ∙ (Decides-eqb (i % 2) 0).1 h) in
          let right : i ≡ 2 * (i / 2) + 1 = omega (arith, odd) in
          let left : i - 1 ≡ 2 * (i / 2) = omega (arith, right) in
          λ k. node_bytes (node_at nodes (left k)) (node_at nodes (right k))
    ] refl

pub step-up : (nodes : List (List ℕ)) (place i : ℕ) (path : List (List ℕ)) → IsHeap nodes → length nodes % 2 ≡ 0
    → 1 < i → i < length nodes → halved place path ≡ i → climb place (node_at nodes place) path ≡ node_at nodes i
    → climb place (node_at nodes place) (path ++ node_at nodes (beside i) ∷ []) ≡ node_at nodes (i / 2)
step-up nodes place i path heap even low high placed climbed =
    climb-push place (node_at nodes place) path (node_at nodes (beside i))
    ∙ ((λ k. sha256 (pair_bytes (placed k) (climbed k) (node_at nodes (beside i))))
    ∙ (ap sha256 (pair-of_node nodes i (omega (arith, low))) ∙ sym (heap (i / 2) (omega (arith, low)) (omega (arith, high, even)))))
