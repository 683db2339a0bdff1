-- In a tree that has each key once, one way leads to a key's record, and one path with its place goes that way.
use Rattle.std.proofs.Common.{◌≡◌, ℕ, suc, zero, ◌+◌, ◌*◌, ◌/◌, ◌%◌, ◌==◌, Bool, true, false, cond, List, [], ◌∷◌, ◌++◌, length, Some, refl, sym, ap, ◌∙◌, arith}
use Rattle.std.specs.Prelude.{slice_get}
use Rattle.std.proofs.lemmas.Option.{slice_get_within}
use Rattle.std.proofs.lemmas.Bool.{false≢true}
use Rattle.std.proofs.lemmas.Bool.Decides.{Decides-eqb}
use Rattle.key_index_witness.specs.Tree.{Link, Tree, Leaf, Node, links_in, halved}
use Rattle.key_index_witness.specs.Verdict.{HasEachKeyOnce}
use Rattle.key_index_witness.proofs.PathLemmas.{Turn, Leads, turns}

get-left : (xs ys : List Link) (i : ℕ) (r : Link) → slice_get xs i ≡ Some r → slice_get (xs ++ ys) i ≡ Some r
get-left [] ys i r h = absurd cc
get-left (x ∷ xs) ys zero r h = h
get-left (x ∷ xs) ys (suc i) r h = get-left xs ys i r h

get-right : (xs ys : List Link) (i : ℕ) → slice_get (xs ++ ys) (length xs + i) ≡ slice_get ys i
get-right [] ys i = ap (slice_get ys) (let e : 0 + i ≡ i = omega arith in e)
get-right (x ∷ xs) ys i =
    ap (slice_get (x ∷ (xs ++ ys))) (let e : length (x ∷ xs) + i ≡ suc (length xs + i) = omega arith in e) ∙ get-right xs ys i

once-left : (l r : Tree) → HasEachKeyOnce (Node l r) → HasEachKeyOnce l
once-left l r once i j a b h g e = once i j a b (get-left (links_in l) (links_in r) i a h) (get-left (links_in l) (links_in r) j b g) e

once-right : (l r : Tree) → HasEachKeyOnce (Node l r) → HasEachKeyOnce r
once-right l r once i j a b h g e =
    let n = length (links_in l) in
    let same = once (n + i) (n + j) a b (get-right (links_in l) (links_in r) i ∙ h) (get-right (links_in l) (links_in r) j ∙ g) e in
    omega (arith, same)

leads-found : (t : Tree) (w : List Turn) (k : Link) → Leads t w k → (i : ℕ) × (slice_get (links_in t) i ≡ Some k)
leads-found (Leaf r) [] k h = (0, ap (λ x. Some x) h)
leads-found (Leaf r) (s ∷ w) k h = absurd h
leads-found (Node l r) [] k h = absurd h
leads-found (Node l r) ((true, s) ∷ w) k h =
    let at = leads-found l w k h.1 in
    (at.0, get-left (links_in l) (links_in r) at.0 k at.1)
leads-found (Node l r) ((false, s) ∷ w) k h =
    let at = leads-found r w k h.1 in
    (length (links_in l) + at.0, get-right (links_in l) (links_in r) at.0 ∙ at.1)

-- no key is on both sides
sides-differ : (l r : Tree) (w v : List Turn) (k j : Link) → HasEachKeyOnce (Node l r) → Leads l w k → Leads r v j → k.key ≡ j.key → ⊥
sides-differ l r w v k j once h g e =
    let a = leads-found l w k h in
    let b = leads-found r v j g in
    let same = once a.0 (length (links_in l) + b.0) k j (get-left (links_in l) (links_in r) a.0 k a.1) (get-right (links_in l) (links_in r) b.0 ∙ b.1) e in
    let within = slice_get_within (links_in l) a.0 k a.1 in
    omega (arith, same, within)

pub one-way : (t : Tree) (w v : List Turn) (k j : Link) → HasEachKeyOnce t → Leads t w k → Leads t v j → k.key ≡ j.key → (w ≡ v) × (k ≡ j)
one-way (Leaf r) [] [] k j once h g e = (refl, sym h ∙ g)
one-way (Leaf r) [] (s ∷ v) k j once h g e = absurd g
one-way (Leaf r) (s ∷ w) v k j once h g e = absurd h
one-way (Node l r) [] v k j once h g e = absurd h
one-way (Node l r) (s ∷ w) [] k j once h g e = absurd g
one-way (Node l r) ((true, s) ∷ w) ((true, u) ∷ v) k j once h g e =
    let rest = one-way l w v k j (once-left l r once) h.1 g.1 e in
    let same : s ≡ u = h.0 ∙ sym g.0 in
    (λ i. (true, same i) ∷ rest.0 i, rest.1)
one-way (Node l r) ((false, s) ∷ w) ((false, u) ∷ v) k j once h g e =
    let rest = one-way r w v k j (once-right l r once) h.1 g.1 e in
    let same : s ≡ u = h.0 ∙ sym g.0 in
    (λ i. (false, same i) ∷ rest.0 i, rest.1)
one-way (Node l r) ((true, s) ∷ w) ((false, u) ∷ v) k j once h g e = absurd (sides-differ l r w v k j once h.1 g.1 e)
one-way (Node l r) ((false, s) ∷ w) ((true, u) ∷ v) k j once h g e = absurd (sides-differ l r v w j k once g.1 h.1 (sym e))

-- ---- the path of some turns

abbrev doubled : Bool → ℕ → ℕ
doubled on_left place = cond on_left (2 * place) (2 * place + 1)

abbrev back : List Turn → ℕ → List (List ℕ) → ℕ × List (List ℕ)
back [] place path = (place, path)
back ((on_left, s) ∷ w) place path = back w (doubled on_left place) (s ∷ path)

doubled-half : (p : ℕ) → doubled (p % 2 == 0) (p / 2) ≡ p
doubled-half p =
    elim (p % 2 == 0) as (λ b. b ≡ (p % 2 == 0) → doubled b (p / 2) ≡ p) [
      | true ↦ λ e. let even = (Decides-eqb (p % 2) 0).0 (sym e) in omega (arith, even)
      | false ↦ λ e. let odd : p % 2 ≡ 0 → ⊥ = λ h. false≢true (e ∙ (Decides-eqb (p % 2) 0).1 h) in omega (arith, odd)
    ] refl

back-turns : (place : ℕ) (path : List (List ℕ)) (w : List Turn) → halved place path ≡ 1 → back (turns place path w) 1 [] ≡ back w place path
back-turns place [] w h = ap (λ p. back w p []) (sym h)
back-turns place (s ∷ path) w h =
    back-turns (place / 2) path ((place % 2 == 0, s) ∷ w) h ∙ ap (λ p. back w p (s ∷ path)) (doubled-half place)

pub one-path : (p q : ℕ) (path other : List (List ℕ)) → halved p path ≡ 1 → halved q other ≡ 1 → turns p path [] ≡ turns q other []
    → (p ≡ q) × (path ≡ other)
one-path p q path other h g e =
    let same : (p, path) ≡ (q, other) = sym (back-turns p path [] h) ∙ (ap (λ w. back w 1 []) e ∙ back-turns q other [] g) in
    (ap (λ (x : ℕ × List (List ℕ)). x.0) same, ap (λ (x : ℕ × List (List ℕ)). x.1) same)
