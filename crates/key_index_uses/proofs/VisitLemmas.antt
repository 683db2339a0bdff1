-- A slice that a batch fills, by the place of each visit.
--     FoldsTo-inside  what no call changes is as before at the end of a fold of calls
--     FoldsTo-fold    what a fold of calls leaves, where each call is a function of what it found
--     fold-answered   answers of which each has the last value of its key's list in the end
use Rattle.std.proofs.Common.{◌≡◌, ◌+◌, ℕ, Option, Some, List, [], ◌∷◌, ◌++◌, length, map, zip, slice_set, refl, sym, ap, ◌∙◌, arith, append_assoc}
use Rattle.std.proofs.Math.Seq.{set-append_seam}
use Rattle.std.proofs.lemmas.Fn.{chained_keeps}
use Rattle.std.proofs.lemmas.List.{length_push}
use Rattle.std.proofs.lemmas.List.Sums.{fold-append}
use Rattle.std.specs.List.{FoldsTo, fold, last_or}
use Rattle.key_index_flat.specs.Visits.{probes_from, visits_of}

module _ {P A B : Type 0} (R : P → A → P → Type 0) (inside : P → B) where
  pub FoldsTo-inside : ((p : P) (x : A) (q : P) → R p x q → inside p ≡ inside q) → (p q : P) (xs : List A) → FoldsTo R p xs q → inside p ≡ inside q
  FoldsTo-inside f p q xs h = chained_keeps R (λ ys u. inside p ≡ inside u) (λ ys u x v same e. same ∙ f u x v e) xs p q refl h

  pub FoldsTo-fold : (put : B → A → B) → ((p : P) (x : A) (q : P) → R p x q → inside q ≡ put (inside p) x) → (p q : P) (xs : List A) → FoldsTo R p xs q → inside q ≡ fold put (inside p) xs
  FoldsTo-fold put f p q [] h = ap inside (sym h)
  FoldsTo-fold put f p q (x ∷ xs) h = FoldsTo-fold put f h.0 q xs h.2 ∙ ap (λ b. fold put b xs) (f p x h.0 h.1)

module _ {V : Type 0} where
  abbrev pub answered : List (Option V) → ℕ × V → List (Option V)
  answered a visit = slice_set a visit.0 (Some visit.1)

  one_place : (xs ys : List (Option V)) (o : Option V) (l : List V) → fold answered (xs ++ o ∷ ys) (map (λ v. (length xs, v)) l) ≡ xs ++ last_or o l ∷ ys
  one_place xs ys o [] = refl
  one_place xs ys o (v ∷ l) = ap (λ a. fold answered a (map (λ v. (length xs, v)) l)) (set-append_seam xs o ys (Some v)) ∙ one_place xs ys (Some v) l

  pub fold-answered : {A K : Type 0} (run : K → List V) (slot : List ℕ → K) (bytes : A → List ℕ) (xs ys : List (Option V)) (n : ℕ) (keys : List A) → n ≡ length xs → length ys ≡ length keys
      → fold answered (xs ++ ys) (visits_of run (probes_from slot n (map bytes keys))) ≡ xs ++ map (λ p. last_or p.0 (run (slot (bytes p.1)))) (zip ys keys)
  fold-answered run slot bytes xs [] n [] e h = refl
  fold-answered run slot bytes xs (o ∷ ys) n [] e h = absurd (omega (arith, h))
  fold-answered run slot bytes xs [] n (k ∷ keys) e h = absurd (omega (arith, h))
  fold-answered run slot bytes xs (o ∷ ys) n (k ∷ keys) e h =
      let l = run (slot (bytes k)) in
      let rest = visits_of run (probes_from slot (n + 1) (map bytes keys)) in
      let long = length_push xs (last_or o l) in
      let next : n + 1 ≡ length (xs ++ last_or o l ∷ []) = omega (arith, long, e) in
      let left : length ys ≡ length keys = omega (arith, h) in
      fold-append answered (xs ++ o ∷ ys) (map (λ v. (n, v)) l) rest
      ∙ ap (λ a. fold answered a rest) (ap (λ m. fold answered (xs ++ o ∷ ys) (map (λ v. (m, v)) l)) e ∙ one_place xs ys o l ∙ sym (append_assoc xs (last_or o l ∷ []) ys))
      ∙ fold-answered run slot bytes (xs ++ last_or o l ∷ []) ys (n + 1) keys next left
      ∙ append_assoc xs (last_or o l ∷ []) (map (λ p. last_or p.0 (run (slot (bytes p.1)))) (zip ys keys))
