-- A batch whose keys are visited one after another.
--     folds_append                two lists of visits, one after the other
--     folds_shown                 one visit more, of an item that a closure is shown
--     probes_push                 one probe more
--     visits_append               the visits of some probes, and then of others
--     probes_key, folds_key       one key more, of an iterator's items
--     folds_through, visits_through  what a closure that only calls another visits
use Rattle.std.proofs.Common.{◌≡◌, ℕ, ◌+◌, List, [], ◌∷◌, ◌++◌, length, map, refl, sym, ap, subst, ◌∙◌, arith, append-nil, append_assoc}
use Rattle.std.proofs.lemmas.Fn.{FoldsTo-push}
use Rattle.std.proofs.lemmas.List.{map-append, length-map}
use Rattle.std.specs.Borrow.{Bor}
use Rattle.std.specs.Fn.{Mut, Called}
use Rattle.std.specs.List.{FoldsTo}
use Rattle.key_index_flat.specs.Visits.{VisitsAt, probes_from, visits_of}

pub folds_append : {P A : Type 0} (R : P → A → P → Type 0) (p q u : P) (xs ys : List A) → FoldsTo R p xs q → FoldsTo R q ys u → FoldsTo R p (xs ++ ys) u
folds_append {P = P} R p q u [] ys h k = subst (λ (j : P). FoldsTo R j ys u) (sym h) k
folds_append R p q u (x ∷ xs) ys h k = (h.0, h.1, folds_append R h.0 q u xs ys h.2 k)

pub folds_shown : {P A B V : Type 0} (R : P → A → P → Type 0) (tell : V → A) (now : B → V) (p q u : P) (seen : List B) (x : B) → FoldsTo R p (map tell (map now seen)) q → R q (tell (now x)) u
    → FoldsTo R p (map tell (map now (seen ++ x ∷ []))) u
folds_shown {A = A} R tell now p q u seen x h k =
    subst (λ (l : List A). FoldsTo R p l u) (sym (ap (map tell) (map-append now seen (x ∷ [])) ∙ map-append tell (map now seen) (now x ∷ [])))
    (FoldsTo-push R p (map tell (map now seen)) q (tell (now x)) u h k)

pub probes_push : {K : Type 0} (slot : List ℕ → K) (n : ℕ) (bs : List (List ℕ)) (b : List ℕ) → probes_from slot n (bs ++ b ∷ []) ≡ probes_from slot n bs ++ (slot b, n + length bs) ∷ []
probes_push slot n [] b = let same : n ≡ n + 0 = omega arith in ap (λ m. (slot b, m) ∷ []) same
probes_push slot n (c ∷ bs) b =
    let same : n + 1 + length bs ≡ n + length (c ∷ bs) = omega arith in
    ap (λ l. (slot c, n) ∷ l) (probes_push slot (n + 1) bs b ∙ ap (λ m. probes_from slot (n + 1) bs ++ (slot b, m) ∷ []) same)

module _ {K V : Type 0} (run : K → List V) where
  pub visits_append : (ps qs : List (K × ℕ)) → visits_of run (ps ++ qs) ≡ visits_of run ps ++ visits_of run qs
  visits_append [] qs = refl
  visits_append (p ∷ ps) qs =
      ap (λ l. map (λ v. (p.1, v)) (run p.0) ++ l) (visits_append ps qs)
      ∙ sym (append_assoc (map (λ v. (p.1, v)) (run p.0)) (visits_of run ps) (visits_of run qs))

  visits_push : (ps : List (K × ℕ)) (p : K × ℕ) → visits_of run (ps ++ p ∷ []) ≡ visits_of run ps ++ map (λ v. (p.1, v)) (run p.0)
  visits_push ps p = visits_append ps (p ∷ []) ∙ ap (λ l. visits_of run ps ++ l) (append-nil (map (λ v. (p.1, v)) (run p.0)))

  -- the visits of one probe more, of a list whose last visit left q
  pub folds_probe : {F : Type 0} (R : F → ℕ × V → F → Type 0) (f q u : F) (ps : List (K × ℕ)) (p : K × ℕ) (l : List V) → l ≡ run p.0
      → FoldsTo R f (visits_of run ps) q → FoldsTo R q (map (λ v. (p.1, v)) l) u → FoldsTo R f (visits_of run (ps ++ p ∷ [])) u
  folds_probe R f q u ps p l e h k =
      subst (λ (l : List (ℕ × V)). FoldsTo R f l u) (sym (visits_push ps p)) (folds_append R f q u (visits_of run ps) (map (λ v. (p.1, v)) (run p.0)) h
      (subst (λ (l : List V). FoldsTo R q (map (λ v. (p.1, v)) l) u) e k))

module _ {A K : Type 0} (slot : List ℕ → K) (bytes : A → List ℕ) (keys : List A) (key : A) (place : ℕ) (b : List ℕ) (count : place ≡ length keys) (is : b ≡ bytes key) where
  pub probes_key : probes_from slot 0 (map bytes (keys ++ key ∷ [])) ≡ probes_from slot 0 (map bytes keys) ++ (slot b, place) ∷ []
  probes_key =
      let n = length-map keys bytes in
      let same : 0 + length (map bytes keys) ≡ place = omega (arith, n, count) in
      ap (λ l. probes_from slot 0 l) (map-append bytes keys (key ∷ [])) ∙ probes_push slot 0 (map bytes keys) (bytes key)
      ∙ ap (λ m. probes_from slot 0 (map bytes keys) ++ (slot (bytes key), m) ∷ []) same ∙ ap (λ x. probes_from slot 0 (map bytes keys) ++ (slot x, place) ∷ []) (sym is)

  pub folds_key : {F V : Type 0} (run : K → List V) (R : F → ℕ × V → F → Type 0) (f q u : F) (l : List V) → l ≡ run (slot b)
      → FoldsTo R f (visits_of run (probes_from slot 0 (map bytes keys))) q → FoldsTo R q (map (λ v. (place, v)) l) u
      → FoldsTo R f (visits_of run (probes_from slot 0 (map bytes (keys ++ key ∷ [])))) u
  folds_key run R f q u l e h k =
      subst (λ (ps : List (K × ℕ)). FoldsTo R f (visits_of run ps) u) (sym probes_key) (folds_probe run R f q u (probes_from slot 0 (map bytes keys)) (slot b, place) l e h k)

-- what a closure that only calls another visits is visited by that one
pub folds_through : {P Q A : Type 0} (R : P → A → P → Type 0) (S : Q → A → Q → Type 0) (inside : P → Q) → ((p : P) (x : A) (q : P) → R p x q → S (inside p) x (inside q)) → (p q : P) (xs : List A) → FoldsTo R p xs q → FoldsTo S (inside p) xs (inside q)
folds_through R S inside f p q [] h = ap inside h
folds_through R S inside f p q (x ∷ xs) h = (inside h.0, f p x h.0 h.1, folds_through R S inside f h.0 q xs h.2)

module _ {P Q V : Type 0} (g : Mut P (ℕ × (Bor V × Unit {0})) (Unit {0})) (k : Mut Q (ℕ × (Bor V × Unit {0})) (Unit {0})) (inside : P → Q)
    (calls : (p : P) (t : ℕ × (Bor V × Unit {0})) (q : P) → Called g p t tt q → Called k (inside p) t tt (inside q)) where
  pub visits_through : (p q : P) (xs : List (ℕ × V)) → FoldsTo (VisitsAt g) p xs q → FoldsTo (VisitsAt k) (inside p) xs (inside q)
  visits_through p q xs h = folds_through (VisitsAt g) (VisitsAt k) inside (λ p x q h. (h.0, h.1, calls p (x.0, (h.0, tt)) q h.2)) p q xs h
