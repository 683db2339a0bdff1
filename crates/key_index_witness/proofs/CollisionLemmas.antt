-- Of two finite rows of lists of bytes, either no two have one digest, or two different ones are at hand.
--     Apart    no two, one of each row, have one digest unless they are the same
use Rattle.std.proofs.Common.{◌≡◌, ◌≢◌, ◌⊎◌, ℕ, zero, suc, ◌<◌, get_or, true, false, List, [], ◌∷◌, length, Contains, refl, sym, ap, ◌∙◌, inl, inr, arith}
use Rattle.std.proofs.lemmas.Slice.Eq.{bytes_eq-Decides}
use Rattle.std.specs.Prelude.{bytes_eq}
use Rattle.std.proofs.lemmas.Bool.{false≢true}
use Rattle.std.proofs.lemmas.List.Elements.{Contains-append_right}
use Rattle.sha2.specs.Sha256.{sha256}
use Rattle.key_index_witness.specs.Verdict.{Collision}

pub here : {A : Type 0} (x : A) (xs : List A) → Contains (x ∷ xs) x
here x xs = (0, omega arith, refl)

pub there : {A : Type 0} (x : A) (xs : List A) (y : A) → Contains xs y → Contains (x ∷ xs) y
there x xs y h = Contains-append_right (x ∷ []) xs y h

abbrev pub Apart : List (List ℕ) → List (List ℕ) → Type 0
Apart mine theirs = (a b : List ℕ) → Contains mine a → Contains theirs b → sha256 a ≡ sha256 b → a ≡ b

pair-tells : (mine theirs : List (List ℕ)) (a b : List ℕ) → Contains mine a → Contains theirs b
    → (sha256 a ≡ sha256 b → a ≡ b) ⊎ Collision mine theirs
pair-tells mine theirs a b i j =
    elim (bytes_eq a b) as (λ r. r ≡ bytes_eq a b → (sha256 a ≡ sha256 b → a ≡ b) ⊎ Collision mine theirs) [
      | true ↦ λ e. inl (λ _. (bytes_eq-Decides a b).0 (sym e))
      | false ↦ λ e.
          let distinct : a ≢ b = λ h. false≢true (e ∙ (bytes_eq-Decides a b).1 h) in
          elim (bytes_eq (sha256 a) (sha256 b)) as (λ r. r ≡ bytes_eq (sha256 a) (sha256 b) → (sha256 a ≡ sha256 b → a ≡ b) ⊎ Collision mine theirs) [
            | true ↦ λ s. inr (record {
              first = a;
              second = b;
              is_mine = i;
              is_theirs = j;
              distinct = distinct;
              same = (bytes_eq-Decides (sha256 a) (sha256 b)).0 (sym s);
            })
            | false ↦ λ s. inl (λ h. absurd (false≢true (s ∙ (bytes_eq-Decides (sha256 a) (sha256 b)).1 h)))
          ] refl
    ] refl

at-cases : {A : Type 0} (x : A) (xs : List A) (y : A) (k : ℕ) → k < length (x ∷ xs) → get_or (x ∷ xs) k y ≡ y → (x ≡ y) ⊎ Contains xs y
at-cases x xs y zero lt e = inl e
at-cases x xs y (suc k) lt e = inr (k, omega (arith, lt), e)

-- one list of mine against the first ones of theirs
row-tells : (mine theirs : List (List ℕ)) (a : List ℕ) → Contains mine a → (bs : List (List ℕ))
    → ((b : List ℕ) → Contains bs b → Contains theirs b)
    → ((b : List ℕ) → Contains bs b → sha256 a ≡ sha256 b → a ≡ b) ⊎ Collision mine theirs
row-tells mine theirs a i [] within = inl (λ b h s. absurd (let lt = h.1 in omega (arith, lt)))
row-tells mine theirs a i (c ∷ bs) within =
    elim (pair-tells mine theirs a c i (within c (here c bs))) [
      | inl first ↦ elim (row-tells mine theirs a i bs (λ b h. within b (there c bs b h))) [
        | inl rest ↦ inl (λ b h s. elim (at-cases c bs b h.0 h.1 h.2) [
          | inl q ↦ first (s ∙ ap sha256 (sym q)) ∙ q
          | inr later ↦ rest b later s
        ])
        | inr found ↦ inr found
      ]
      | inr found ↦ inr found
    ]

rows-tell : (mine theirs some : List (List ℕ)) → ((a : List ℕ) → Contains some a → Contains mine a)
    → Apart some theirs ⊎ Collision mine theirs
rows-tell mine theirs [] within = inl (λ a b h j s. absurd (let lt = h.1 in omega (arith, lt)))
rows-tell mine theirs (c ∷ some) within =
    elim (row-tells mine theirs c (within c (here c some)) theirs (λ b h. h)) [
      | inl first ↦ elim (rows-tell mine theirs some (λ b h. within b (there c some b h))) [
        | inl rest ↦ inl (λ a b h j s. elim (at-cases c some a h.0 h.1 h.2) [
          | inl q ↦ sym q ∙ first b j (ap sha256 q ∙ s)
          | inr later ↦ rest a b later j s
        ])
        | inr found ↦ inr found
      ]
      | inr found ↦ inr found
    ]

pub tells : (mine theirs : List (List ℕ)) → Apart mine theirs ⊎ Collision mine theirs
tells mine theirs = rows-tell mine theirs mine (λ a h. h)
