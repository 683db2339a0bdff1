-- On a list with another element at a place.
--     at_set                what stands at each place
--     HasKey, key_stays     where a pair has another value, each place has the key that it had
--     element               what stands at a place
use Rattle.std.proofs.Common.{◌≡◌, ◌≢◌, ℕ, zero, suc, ◌<◌, List, [], ◌∷◌, length, Some, slice_get, slice_set, refl, sym, ap, subst, arith}
use Rattle.key_index_map.specs.Table.{set_value_at}

module _ {X : Type 0} where
  pub at_set : {P : Type 0} (xs : List X) (i j : ℕ) (y x : X) → slice_get (slice_set xs i y) j ≡ Some x → (j ≡ i → y ≡ x → P) → (j ≢ i → slice_get xs j ≡ Some x → P) → P
  at_set [] i j y x there same other = cc
  at_set (z ∷ zs) zero zero y x there same other = same refl cc
  at_set (z ∷ zs) zero (suc j) y x there same other = other (λ e. omega (arith, e)) there
  at_set (z ∷ zs) (suc i) zero y x there same other = other (λ e. omega (arith, e)) there
  at_set (z ∷ zs) (suc i) (suc j) y x there same other = at_set zs i j y x there (λ e. same (ap suc e)) (λ n. other (λ e. n (omega (arith, e))))

  pub element : (xs : List X) (i : ℕ) → i < length xs → (x : X) × (slice_get xs i ≡ Some x)
  element [] i below = absurd (omega (arith, below))
  element (x ∷ xs) zero below = (x, refl)
  element (x ∷ xs) (suc i) below = element xs i (omega (arith, below))

module _ {K V : Type 0} where
  pub record HasKey (pairs : List (K × V)) (i : ℕ) (k : K) : Type 0 where
    pub pair : K × V
    pub at : slice_get pairs i ≡ Some pair
    pub key : pair.0 ≡ k

  pub key_stays : (pairs : List (K × V)) (place : ℕ) (e : K × V) (w : V) (i : ℕ) (f : K × V) → slice_get pairs place ≡ Some e → slice_get (slice_set pairs place (e.0, w)) i ≡ Some f → HasKey pairs i f.0
  key_stays pairs place e w i f at there =
      at_set pairs place i (e.0, w) f there
      (λ same is. record { pair = e; at = subst (λ n. slice_get pairs n ≡ Some e) (sym same) at; key = ap (λ d. d.0) is })
      (λ _ stands. record { pair = f; at = stands; key = refl })

  pub set_value_at-set : (xs : List (K × V)) (i : ℕ) (e : K × V) (w : V) → slice_get xs i ≡ Some e → slice_set xs i (e.0, w) ≡ set_value_at xs i w
  set_value_at-set [] i e w at = refl
  set_value_at-set (x ∷ xs) zero e w at = let same : x ≡ e = cc in ap (λ d. (d.0, w) ∷ xs) (sym same)
  set_value_at-set (x ∷ xs) (suc i) e w at = ap (λ l. x ∷ l) (set_value_at-set xs i e w at)
