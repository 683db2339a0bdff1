-- Tests of pairs by their keys.
--     filter-none, filter-all       where no element passes, or each does
--     length-filter-keys            a test of keys passes as many pairs
use Rattle.std.proofs.Common.{◌≡◌, suc, Bool, true, false, cond, List, [], ◌∷◌, length, All, refl, ap, ◌∙◌}
use Rattle.std.proofs.lemmas.List.Elements.{All-head, All-tail}
use Rattle.std.specs.List.{filter}
use Rattle.std.specs.Map.{keys_of}

module _ {X : Type 0} (p : X → Bool) where
  pub filter-none : (xs : List X) → All (λ x. p x ≡ false) xs → filter p xs ≡ []
  filter-none [] h = refl
  filter-none (x ∷ xs) h = ap (λ b. cond b (x ∷ filter p xs) (filter p xs)) (All-head (λ x. p x ≡ false) x xs h) ∙ filter-none xs (All-tail (λ x. p x ≡ false) x xs h)

  pub filter-all : (xs : List X) → All (λ x. p x ≡ true) xs → filter p xs ≡ xs
  filter-all [] h = refl
  filter-all (x ∷ xs) h = ap (λ b. cond b (x ∷ filter p xs) (filter p xs)) (All-head (λ x. p x ≡ true) x xs h) ∙ ap (λ l. x ∷ l) (filter-all xs (All-tail (λ x. p x ≡ true) x xs h))

module _ {K V : Type 0} where
  pub length-filter-keys : (p : K → Bool) (es : List (K × V)) → length (filter (λ e. p e.0) es) ≡ length (filter p (keys_of es))
  length-filter-keys p [] = refl
  length-filter-keys p (e ∷ es) =
      elim (p e.0) as (λ b. length (cond b (e ∷ filter (λ e. p e.0) es) (filter (λ e. p e.0) es)) ≡ length (cond b (e.0 ∷ filter p (keys_of es)) (filter p (keys_of es)))) [
        | true ↦ ap suc (length-filter-keys p es)
        | false ↦ length-filter-keys p es
      ]
