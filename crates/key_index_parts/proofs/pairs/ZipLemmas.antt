-- Keys and values that stand beside each other as pairs.
--     length-zip, values_of-zip            what zip has
--     length-remove_range                  how many are left
--     take-zip, drop-zip                   a part of both is one of the pairs
--     zip-append                           two after two others
--     zip-insert, zip-remove, zip-remove_range     an edit of both is one of the pairs
use Rattle.std.proofs.Common.{◌≡◌, ℕ, zero, suc, ◌+◌, ◌-◌, ◌≤◌, List, [], ◌∷◌, ◌++◌, length, take, drop, insert, remove, refl, sym, ap, ◌∙◌, arith}
use Rattle.std.proofs.lemmas.List.{length-append, length-take, length-drop}
use Rattle.std.proofs.lemmas.Slice.Zip as zips
use Rattle.std.proofs.lemmas.Slice.Zip.{seconds-zip}
use Rattle.std.specs.List.{zip, remove_range}
use Rattle.std.specs.Map.{values_of}

module _ {K V : Type 0} where
  pub length-zip : (ks : List K) (vs : List V) → length ks ≡ length vs → length (zip ks vs) ≡ length ks
  length-zip ks vs h = omega (arith, zips.length-zip ks vs, h)

  pub values_of-zip : (ks : List K) (vs : List V) → length ks ≡ length vs → values_of (zip ks vs) ≡ vs
  values_of-zip ks vs h = seconds-zip ks vs (sym h)

  pub take-zip : (i : ℕ) (ks : List K) (vs : List V) → take i (zip ks vs) ≡ zip (take i ks) (take i vs)
  take-zip zero ks vs = refl
  take-zip (suc i) [] vs = refl
  take-zip (suc i) (k ∷ ks) [] = refl
  take-zip (suc i) (k ∷ ks) (v ∷ vs) = ap (λ l. (k, v) ∷ l) (take-zip i ks vs)

  zip-nil : (ks : List K) → zip {X = V} ks [] ≡ []
  zip-nil [] = refl
  zip-nil (k ∷ ks) = refl

  pub drop-zip : (i : ℕ) (ks : List K) (vs : List V) → drop i (zip ks vs) ≡ zip (drop i ks) (drop i vs)
  drop-zip zero ks vs = refl
  drop-zip (suc i) [] vs = refl
  drop-zip (suc i) (k ∷ ks) [] = sym (zip-nil (drop i ks))
  drop-zip (suc i) (k ∷ ks) (v ∷ vs) = drop-zip i ks vs

  pub zip-append : (ks js : List K) (vs ws : List V) → length ks ≡ length vs → zip (ks ++ js) (vs ++ ws) ≡ zip ks vs ++ zip js ws
  zip-append [] js [] ws h = refl
  zip-append [] js (v ∷ vs) ws h = absurd (omega (arith, h))
  zip-append (k ∷ ks) js [] ws h = absurd (omega (arith, h))
  zip-append (k ∷ ks) js (v ∷ vs) ws h = ap (λ l. (k, v) ∷ l) (zip-append ks js vs ws (omega (arith, h)))

  -- of parts that begin with as many keys as values
  pub zip-parts : (i : ℕ) (ks js : List K) (vs ws : List V) → length ks ≡ length vs → zip (take i ks ++ js) (take i vs ++ ws) ≡ take i (zip ks vs) ++ zip js ws
  zip-parts i ks js vs ws h = zip-append (take i ks) js (take i vs) ws (omega (arith, length-take i ks, length-take i vs, h)) ∙ ap (λ l. l ++ zip js ws) (sym (take-zip i ks vs))

  module _ (ks : List K) (vs : List V) (h : length ks ≡ length vs) where
    pub zip-insert : (i : ℕ) (k : K) (v : V) → zip (insert ks i k) (insert vs i v) ≡ insert (zip ks vs) i (k, v)
    zip-insert i k v = zip-parts i ks _ vs _ h ∙ ap (λ l. take i (zip ks vs) ++ (k, v) ∷ l) (sym (drop-zip i ks vs))

    pub zip-remove_range : (i j : ℕ) → zip (remove_range ks i j) (remove_range vs i j) ≡ remove_range (zip ks vs) i j
    zip-remove_range i j = zip-parts i ks _ vs _ h ∙ ap (λ l. take i (zip ks vs) ++ l) (sym (drop-zip j ks vs))

    pub zip-remove : (i : ℕ) → zip (remove ks i) (remove vs i) ≡ remove (zip ks vs) i
    zip-remove i = zip-remove_range i (suc i)

pub length-remove_range : {X : Type 0} (xs : List X) (i j : ℕ) → i ≤ j → j ≤ length xs → length (remove_range xs i j) + (j - i) ≡ length xs
length-remove_range xs i j le within = omega (arith, length-append (take i xs) (drop j xs), length-take i xs, length-drop j xs, le, within)
