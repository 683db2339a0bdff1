-- The positions of a key are at most as many as all, and what stands in a buffer after one more was written.
use Rattle.std.proofs.Common.{◌≡◌, ℕ, suc, zero, ◌<◌, ◌≤◌, List, [], ◌∷◌, length, take, drop, Option, Some, IsSome, ◌↔◌, refl, ap, subst, nat_eq, arith}
use Rattle.std.proofs.lemmas.Bool.{eqb-true}
use Rattle.std.proofs.lemmas.Map.Made.{length-le_from_is_member}
use Rattle.std.proofs.lemmas.Map.Views.{Contains-from_any, list_any-from_Contains}
use Rattle.std.specs.Cmp.{nat_eq_equiv}
use Rattle.std.specs.List.{Contains, IsDistinct}
use Rattle.std.specs.Prelude.{slice_set}
use Rattle.key_index.specs.Table.{HasSize}
use Rattle.key_index_c.specs.Buffer.{filled}

pub at_most : {K : Type 0} (keys : ℕ → Option K) (k : K) (ps : List ℕ) (n : ℕ) → IsDistinct nat_eq ps
    → ((p : ℕ) → Contains ps p ↔ (keys p ≡ Some k)) → HasSize keys n → length ps ≤ n
at_most keys k ps n once exact size =
    let all = size.0 in let is = size.3 in
    subst (λ m. length ps ≤ m) size.2
    (length-le_from_is_member nat_eq_equiv ps all once (λ q t.
    let at : keys q ≡ Some k = (exact q).0 (Contains-from_any eqb-true q ps t) in
    let held : IsSome (keys q) = rw at refl in
    list_any-from_Contains nat_eq_equiv q all ((is q).1 held)))

take_none : (n : ℕ) → take {A = ℕ} n [] ≡ []
take_none zero = refl
take_none (suc n) = refl

drop_none : (n : ℕ) (x : ℕ) (tail : List ℕ) → drop n [] ≡ x ∷ tail → ⊥
drop_none zero x tail e = cc
drop_none (suc n) x tail e = cc

-- the value at n goes to the place n, where there is one
pub filled-next : (xs : List ℕ) (n x : ℕ) (tail buffer : List ℕ) → drop n xs ≡ x ∷ tail → n < length buffer
    → slice_set (filled (take n xs) buffer) n x ≡ filled (take (suc n) xs) buffer
filled-next [] n x tail buffer e fits = absurd (drop_none n x tail e)
filled-next (y ∷ xs) zero x tail [] e fits = absurd (omega (arith, fits))
filled-next (y ∷ xs) zero x tail (b ∷ bs) e fits =
    let same : x ≡ y = cc in rw (same, take_none (length bs)) refl
filled-next (y ∷ xs) (suc n) x tail [] e fits = absurd (omega (arith, fits))
filled-next (y ∷ xs) (suc n) x tail (b ∷ bs) e fits =
    ap (λ l. y ∷ l) (filled-next xs n x tail bs e (omega (arith, fits)))

pub filled-full : (xs : List ℕ) (n x : ℕ) (tail buffer : List ℕ) → drop n xs ≡ x ∷ tail → length buffer ≤ n
    → filled (take n xs) buffer ≡ filled (take (suc n) xs) buffer
filled-full [] n x tail buffer e full = absurd (drop_none n x tail e)
filled-full (y ∷ xs) zero x tail [] e full = refl
filled-full (y ∷ xs) zero x tail (b ∷ bs) e full = absurd (omega (arith, full))
filled-full (y ∷ xs) (suc n) x tail [] e full = refl
filled-full (y ∷ xs) (suc n) x tail (b ∷ bs) e full =
    ap (λ l. y ∷ l) (filled-full xs n x tail bs e (omega (arith, full)))

pub drop-next : (xs : List ℕ) (n x : ℕ) (tail : List ℕ) → drop n xs ≡ x ∷ tail → tail ≡ drop (suc n) xs
drop-next [] n x tail e = absurd (drop_none n x tail e)
drop-next (y ∷ xs) zero x tail e = cc
drop-next (y ∷ xs) (suc n) x tail e = drop-next xs n x tail e
