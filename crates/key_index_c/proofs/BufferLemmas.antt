-- What stands in a buffer after one more list was written, and where each list ends.
use Rattle.std.proofs.Common.{◌≡◌, ℕ, suc, zero, ◌+◌, ◌-◌, ◌<◌, ◌≤◌, ◌^◌, List, [], ◌∷◌, ◌++◌, length, take, drop, min, refl, sym, ap, ◌∙◌, inl, inr, append-nil, length-drop, arith}
use Rattle.std.proofs.lemmas.Bool.Decides.{eqb_tells}
use Rattle.std.proofs.lemmas.Grind.{get_or-set_at}
use Rattle.std.proofs.lemmas.List.{drop_all, get_or-set_other, take_all}
use Rattle.std.specs.Prelude.{slice_index, slice_set}
use Rattle.key_index_c.specs.Buffer.{filled}
use borrow.Rule.Slice.PartMut.{put_mid}
use native.Mathlib.Numerals.{unary_clauses}

drop_nil : (n : ℕ) → drop {A = ℕ} n [] ≡ []
drop_nil zero = refl
drop_nil (suc n) = refl

-- values behind those that were written before them
pub filled-append : (a b buffer : List ℕ) (from : ℕ) → from ≡ min (length a) (length buffer)
    → take from (filled a buffer) ++ filled b (drop from (filled a buffer)) ≡ filled (a ++ b) buffer
filled-append [] b [] from e = rw e refl
filled-append [] b (y ∷ buffer) from e = rw e (simp unary_clauses)
filled-append (x ∷ a) b [] from e = rw e (simp unary_clauses (drop_nil (length b)))
filled-append (x ∷ a) b (y ∷ buffer) from e =
    let had = filled-append a b buffer (min (length a) (length buffer)) refl in
    rw e (simp unary_clauses (ap (λ l. x ∷ l) had))

length-filled : (values buffer : List ℕ) → length (filled values buffer) ≡ length buffer
length-filled [] [] = refl
length-filled [] (y ∷ buffer) = refl
length-filled (x ∷ values) [] = refl
length-filled (x ∷ values) (y ∷ buffer) = ap suc (length-filled values buffer)

-- the same, where they were written to what is behind the first `from` numbers
pub filled-put_mid : (a b buffer now part : List ℕ) (from k n : ℕ) → now ≡ filled a buffer → from ≡ min n (length now)
    → n ≡ min (length a) (2 ^ 64 - 1) → length now < 2 ^ 64 → k ≡ length now - from
    → part ≡ filled b (take k (drop from now)) → put_mid from k now part ≡ filled (a ++ b) buffer
filled-put_mid a b buffer now part from k n written e d fits whole is =
    let long : length now ≡ length buffer = ap length written ∙ length-filled a buffer in
    let left : length (drop from now) ≤ k = omega (arith, length-drop from now) in
    let all : take k (drop from now) ≡ drop from now = take_all k (drop from now) left in
    let none : drop k (drop from now) ≡ [] = drop_all k (drop from now) left in
    let had = filled-append a b buffer from (omega arith) in
    rw (is, all, none, append-nil, written) had

-- what is told of each number below one, and at that one
pub each-set : (f : ℕ → ℕ) (ends : List ℕ) (n x : ℕ) → ((i : ℕ) → i < n → slice_index ends i ≡ f i) → n < length ends → x ≡ f n
    → (i : ℕ) → i < n + 1 → slice_index (slice_set ends n x) i ≡ f i
each-set f ends n x had fits is i below =
    elim (eqb_tells i n) [
      | inl same ↦ get_or-set_at ends n i x 0 same.1 fits ∙ is ∙ ap f (sym same.1)
      | inr other ↦ get_or-set_other ends n i x 0 other.1 ∙ had i (omega (arith, other.1))
    ]
