-- Items behind a gap that go to its front one after another, each by a swap.
--     Closed                                what a loop has done up to a place
--     closed_first, closed_more, closed_last  at the start, after one more, and at the end
--     remove_range-remove                   without the first of them, those that are left to go
use Rattle.std.proofs.Common.{◌≡◌, ℕ, suc, zero, ◌+◌, ◌-◌, ◌<◌, ◌≤◌, List, [], ◌∷◌, ◌++◌, length, take, drop, inl, inr, append-nil, append_assoc, refl, sym, ap, ◌∙◌, arith}
use Rattle.std.proofs.Math.ListN.{get_or}
use Rattle.std.proofs.lemmas.List.{get_or-drop, length-drop, take_all}
use Rattle.std.proofs.lemmas.Option.{slice_get_cases, slice_get_read}
use Rattle.std.specs.List.{SwappedAt, remove, remove_range}
use Rattle.key_index_flat.proofs.closures.Asked.{take-value}
use Rattle.key_index_flat.proofs.closures.TurnLemmas.{swap_take}

module _ {X : Type 0} where
  -- xs at the start, ys now; those from `to` up to `at` stand from `from` up to `into`
  pub record Closed (xs ys : List X) (from to into at : ℕ) : Type 0 where
    pub step : into + to ≡ at + from
    pub past : to ≤ at
    pub front : take into ys ≡ take from xs ++ take (at - to) (drop to xs)
    pub back : (i : ℕ) (d : X) → at ≤ i → get_or ys i d ≡ get_or xs i d
    pub sized : length ys ≡ length xs

  pub closed_first : (xs : List X) (from to : ℕ) → Closed xs xs from to from to
  closed_first xs from to =
      let none : 0 ≡ to - to = omega arith in record {
        step = omega arith;
        past = omega arith;
        front = sym (append-nil (take from xs)) ∙ ap (λ n. take from xs ++ take n (drop to xs)) none;
        back = λ i d h. refl;
        sized = refl;
      }

  module _ (xs ys : List X) (from to into at : ℕ) (c : Closed xs ys from to into at) where
    pub closed_more : (zs : List X) → from ≤ to → at < length ys → SwappedAt ys zs into at → length zs ≡ length ys → Closed xs zs from to (into + 1) (at + 1)
    closed_more zs order inside swapped long =
        let step = c.step in
        let past = c.past in
        elim (slice_get_cases ys at).1 [
          | inl found ↦
              let x = found.0 in
              let place : to + (at - to) ≡ at = omega (arith, past) in
              let here : x ≡ get_or (drop to xs) (at - to) x = sym (get_or-drop to xs (at - to) x ∙ ap (λ n. get_or xs n x) place ∙ sym (c.back at x (omega arith)) ∙ found.3) in
              let behind = length-drop to xs in
              let size = c.sized in
              let next : take (at + 1 - to) (drop to xs) ≡ take (at - to) (drop to xs) ++ x ∷ [] =
              ap (λ n. take n (drop to xs)) (let more : at + 1 - to ≡ at - to + 1 = omega (arith, past) in more)
              ∙ sym (take-value (drop to xs) (at - to) x (slice_get_read (drop to xs) (length (drop to xs)) (at - to) x refl (omega (arith, behind, size, inside, past)) here)) in record {
                step = omega (arith, step);
                past = omega (arith, past);
                front = swap_take ys zs into at x (omega (arith, step, order)) inside found.3 swapped ∙ ap (λ l. l ++ x ∷ []) c.front
                    ∙ append_assoc (take from xs) (take (at - to) (drop to xs)) (x ∷ []) ∙ ap (λ l. take from xs ++ l) (sym next);
                back = λ i d h. swapped.2 i d (λ e. omega (arith, h, step, order, e)) (λ e. omega (arith, h, e)) ∙ c.back i d (omega (arith, h));
                sized = long ∙ size;
              }
          | inr none ↦ let past_end = none.0 in absurd (omega (arith, past_end, inside))
        ]

    pub closed_last : length ys ≤ at → take into ys ≡ remove_range xs from to
    closed_last done =
        c.front ∙ ap (λ l. take from xs ++ l) (take_all (at - to) (drop to xs) (omega (arith, done, c.sized, length-drop to xs, c.past)))

pub remove_range-remove : {X : Type 0} (xs : List X) (i k : ℕ) → i < length xs → i ≤ k
    → remove_range (remove xs i) i k ≡ remove_range xs i (suc k)
remove_range-remove [] i k inside order = absurd (omega (arith, inside))
remove_range-remove (x ∷ xs) zero k inside order = refl
remove_range-remove (x ∷ xs) (suc i) zero inside order = absurd (omega (arith, order))
remove_range-remove (x ∷ xs) (suc i) (suc k) inside order =
    ap (λ l. x ∷ l) (remove_range-remove xs i k (omega (arith, inside)) (omega (arith, order)))
