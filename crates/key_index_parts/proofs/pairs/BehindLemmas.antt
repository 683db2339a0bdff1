-- The values of a run with one more behind them, in the place of what stood there, and then those that are kept, moved to the front of the run.
--     written               a vector after its slice was written whole
--     Behind, asked_on      where the value stands, and what the closure is asked on
--     Keeps                 those that are kept, `left` of them
--     kept_last             where nothing stood behind the run
--     kept_all, kept_some   what did stand there is put in behind, or back, and what is left of the run goes
use Rattle.std.proofs.Common.{◌≡◌, ℕ, ◌+◌, ◌-◌, ◌<◌, ◌≤◌, List, [], ◌∷◌, ◌++◌, length, take, drop, insert, get_or, take-take, append-nil, sym, ap, ◌∙◌, arith}
use Rattle.std.proofs.Math.ListN.{set}
use Rattle.std.proofs.lemmas.List.{drop-drop, length-drop, get_or-drop, take-set-le, drop-set, take_all, take-append-le}
use Rattle.std.proofs.lemmas.List.Edits.{between_more}
use Rattle.std.proofs.lemmas.Slice.{between_is}
use Rattle.std.specs.List.{remove_range, slice_range}

pub written : {X : Type 0} (n : ℕ) (ws xs : List X) → n ≡ length xs → length ws ≡ length xs → take n (ws ++ drop (length ws) xs) ≡ ws
written n ws xs held long = take-append-le n ws (drop (length ws) xs) (omega (arith, held, long)) ∙ take_all n ws (omega (arith, held, long))

-- xs before, ys with v at `end`, and `rest` behind it
pub record Behind {X : Type 0} (xs ys rest : List X) (start end : ℕ) (v : X) : Type 0 where
  pub order : start ≤ end
  pub before : take end ys ≡ take end xs
  pub at : drop end ys ≡ v ∷ rest

pub record Keeps {X : Type 0} (ys ws kept : List X) (start end left : ℕ) : Type 0 where
  pub few : left ≤ end + 1 - start
  pub front : take (start + left) ws ≡ take start ys ++ kept
  pub back : drop (end + 1) ws ≡ drop (end + 1) ys
  pub sized : length ws ≡ length ys

module _ {X : Type 0} {xs ys rest : List X} {start end : ℕ} {v : X} (b : Behind xs ys rest start end v) where
  inside : end < length ys
  inside = let d = length-drop end ys in let e = ap (λ l. length l) b.at in omega (arith, d, e)

  pub asked_on : slice_range ys start (end + 1) ≡ slice_range xs start end ++ v ∷ []
  asked_on =
      let first : end + 0 ≡ end = omega arith in
      let value : get_or ys end v ≡ v = ap (λ n. get_or ys n v) (sym first) ∙ sym (get_or-drop end ys 0 v) ∙ ap (λ l. get_or l 0 v) b.at in
      between_more ys start end v b.order inside
      ∙ (λ i. (between_is ys start end ∙ ap (drop start) b.before ∙ sym (between_is xs start end)) i ++ value i ∷ [])

  module _ {ws kept : List X} {left : ℕ} (k : Keeps ys ws kept start end left) where
    front_kept : take (start + left) ws ≡ take start xs ++ kept
    front_kept = k.front ∙ ap (λ l. l ++ kept) (sym (take-take start end ys b.order) ∙ ap (take start) b.before ∙ take-take start end xs b.order)

    behind_now : drop (end + 1) ws ≡ rest
    behind_now = k.back ∙ sym (drop-drop 1 end ys) ∙ ap (drop 1) b.at

    pub kept_last : drop end xs ≡ [] → take (start + left) ws ≡ take start xs ++ kept ++ drop end xs
    kept_last none = front_kept ∙ sym (append-nil (take start xs ++ kept)) ∙ ap (λ l. take start xs ++ kept ++ l) (sym none)

    module _ (u : X) (stood : drop end xs ≡ u ∷ rest) where
      pub kept_all : end < start + left → insert ws (start + left) u ≡ take start xs ++ kept ++ drop end xs
      kept_all all =
          let last : start + left ≡ end + 1 = omega (arith, all, k.few) in
          (λ i. front_kept i ++ u ∷ drop (last i) ws) ∙ ap (λ l. take start xs ++ kept ++ u ∷ l) behind_now ∙ ap (λ l. take start xs ++ kept ++ l) (sym stood)

      pub kept_some : start + left ≤ end → remove_range (set ws end u) (start + left) end ≡ take start xs ++ kept ++ drop end xs
      kept_some some =
          (λ i. take-set-le (start + left) ws end u some i ++ drop-set ws end u (omega (arith, inside, k.sized)) i)
          ∙ (λ i. front_kept i ++ u ∷ behind_now i) ∙ ap (λ l. take start xs ++ kept ++ l) (sym stood)
