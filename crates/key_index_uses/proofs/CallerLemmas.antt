-- On callers of an index, over any content.
use Rattle.std.proofs.Common.{◌≡◌, ◌+◌, ◌-◌, ◌<◌, ◌≤◌, ℕ, Bool, true, false, cond, List, [], ◌∷◌, ◌++◌, length, length-append, slice_set, refl, sym, ap, subst, ◌∙◌, arith}
use Rattle.std.proofs.lemmas.Fn.{filter_same}
use Rattle.std.proofs.lemmas.List.Elements.{filter-append}
use Rattle.std.specs.List.{filter, items_where_true}
use Rattle.std.specs.List.Retain.{ReturnsInTurn}
use Rattle.std.specs.declared.cmp.Ordering.{Ordering}
use Rattle.std.specs.Cmp.{IsTotalOrder}
use Rattle.std.specs.declared.cmp.Ordering.TheVariants.{Equal}
use Rattle.key_index_flat.specs.Content.{list_at, with_list, IsLawful}
use Rattle.key_index_flat.specs.View.{View, put_value, run_at, run_of, with_edit, with_pruned, with_run, after_insert, after_remove, InsertsAndRetainsAt}
use Rattle.key_index_flat.proofs.content.ContentLemmas.{with_list-same}
use Rattle.key_index_flat.proofs.runs.CursorLemmas.{list_at-with_list_same}

pub put_value-empty : {V : Type 0} (first : Bool) (v : V) → put_value first v [] ≡ v ∷ []
put_value-empty true v = refl
put_value-empty false v = refl

slice_set-empty : {V : Type 0} (l : List V) (v : V) → ¬ (0 < length l) → slice_set l 0 v ≡ l
slice_set-empty [] v h = refl
slice_set-empty (x ∷ xs) v h = absurd (h (omega arith))

module _ {K V : Type 0} {cmp : K → K → Ordering} (o : IsTotalOrder cmp) where
  -- a key that has no value has no first one
  pub absent_stays : ((x y : K) → cmp x y ≡ Equal → x ≡ y) → (s t : View K V) (k : K) (v : V) → IsLawful cmp s.content → t ≡ s
      → ¬ (0 < length (run_at cmp s k)) → t ≡ with_edit cmp s k (λ l. slice_set l 0 v)
  absent_stays exact s t k v lawful same none =
      let content : s.content ≡ with_list cmp s.content k (slice_set (list_at cmp s.content k) 0 v) =
      sym (with_list-same o exact s.content k lawful) ∙ ap (λ l. with_list cmp s.content k l) (sym (slice_set-empty (list_at cmp s.content k) v none)) in
      same ∙ (λ i. record s { content = content i })

-- a closure that answers by a test, and stays as it is
module _ {X F : Type 0} (R : F → X → Bool → F → Type 0) (test : X → Bool) (f : F) (says : (x : X) (b : Bool) (g : F) → R f x b g → (b ≡ test x) × (g ≡ f)) where
  one_told : (x : X) (xs ys : List X) (bs : List Bool) (b : Bool) → b ≡ test x → items_where_true bs xs ≡ ys → items_where_true (b ∷ bs) (x ∷ xs) ≡ cond (test x) (x ∷ ys) ys
  one_told x xs ys bs true e rest = ap (λ l. x ∷ l) rest ∙ ap (λ a. cond a (x ∷ ys) ys) e
  one_told x xs ys bs false e rest = rest ∙ ap (λ a. cond a (x ∷ ys) ys) e

  -- the first of those that it was asked on
  items_where_true-filter : (bs : List Bool) (xs ys : List X) (q : F) → length xs ≤ length bs → ReturnsInTurn R f bs (xs ++ ys) q → items_where_true bs xs ≡ filter test xs
  items_where_true-filter [] [] ys q h t = refl
  items_where_true-filter (b ∷ bs) [] ys q h t = refl
  items_where_true-filter [] (x ∷ xs) ys q h t = absurd (omega (arith, h))
  items_where_true-filter (b ∷ bs) (x ∷ xs) ys q h t =
      let one = says x b t.0 t.1 in
      one_told x xs (filter test xs) bs b one.0 (items_where_true-filter bs xs ys q (omega (arith, h)) (subst (λ (g : F). ReturnsInTurn R g bs (xs ++ ys) q) one.1 t.2))

  pub with_pruned-updated : {K : Type 0} (cmp : K → K → Ordering) (s t : View K X) (b : List ℕ) (v : X) → test v ≡ true → InsertsAndRetainsAt cmp R f s b v t
      → t ≡ with_pruned (with_run cmp s (s.slot b) (filter test (run_of cmp s b) ++ v ∷ [])) (length (run_of cmp s b) - length (filter test (run_of cmp s b)))
  with_pruned-updated cmp s t b v stays told =
      let run = run_of cmp s b in
      let kept = told.1.0 in
      let asks = told.1.1 in
      let more = length-append run (v ∷ []) in
      let held = items_where_true-filter asks.answers run (v ∷ []) asks.last (omega (arith, asks.long)) asks.asked in
      let all = filter_same R test f says (run ++ v ∷ []) kept (asks.answers, asks.last, asks.long ∙ sym more, asks.asked, asks.kept)
      ∙ filter-append test run (v ∷ []) ∙ ap (λ a. filter test run ++ cond a (v ∷ []) []) stays in
      let count = ap (λ l. told.0 + length l) (sym held) ∙ asks.taken in
      let taken : told.0 ≡ length run - length (filter test run) = omega (arith, count) in
      told.1.2 ∙ (λ i. with_pruned (with_run cmp s (s.slot b) (all i)) (taken i))
