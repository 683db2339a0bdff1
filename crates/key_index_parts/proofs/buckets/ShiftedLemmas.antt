-- On buckets that are numbered from another start.
--     IfErr-implied, OnOk-implied         what a call answered
--     items_from, keys_from               the counts
--     list_from, read_from                a list read
--     below_from, held_from               there is none below the first number
--     edited_from                         and one put in
--     seen_edited, seen_pruned            a range as it is seen, after its storage was edited
use Rattle.std.proofs.Common.{◌≡◌, ℕ, suc, ◌+◌, ◌<◌, ◌≤◌, true, false, cond, not, ◌&&◌, nat_lt, List, [], ◌∷◌, Some, unwrap_or, length, Result, Ok, Err, IfErr, OnOk, OnErr, refl, sym, ap, ◌∙◌, arith, lt_of_not-le}
use Rattle.std.proofs.lemmas.Bool.{lt-ltb}
use Rattle.std.specs.declared.cmp.Ordering.{Ordering}
use Rattle.std.specs.declared.cmp.Ordering.TheVariants.{Less, Equal, Greater}
use Rattle.std.specs.Ordering.{is_eq}
use Rattle.std.specs.FinMap.{find, put}
use Rattle.std.specs.FinMap.Entries.{by_order}
use Rattle.key_index_flat.specs.Content.{Content, item_count, key_count, list_at, with_list, with_list_by}
use Rattle.key_index_flat.specs.View.{with_edit, with_pruned}
use Rattle.key_index_flat.proofs.runs.ViewLemmas.{content-same_view, same_pruned, same_slot, same_view}
use Rattle.key_index_parts.specs.Buckets.{Kept, view_of, view_from}
use Rattle.key_index_parts.specs.Gathered.{pair_cmp, gathered_from, gathered}
use Rattle.key_index_parts.specs.Joined.{is_between}
use Rattle.key_index_parts.proofs.buckets.GatheredLemmas.{item_count-gathered, item_count-gathered_from, key_count-gathered, key_count-gathered_from}
use Rattle.key_index_parts.specs.laws.RangeLaws.{shift, shifted, gathered_from-shifted, gathered_from-covers, pair_shift}

-- what a call answered, where one fact gives another
module _ {A E : Type 0} where
  pub IfErr-implied : (r : Result A E) (P Q : E → Type 0) → ((e : E) → P e → Q e) → IfErr r P → IfErr r Q
  IfErr-implied (Ok a) P Q f h = tt
  IfErr-implied (Err e) P Q f h = f e h

  pub OnOk-implied : (r : Result A E) (P Q : Type 0) → (P → Q) → OnOk r P → OnOk r Q
  OnOk-implied (Ok a) P Q f h = f h
  OnOk-implied (Err e) P Q f h = tt

  pub OnErr-implied : (r : Result A E) (P Q : Type 0) → (P → Q) → OnErr r P → OnErr r Q
  OnErr-implied (Ok a) P Q f h = tt
  OnErr-implied (Err e) P Q f h = f h

module _ {K V : Type 0} (n : ℕ) (buckets : List (Content K V)) where
  pub items_from : item_count (gathered buckets) ≡ item_count (gathered_from n buckets)
  items_from = item_count-gathered buckets ∙ sym (item_count-gathered_from n buckets)

  pub keys_from : key_count (gathered buckets) ≡ key_count (gathered_from n buckets)
  keys_from = key_count-gathered buckets ∙ sym (key_count-gathered_from n buckets)

module _ {K V : Type 0} (cmp : K → K → Ordering) where
  find-shifted : (n : ℕ) (c : Content (ℕ × K) V) (k : ℕ × K) → find (pair_cmp cmp) (shift n k) (shifted n c) ≡ find (pair_cmp cmp) k c
  find-shifted n [] k = refl
  find-shifted n (e ∷ es) k = λ i. cond (is_eq (pair_shift cmp n k e.0 i)) (Some e.1) (find-shifted n es k i)

  list_at-shifted : (n : ℕ) (c : Content (ℕ × K) V) (k : ℕ × K) → list_at (pair_cmp cmp) (shifted n c) (shift n k) ≡ list_at (pair_cmp cmp) c k
  list_at-shifted n c k = ap (λ o. unwrap_or o []) (find-shifted n c k)

  put-shifted : (n : ℕ) (c : Content (ℕ × K) V) (k : ℕ × K) (l : List V) → put (pair_cmp cmp) (shift n k) l (shifted n c) ≡ shifted n (put (pair_cmp cmp) k l c)
  put-shifted n [] k l = refl
  put-shifted n (e ∷ es) k l =
      let at = shift n e.0 in
      (λ i. by_order (pair_shift cmp n k e.0 i) ((shift n k, l) ∷ (at, e.1) ∷ shifted n es) ((at, l) ∷ shifted n es) ((at, e.1) ∷ put-shifted n es k l i))
      ∙ elim (pair_cmp cmp k e.0) as (λ r. by_order r ((shift n k, l) ∷ (at, e.1) ∷ shifted n es) ((at, l) ∷ shifted n es) ((at, e.1) ∷ shifted n (put (pair_cmp cmp) k l es))
      ≡ shifted n (by_order r ((k, l) ∷ e ∷ es) ((e.0, l) ∷ es) (e ∷ put (pair_cmp cmp) k l es))) [
        | Less ↦ refl
        | Equal ↦ refl
        | Greater ↦ refl
      ]

  without-shifted : (n : ℕ) (c : Content (ℕ × K) V) (k : ℕ × K) → with_list (pair_cmp cmp) (shifted n c) (shift n k) [] ≡ shifted n (with_list (pair_cmp cmp) c k [])
  without-shifted n [] k = refl
  without-shifted n (e ∷ es) k =
      let at = shift n e.0 in
      (λ i. cond (not (is_eq (pair_shift cmp n k e.0 i))) ((at, e.1) ∷ without-shifted n es k i) (without-shifted n es k i))
      ∙ elim (is_eq (pair_cmp cmp k e.0)) as (λ b. cond (not b) ((at, e.1) ∷ shifted n (with_list (pair_cmp cmp) es k [])) (shifted n (with_list (pair_cmp cmp) es k []))
      ≡ shifted n (cond (not b) (e ∷ with_list (pair_cmp cmp) es k []) (with_list (pair_cmp cmp) es k []))) [
        | true ↦ refl
        | false ↦ refl
      ]

  with_list-shifted : (n : ℕ) (c : Content (ℕ × K) V) (k : ℕ × K) (l : List V) → with_list (pair_cmp cmp) (shifted n c) (shift n k) l ≡ shifted n (with_list (pair_cmp cmp) c k l)
  with_list-shifted n c k [] = without-shifted n c k
  with_list-shifted n c k (v ∷ vs) = put-shifted n c k (v ∷ vs)

  pub list_from : (n : ℕ) (buckets : List (Content K V)) (k : ℕ × K) → list_at (pair_cmp cmp) (gathered_from n buckets) (shift n k) ≡ list_at (pair_cmp cmp) (gathered buckets) k
  list_from n buckets k = ap (λ c. list_at (pair_cmp cmp) c (shift n k)) (gathered_from-shifted n buckets) ∙ list_at-shifted n (gathered buckets) k

  pub read_from : (n : ℕ) (buckets : List (Content K V)) (k slot : ℕ × K) → shift n k ≡ slot → list_at (pair_cmp cmp) (gathered buckets) k ≡ list_at (pair_cmp cmp) (gathered_from n buckets) slot
  read_from n buckets k slot at = sym (list_from n buckets k) ∙ ap (λ s. list_at (pair_cmp cmp) (gathered_from n buckets) s) at

  -- below the first number there is none
  pub below_from : (n : ℕ) (buckets : List (Content K V)) (slot : ℕ × K) → slot.0 < n → list_at (pair_cmp cmp) (gathered_from n buckets) slot ≡ []
  below_from n buckets slot h = gathered_from-covers cmp n buckets slot (ap (λ u. not (not u && nat_lt slot.0 (n + length buckets))) (lt-ltb slot.0 n h))

  pub held_from : (n : ℕ) (buckets : List (Content K V)) (slot : ℕ × K) (place : ℕ) → place < length (list_at (pair_cmp cmp) (gathered_from n buckets) slot) → n ≤ slot.0
  held_from n buckets slot place held =
      let above : n < suc slot.0 = lt_of_not-le (λ below. let none = ap (λ l. length l) (below_from n buckets slot (omega (arith, below))) in omega (arith, held, none)) in
      omega (arith, above)

  pub edited_from : (n : ℕ) (old new : List (Content K V)) (k : ℕ × K) (f : List V → List V) → gathered new ≡ with_list_by (pair_cmp cmp) (gathered old) k f
      → gathered_from n new ≡ with_list_by (pair_cmp cmp) (gathered_from n old) (shift n k) f
  edited_from n old new k f is =
      let l = f (list_at (pair_cmp cmp) (gathered old) k) in
      gathered_from-shifted n new ∙ ap (λ c. shifted n c) is ∙ sym (with_list-shifted n (gathered old) k l)
      ∙ ap (λ c. with_list (pair_cmp cmp) c (shift n k) l) (sym (gathered_from-shifted n old))
      ∙ ap (λ m. with_list (pair_cmp cmp) (gathered_from n old) (shift n k) (f m)) (sym (list_from n old k))

-- k is an index key by the numbers of the range's own buckets, and `slot` the same by those of the index
module _ {T K V : Type 0} (cmp : K → K → Ordering) (p : ℕ) (translated : T → List ℕ → K) (n : ℕ) (old new : Kept T K V) (k slot : ℕ × K)
    (at : shift n k ≡ slot) (sized : length new.buckets ≡ length old.buckets) (f : List V → List V) where
  content_edited : gathered new.buckets ≡ with_list_by (pair_cmp cmp) (gathered old.buckets) k f
      → gathered_from n new.buckets ≡ with_list_by (pair_cmp cmp) (gathered_from n old.buckets) slot f
  content_edited is = edited_from cmp n old.buckets new.buckets k f is ∙ ap (λ s. with_list_by (pair_cmp cmp) (gathered_from n old.buckets) s f) at

  pub seen_edited : view_of p translated new ≡ with_edit (pair_cmp cmp) (view_of p translated old) k f
      → view_from p translated n new ≡ with_edit (pair_cmp cmp) (view_from p translated n old) slot f
  seen_edited is = same_view (content_edited (content-same_view is)) (same_pruned is) (same_slot is) (λ i s. is_between n (n + sized i) s.0)

  pub seen_pruned : (more : ℕ) → view_of p translated new ≡ with_pruned (with_edit (pair_cmp cmp) (view_of p translated old) k f) more
      → view_from p translated n new ≡ with_pruned (with_edit (pair_cmp cmp) (view_from p translated n old) slot f) more
  seen_pruned more is = same_view (content_edited (content-same_view is)) (same_pruned is) (same_slot is) (λ i s. is_between n (n + sized i) s.0)
