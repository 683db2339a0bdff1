-- Ops on two contents apart, and on the joined one; first: whether a new value goes in front.
--     IsLawful-after_ops          ops leave a lawful content so
--     join_ops                    the ops below a number on the one, and those from it up to another on the other, are those below the other on both
--     free_above                  where no op goes, a content stays free
use Rattle.std.proofs.Common.{◌≡◌, ℕ, ◌≤◌, Bool, true, false, cond, not, ◌&&◌, nat_lt, List, [], ◌∷◌, ◌++◌, append-nil, refl, sym, ap, ◌∙◌, arith}
use Rattle.std.proofs.lemmas.Bool.{ltb-true, ltb-false}
use Rattle.std.specs.declared.cmp.Ordering.{Ordering}
use Rattle.std.specs.declared.cmp.Ordering.TheVariants.{Equal}
use Rattle.std.specs.Cmp.{IsTotalOrder}
use Rattle.key_index_flat.specs.Content.{list_at, with_list, IsLawful}
use Rattle.key_index_flat.specs.laws.Laws.{IsLawful-with_list}
use Rattle.key_index_flat.specs.View.{View, pruned_after}
use Rattle.key_index_parts.specs.Joined.{joined, joined_view, IsFree, is_between}
use Rattle.key_index_parts.specs.Ops.{op_key, list_after, taken_after, after_op_at, after_op, after_ops, ops_within, ops_below}
use Rattle.key_index_parts.specs.Ranges.{number_of}
use Rattle.key_index_parts.specs.declared.index.partitioned.builds.op.Op.{Op}
use Rattle.key_index_parts.proofs.buckets.JoinedLemmas.{list_at-joined, joined-with_list, with_list-joined, IsFree-with_list}

pub pruned_left : (p q n : ℕ) → pruned_after (pruned_after p n) q ≡ pruned_after (pruned_after p q) n
pruned_left p q n = omega arith

pub pruned_right : (p q n : ℕ) → pruned_after p (pruned_after q n) ≡ pruned_after (pruned_after p q) n
pruned_right p q n = omega arith

pub below_is_out : (a b n : ℕ) → nat_lt n a ≡ true → is_between a b n ≡ false
below_is_out a b n e = ap (λ v. not v && nat_lt n b) e

module _ {K V : Type 0} {cmp : K → K → Ordering} (first : Bool) (o : IsTotalOrder cmp) (exact : (x y : K) → cmp x y ≡ Equal → x ≡ y) where
  pub IsLawful-after_op : (x : Op V) (s : View K V) → IsLawful cmp s.content → IsLawful cmp (after_op cmp first x s).content
  IsLawful-after_op x s h = IsLawful-with_list o s.content (s.slot (op_key x)) (list_after first x (list_at cmp s.content (s.slot (op_key x)))) h

  pub IsLawful-after_ops : (xs : List (Op V)) (s : View K V) → IsLawful cmp s.content → IsLawful cmp (after_ops cmp first xs s).content
  IsLawful-after_ops [] s h = h
  IsLawful-after_ops (x ∷ xs) s h = IsLawful-after_ops xs (after_op cmp first x s) (IsLawful-after_op x s h)

  -- an op on the one of two contents, at a key that the other does not have
  pub join_left : (k : K) (x : Op V) (s t : View K V) → IsLawful cmp s.content → IsLawful cmp t.content → list_at cmp t.content k ≡ []
      → joined_view cmp (after_op_at cmp first k x s) t ≡ after_op_at cmp first k x (joined_view cmp s t)
  join_left k x s t g h none =
      let l = list_at cmp s.content k in
      let same : list_at cmp (joined cmp s.content t.content) k ≡ l = list_at-joined o exact s.content t.content k g ∙ ap (λ m. l ++ m) none ∙ append-nil l in
      let content : joined cmp (with_list cmp s.content k (list_after first x l)) t.content ≡ with_list cmp (joined cmp s.content t.content) k (list_after first x (list_at cmp (joined cmp s.content t.content) k)) =
      joined-with_list o exact s.content t.content k (list_after first x l) g h ∙ ap (λ m. with_list cmp (joined cmp s.content t.content) k m) (ap (λ m. list_after first x l ++ m) none ∙ append-nil (list_after first x l) ∙ ap (λ m. list_after first x m) (sym same)) in
      let pruned : pruned_after (pruned_after s.pruned (taken_after x l)) t.pruned ≡ pruned_after (pruned_after s.pruned t.pruned) (taken_after x (list_at cmp (joined cmp s.content t.content) k)) =
      pruned_left s.pruned t.pruned (taken_after x l) ∙ ap (λ m. pruned_after (pruned_after s.pruned t.pruned) (taken_after x m)) (sym same) in
      λ i. record s { content = content i; pruned = pruned i }

  pub join_right : (k : K) (x : Op V) (s t : View K V) → IsLawful cmp s.content → IsLawful cmp t.content → list_at cmp s.content k ≡ []
      → joined_view cmp s (after_op_at cmp first k x t) ≡ after_op_at cmp first k x (joined_view cmp s t)
  join_right k x s t g h none =
      let l = list_at cmp t.content k in
      let same : list_at cmp (joined cmp s.content t.content) k ≡ l = list_at-joined o exact s.content t.content k g ∙ ap (λ m. m ++ l) none in
      let content : joined cmp s.content (with_list cmp t.content k (list_after first x l)) ≡ with_list cmp (joined cmp s.content t.content) k (list_after first x (list_at cmp (joined cmp s.content t.content) k)) =
      with_list-joined o exact s.content t.content k (list_after first x l) g h ∙ ap (λ m. with_list cmp (joined cmp s.content t.content) k m) (ap (λ m. m ++ list_after first x l) none ∙ ap (λ m. list_after first x m) (sym same)) in
      let pruned : pruned_after s.pruned (pruned_after t.pruned (taken_after x l)) ≡ pruned_after (pruned_after s.pruned t.pruned) (taken_after x (list_at cmp (joined cmp s.content t.content) k)) =
      pruned_right s.pruned t.pruned (taken_after x l) ∙ ap (λ m. pruned_after (pruned_after s.pruned t.pruned) (taken_after x m)) (sym same) in
      λ i. record s { content = content i; pruned = pruned i }

  -- partition: the partition of an index key
  module _ (partition : K → ℕ) where
    pub join_ops : (a b : ℕ) → a ≤ b → (xs : List (Op V)) (s t : View K V) → t.slot ≡ s.slot → IsLawful cmp s.content → IsLawful cmp t.content
        → IsFree cmp (λ k. not (nat_lt (partition k) a)) s.content → IsFree cmp (λ k. not (is_between a b (partition k))) t.content
        → joined_view cmp (after_ops cmp first (ops_below (number_of partition s.slot) a xs) s) (after_ops cmp first (ops_within (number_of partition s.slot) a b xs) t) ≡ after_ops cmp first (ops_below (number_of partition s.slot) b xs) (joined_view cmp s t)
    join_ops a b le [] s t keys g h low mid = refl
    join_ops a b le (x ∷ xs) s t keys g h low mid =
        let k = s.slot (op_key x) in
        let j = t.slot (op_key x) in
        let one : j ≡ k = ap (λ z. z (op_key x)) keys in
        let n = partition k in
        let goes : (u v : Bool) → nat_lt n a ≡ u → nat_lt n b ≡ v
        → joined_view cmp (after_ops cmp first (cond u (x ∷ ops_below (number_of partition s.slot) a xs) (ops_below (number_of partition s.slot) a xs)) s) (after_ops cmp first (cond (not u && v) (x ∷ ops_within (number_of partition s.slot) a b xs) (ops_within (number_of partition s.slot) a b xs)) t)
        ≡ after_ops cmp first (cond v (x ∷ ops_below (number_of partition s.slot) b xs) (ops_below (number_of partition s.slot) b xs)) (joined_view cmp s t)
        = elim [
          | true ↦ elim [
            | true ↦ λ p q.
                join_ops a b le xs (after_op cmp first x s) t keys (IsLawful-after_op x s g) h
                (IsFree-with_list o exact (λ z. not (nat_lt (partition z) a)) s.content k (list_after first x (list_at cmp s.content k)) (ap (λ z. not z) p) low) mid
                ∙ ap (λ z. after_ops cmp first (ops_below (number_of partition s.slot) b xs) z) (join_left k x s t g h (mid k (ap (λ z. not z) (below_is_out a b n p))))
            | false ↦ λ p q. let m = ltb-true n a p in let r = ltb-false n b q in absurd (omega (arith, le, m, r))
          ]
          | false ↦ elim [
            | true ↦ λ p q.
                join_ops a b le xs s (after_op cmp first x t) keys g (IsLawful-after_op x t h) low
                (IsFree-with_list o exact (λ z. not (is_between a b (partition z))) t.content j (list_after first x (list_at cmp t.content j)) (ap (λ z. not (is_between a b (partition z))) one ∙ (λ i. not (not (p i) && q i))) mid)
                ∙ ap (λ z. after_ops cmp first (ops_below (number_of partition s.slot) b xs) z) (join_right j x s t g h (ap (λ z. list_at cmp s.content z) one ∙ low k (ap (λ z. not z) p)) ∙ ap (λ z. after_op_at cmp first z x (joined_view cmp s t)) one)
            | false ↦ λ p q. join_ops a b le xs s t keys g h low mid
          ]
        ] in
        goes (nat_lt n a) (nat_lt n b) refl refl

    -- a content with no key from a on has none after the ops below it
    pub free_above : (a : ℕ) (xs : List (Op V)) (s : View K V) → IsFree cmp (λ k. not (nat_lt (partition k) a)) s.content → IsFree cmp (λ k. not (nat_lt (partition k) a)) (after_ops cmp first (ops_below (number_of partition s.slot) a xs) s).content
    free_above a [] s free = free
    free_above a (x ∷ xs) s free =
        let k = s.slot (op_key x) in
        elim (nat_lt (partition k) a) as (λ u. nat_lt (partition k) a ≡ u → IsFree cmp (λ z. not (nat_lt (partition z) a)) (after_ops cmp first (cond u (x ∷ ops_below (number_of partition s.slot) a xs) (ops_below (number_of partition s.slot) a xs)) s).content) [
          | true ↦ λ p. free_above a xs (after_op cmp first x s) (IsFree-with_list o exact (λ z. not (nat_lt (partition z) a)) s.content k (list_after first x (list_at cmp s.content k)) (ap (λ z. not z) p) free)
          | false ↦ λ p. free_above a xs s free
        ] refl
