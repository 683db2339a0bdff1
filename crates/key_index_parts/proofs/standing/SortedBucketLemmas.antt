-- How a bucket that spills stands after an edit, by how many values it has.
--     some_left, item_count-one_more                   a content where a key has no fewer values, and where it has one more
--     item_count-stays_positive                        the same after an insertion that may be refused
--     item_count-retained                              a retention leaves at most one value more, where there is a new one
--     in_tree, Grows-below_threshold, Grows-threshold_reached  how a tree stands after an insertion, arrays below the threshold, and a tree that arrays became
--     new_held                                         there is no new value where none was found
use Rattle.std.proofs.Common.{◌≡◌, ℕ, zero, suc, ◌+◌, ◌<◌, ◌≤◌, Bool, true, false, not, ◌&&◌, ◌||◌, nat_lt, nat_le, if◌then◌else◌, cond, List, length, Option, is_some, Result, Ok, Err, IfOk, OnErr, refl, sym, ap, subst, ◌∙◌, arith}
use Rattle.std.proofs.lemmas.Bool.{lt-leb, le-leb, lt-ltb, true≢false, false≢true}
use Rattle.std.specs.Cmp.{IsTotalOrder}
use Rattle.std.specs.declared.cmp.Ordering.{Ordering}
use Rattle.key_index_flat.specs.declared.index.retain.Retained.{Retained}
use Rattle.key_index_flat.specs.Content.{Content, item_count, list_at, with_list, with_list_by, IsLawful}
use Rattle.key_index_flat.proofs.content.ContentLemmas.{item_count-with_list}
use Rattle.key_index_parts.specs.Buckets.{Grows, RetainsList}
use Rattle.key_index_flat.proofs.closures.PutLemmas.{few_with}

module _ {K V : Type 0} where
  -- a tree that is left with some values or none, arrays below the threshold, and arrays that reached it
  pub in_tree : (spills : Bool) (threshold : ℕ) (c : Content K V) (is : Bool) → 1 ≤ threshold → is ≡ nat_lt 0 (item_count c) → Grows spills threshold true 0 c is
  in_tree false threshold c is least told = (refl, told)
  in_tree true threshold c is least told = (none (item_count c), told)
    where
      none : (n : ℕ) → 0 ≡ (if not (nat_lt 0 n) && nat_le threshold n then n else 0)
      none zero = ap (λ b. if b then 0 else 0) (sym (lt-leb threshold 0 least))
      none (suc n) = ap (λ b. if not b && nat_le threshold (suc n) then suc n else 0) (sym (lt-ltb 0 (suc n) (omega arith)))

  pub Grows-below_threshold : (spills : Bool) (threshold : ℕ) (c : Content K V) → (spills ≡ true → item_count c < threshold) → Grows spills threshold false 0 c false
  Grows-below_threshold false threshold c few = (refl, refl)
  Grows-below_threshold true threshold c few = (ap (λ b. if b then item_count c else 0) (sym (lt-leb threshold (item_count c) (few refl))), refl)

  pub Grows-threshold_reached : (spills : Bool) (threshold moved : ℕ) (c : Content K V) → spills ≡ true → 1 ≤ threshold → threshold ≤ moved → moved ≡ item_count c
      → Grows spills threshold false moved c true
  Grows-threshold_reached false threshold moved c is least many told = absurd (false≢true is)
  Grows-threshold_reached true threshold moved c is least many told = (
    told ∙ ap (λ b. if b then item_count c else 0) (sym (le-leb threshold (item_count c) (omega (arith, told, many)))),
    ap (λ b. b || false) (sym (lt-ltb 0 moved (omega (arith, least, many)))),
  )

-- a new value, where there is one
pub new_held : (some none : Bool) → some ≡ not none → none ≡ true → some ≡ true → ⊥
new_held some true told is h = true≢false (sym h ∙ told)
new_held some false told is h = false≢true is

pub one_at_most : (b : Bool) → cond b 1 0 ≤ 1
one_at_most true = omega arith
one_at_most false = omega arith

module _ {K V : Type 0} {cmp : K → K → Ordering} (o : IsTotalOrder cmp) where
  pub some_left : (c new : Content K V) (k : K) (l : List V) → IsLawful cmp c → 0 < item_count c → length (list_at cmp c k) ≤ length l
      → new ≡ with_list cmp c k l → 0 < item_count new
  some_left c new k l h some least is = let e = item_count-with_list o c k l h in let same = ap item_count is in omega (arith, e, same, some, least)

  pub item_count-one_more : (c new : Content K V) (k : K) (l : List V) → IsLawful cmp c → length l ≡ length (list_at cmp c k) + 1
      → new ≡ with_list cmp c k l → item_count new ≡ item_count c + 1
  item_count-one_more c new k l h more is = let e = item_count-with_list o c k l h in let same = ap item_count is in omega (arith, e, same, more)

  pub item_count-stays_positive : {E : Type 0} (r : Result Bool E) (c new : Content K V) (k : K) (f : List V → List V) (told : Bool) → IsLawful cmp c → 0 < item_count c
      → length (list_at cmp c k) ≤ length (f (list_at cmp c k)) → IfOk r (λ absent. (new ≡ with_list_by cmp c k f) × (absent ≡ told)) → OnErr r (new ≡ c)
      → 0 < item_count new
  item_count-stays_positive (Ok absent) c new k f told h some least accepted refused = some_left c new k (f (list_at cmp c k)) h some least accepted.0
  item_count-stays_positive (Err e) c new k f told h some least accepted refused = subst (λ d. 0 < item_count d) (sym refused) some

  pub item_count-retained : {F : Type 0} (ask : F → V → Bool → F → Type 0) (p : F) (c now : Content K V) (k : K) (new : Option V) (told : Retained) → IsLawful cmp c
      → RetainsList ask p (list_at cmp c k) new told (λ l. now ≡ with_list cmp c k l) → item_count now ≤ item_count c + cond (is_some new) 1 0
  item_count-retained ask p c now k new told h said =
      let e = item_count-with_list o c k said.0 h in
      let same = ap item_count said.2 in
      let few = few_with ask p (list_at cmp c k) said.0 new told.taken said.1 in
      omega (arith, e, same, few)
