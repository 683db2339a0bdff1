-- On pairs of keys that differ, in any order.
--     same_lookup, lookup-permuted    what a look-up finds at an equal key, and in another order
--     none_differ                     no pairs
--     come, go, turn                  after one more pair, one less, and another value for one
use Rattle.std.proofs.Common.{◌≡◌, Bool, false, true, List, [], ◌∷◌, Option, Some, None, sym, ap, subst, refl, ◌∙◌}
use Rattle.std.specs.Cmp.{IsEquivalence}
use Rattle.std.specs.List.{IsDistinct, AllByRecursion, Contains}
use Rattle.std.specs.List.Sorted.{IsPermutation}
use Rattle.std.specs.Map.{lookup, keys_of}
use Rattle.std.proofs.lemmas.List.Sorted.{IsPermutation-map, IsPermutation-sym, Contains-permutation}
use Rattle.std.proofs.lemmas.Map.{NonePasses, lookup-none, none_passes_from_lookup}
use Rattle.std.proofs.lemmas.Map.Entries.{lookup_from_place, place_from_lookup, lookup_head, lookup_tail, none_past_head}
use Rattle.std.proofs.lemmas.Map.Keys.{IsDistinct-cons, IsDistinct-tail, IsDistinct-IsPermutation}
use Rattle.std.proofs.lemmas.Option.{get_or_from_slice_get, slice_get_within, slice_get-get_or}
use Rattle.key_index_map.specs.Table.{Updates}

pub none_differ : {K V : Type 0} (eq : K → K → Bool) (pairs : List (K × V)) → pairs ≡ [] → IsDistinct eq (keys_of pairs)
unfolding IsDistinct
none_differ {K} {V} eq pairs none = subst (λ (l : List (K × V)). IsDistinct eq (keys_of l)) (sym none) tt

keys-NonePasses : {K V : Type 0} (test : K → Bool) (pairs : List (K × V)) → NonePasses test pairs → AllByRecursion (λ y. test y ≡ false) (keys_of pairs)
keys-NonePasses test [] h = tt
keys-NonePasses test (e ∷ es) h = (h.0, keys-NonePasses test es h.1)

-- another key than k is another key than one that is equal to it
other_key : {K : Type 0} {eq : K → K → Bool} → IsEquivalence eq → (k x q : K) → eq k x ≡ true → eq k q ≡ false → eq x q ≡ false
other_key laws k x q is not = sym (laws.congr k x q is) ∙ not

module _ {K V : Type 0} {eq : K → K → Bool} (laws : IsEquivalence eq) where
  pub same_lookup : (k x : K) → eq k x ≡ true → (pairs : List (K × V)) → lookup (eq k) pairs ≡ lookup (eq x) pairs
  same_lookup k x is pairs = ap (λ (t : K → Bool). lookup t pairs) (λ i y. laws.congr k x y is i)

  pub distinct_permuted : (xs ys : List (K × V)) → IsDistinct eq (keys_of xs) → IsPermutation xs ys → IsDistinct eq (keys_of ys)
  distinct_permuted xs ys differ moved = IsDistinct-IsPermutation eq laws.symm (keys_of xs) (keys_of ys) (IsPermutation-map (λ (e : K × V). e.0) xs ys moved) differ

  lookup-permuted_some : (q : K) (xs ys : List (K × V)) (v : V) → IsDistinct eq (keys_of ys) → IsPermutation xs ys → lookup (eq q) xs ≡ Some v → lookup (eq q) ys ≡ Some v
  lookup-permuted_some q xs ys v differ moved some =
      let p = place_from_lookup (eq q) xs v some in
      let e : K × V = (p.1, v) in
      let in_xs : Contains xs e = (p.0, slice_get_within xs p.0 e p.2, get_or_from_slice_get xs p.0 e e p.2) in
      let in_ys = Contains-permutation xs ys e moved in_xs in
      let at = slice_get-get_or ys in_ys.0 e in_ys.1 ∙ ap (λ x. Some x) in_ys.2 in
      same_lookup q p.1 p.3 ys ∙ lookup_from_place laws ys in_ys.0 p.1 v differ at

  pub lookup-permuted : (q : K) (xs ys : List (K × V)) → IsDistinct eq (keys_of xs) → IsPermutation xs ys → lookup (eq q) ys ≡ lookup (eq q) xs
  lookup-permuted q xs ys differ moved =
      elim (lookup (eq q) xs) as (λ o. lookup (eq q) xs ≡ o → lookup (eq q) ys ≡ o) [
        | Some v ↦ λ some. lookup-permuted_some q xs ys v (distinct_permuted xs ys differ moved) moved some
        | None ↦ λ none. elim (lookup (eq q) ys) as (λ o. lookup (eq q) ys ≡ o → o ≡ None) [
          | Some v ↦ λ some. let back = lookup-permuted_some q ys xs v differ (IsPermutation-sym xs ys moved) some in cc
          | None ↦ λ _. refl
        ] refl
      ] refl

  -- after a change: what look-ups find, and that keys differ
  pub record Changed (old new : List (K × V)) (k : K) (w : Option V) : Type 0 where
    pub updates : Updates eq old new k w
    pub distinct : IsDistinct eq (keys_of new)

  pub come : (k : K) (v : V) (old new : List (K × V)) → IsPermutation ((k, v) ∷ old) new → IsDistinct eq (keys_of old) → lookup (eq k) old ≡ None → Changed old new k (Some v)
  come k v old new moved differ none =
      let all = IsDistinct-cons eq k (keys_of old) (keys-NonePasses (eq k) old (none_passes_from_lookup (eq k) old none)) differ in
      record {
        updates = record {
          at = lookup-permuted k ((k, v) ∷ old) new all moved ∙ lookup_head (eq k) (k, v) old (laws.refl k);
          others = λ q not. lookup-permuted q ((k, v) ∷ old) new all moved ∙ lookup_tail (eq q) (k, v) old (laws.symm q k ∙ not);
        };
        distinct = distinct_permuted ((k, v) ∷ old) new all moved;
      }

  -- the pair of a key, and the others
  module _ (k : K) (e : K × V) (is : eq k e.0 ≡ true) (old others : List (K × V)) (differ : IsDistinct eq (keys_of old)) (moved : IsPermutation old (e ∷ others)) where
    pub found : lookup (eq k) old ≡ Some e.1
    found = sym (lookup-permuted k old (e ∷ others) differ moved) ∙ lookup_head (eq k) e others is

    pub go : Changed old others k None
    go =
        let all = distinct_permuted old (e ∷ others) differ moved in
        record {
          updates = record {
            at = lookup-none (eq k) others (none_past_head laws k e others all is);
            others = λ q not. sym (lookup_tail (eq q) e others (laws.symm q e.0 ∙ other_key laws k e.0 q is not)) ∙ lookup-permuted q old (e ∷ others) differ moved;
          };
          distinct = IsDistinct-tail eq e.0 (keys_of others) all;
        }

    pub turn : (w : V) (new : List (K × V)) → IsPermutation new ((e.0, w) ∷ others) → Changed old new k (Some w)
    turn w new moved' =
        let there = come e.0 w others new (IsPermutation-sym new ((e.0, w) ∷ others) moved') go.distinct (sym (same_lookup k e.0 is others) ∙ go.updates.at) in
        record {
          updates = record {
            at = same_lookup k e.0 is new ∙ there.updates.at;
            others = λ q not. there.updates.others q (other_key laws k e.0 q is not) ∙ go.updates.others q not;
          };
          distinct = there.distinct;
        }
