-- On pairs that go one by one from a list of them into a map.
--     Moving, begun    what the map has so far, and what is left
--     reordered        what is left, in another order
--     new_key          the map has no value at the key of the first pair that is left
--     one_less         after one more pair
--     all_moved        after the last
use Rattle.std.proofs.Common.{◌≡◌, ◌+◌, Bool, true, false, is_some, List, [], ◌∷◌, length, Option, Some, None, refl, sym, ap, ◌∙◌, ⊎_elim, arith}
use Rattle.std.specs.Cmp.{IsEquivalence}
use Rattle.std.specs.List.{IsDistinct}
use Rattle.std.specs.List.Sorted.{IsPermutation}
use Rattle.std.specs.Map.{lookup, keys_of}
use Rattle.std.specs.Option.{option_or}
use Rattle.std.proofs.lemmas.Bool.{cases_Bool}
use Rattle.std.proofs.lemmas.List.Sorted.{length_permutation}
use Rattle.std.proofs.lemmas.Map.{lookup-none}
use Rattle.std.proofs.lemmas.Map.Entries.{lookup_head, lookup_tail, none_past_head}
use Rattle.std.proofs.lemmas.Map.Keys.{IsDistinct-tail}
use Rattle.key_index_map.specs.Table.{Updates}
use Rattle.key_index_map.proofs.Between.{same_lookup, distinct_permuted, lookup-permuted}

or_none : {V : Type 0} (o : Option V) → option_or o None ≡ o
or_none (Some v) = refl
or_none None = refl

module _ {K V : Type 0} {eq : K → K → Bool} (laws : IsEquivalence eq) where
  pub record Moving (start left moved : List (K × V)) : Type 0 where
    pub values : (q : K) → option_or (lookup (eq q) left) (lookup (eq q) moved) ≡ lookup (eq q) start
    pub apart : (q : K) → is_some (lookup (eq q) left) ≡ true → lookup (eq q) moved ≡ None
    pub distinct : IsDistinct eq (keys_of left)
    pub len : length left + length moved ≡ length start

  pub begun : (start moved : List (K × V)) → IsDistinct eq (keys_of start) → moved ≡ [] → Moving start start moved
  begun start moved differ none = record {
    values = λ q. ap (λ l. option_or (lookup (eq q) start) (lookup (eq q) l)) none ∙ or_none (lookup (eq q) start);
    apart = λ q _. ap (lookup (eq q)) none;
    distinct = differ;
    len = let long = ap length none in omega (arith, long);
  }

  pub reordered : (start left left' moved : List (K × V)) → IsPermutation left left' → Moving start left moved → Moving start left' moved
  reordered start left left' moved same m = record {
    values = λ q. ap (λ o. option_or o (lookup (eq q) moved)) (lookup-permuted laws q left left' m.distinct same) ∙ m.values q;
    apart = λ q is. m.apart q (sym (ap is_some (lookup-permuted laws q left left' m.distinct same)) ∙ is);
    distinct = distinct_permuted laws left left' m.distinct same;
    len = omega (arith, m.len, length_permutation left left' same);
  }

  module _ (start left moved : List (K × V)) (k : K) (v : V) (so_far : Moving start ((k, v) ∷ left) moved) where
    pub new_key : lookup (eq k) moved ≡ None
    new_key = so_far.apart k (ap is_some (lookup_head (eq k) (k, v) left (laws.refl k)))

    gone : (q : K) → eq k q ≡ true → lookup (eq q) left ≡ None
    gone q same = lookup-none (eq q) left (none_past_head laws q (k, v) left so_far.distinct (laws.symm q k ∙ same))

    pub one_less : (more : List (K × V)) → Updates eq moved more k (Some v) → length more ≡ length moved + 1 → Moving start left more
    one_less more updates long = record {
      values = λ q.
          ⊎_elim
          (λ same.
          ap (λ m. option_or m (lookup (eq q) more)) (gone q same) ∙ sym (same_lookup laws k q same more) ∙ updates.at
          ∙ sym (ap (λ m. option_or m (lookup (eq q) moved)) (lookup_head (eq q) (k, v) left (laws.symm q k ∙ same))) ∙ so_far.values q)
          (λ other.
          ap (option_or (lookup (eq q) left)) (updates.others q other)
          ∙ sym (ap (λ m. option_or m (lookup (eq q) moved)) (lookup_tail (eq q) (k, v) left (laws.symm q k ∙ other))) ∙ so_far.values q)
          (cases_Bool (eq k q));
      apart = λ q is.
          ⊎_elim
          (λ same. let both : true ≡ false = sym is ∙ ap is_some (gone q same) in cc)
          (λ other. updates.others q other ∙ so_far.apart q (ap is_some (lookup_tail (eq q) (k, v) left (laws.symm q k ∙ other)) ∙ is))
          (cases_Bool (eq k q));
      distinct = IsDistinct-tail eq k (keys_of left) so_far.distinct;
      len = omega (arith, so_far.len, long);
    }

  pub all_moved : (start left moved : List (K × V)) → Moving start left moved → left ≡ [] → (q : K) → lookup (eq q) moved ≡ lookup (eq q) start
  all_moved start left moved m none q = sym (ap (λ l. option_or (lookup (eq q) l) (lookup (eq q) moved)) none) ∙ m.values q
