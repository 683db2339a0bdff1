-- On pairs of keys that differ, in an array.
--     none_found, lookup-at_place     what a look-up finds, by the places
--     written_at_place, set_updates   another value at a place
--     looked_at, value_at, pair_at    the pair of a key
--     differ_at, differ_pushed, differ_taken, sets_pushed, sets_taken
--                                     after another value at its place, one more pair, and one that the last replaces
use Rattle.std.proofs.Common.{◌≡◌, ℕ, zero, suc, ◌<◌, ◌≤◌, Bool, true, cond, List, [], ◌∷◌, ◌++◌, length, get_or, Option, Some, None, slice_get, slice_set, refl, sym, ap, subst, ◌∙◌, arith}
use Rattle.std.specs.declared.cmp.Ordering.{Ordering}
use Rattle.std.specs.Ordering.{eq_by_cmp}
use Rattle.std.specs.Cmp.{IsEquivalence, IsTotalOrder}
use Rattle.std.specs.List.{IsDistinct, swap_remove}
use Rattle.std.specs.Map.{lookup, keys_of, set_value}
use Rattle.std.specs.Option.{IsSome}
use Rattle.std.proofs.lemmas.Bool.{false_from_ne_true}
use Rattle.std.proofs.lemmas.List.Sorted.{IsPermutation-swap_remove, IsPermutation-sym, IsPermutation-to_front}
use Rattle.std.proofs.lemmas.Map.{NonePasses, lookup-none, lookup-set_value, keys-set_value}
use Rattle.std.proofs.lemmas.Map.Entries.{lookup_from_place, none_past_head}
use Rattle.std.proofs.lemmas.Map.Keys.{IsDistinct-tail}
use Rattle.std.proofs.lemmas.Option.{get_or_from_slice_get, slice_get_within, slice_get_read}
use Rattle.key_index_map.specs.Table.{Updates}
use Rattle.key_index_map.proofs.Between.{same_lookup, Changed, come, go}
use Rattle.key_index_flat.specs.SmallMap.{IsAt, NoneBefore}
use Rattle.key_index_flat.specs.Storage.{value_of, Sets}
use Rattle.key_index_flat.proofs.content.KeyLemmas.{value_by_eq, Sets_by_eq}

module _ {K V : Type 0} (eq : K → K → Bool) (k : K) where
  NonePasses-NoneBefore : (pairs : List (K × V)) → NoneBefore eq pairs (length pairs) k → NonePasses (eq k) pairs
  NonePasses-NoneBefore [] none = tt
  NonePasses-NoneBefore (e ∷ es) none = (none 0 e (omega arith) refl, NonePasses-NoneBefore es (λ i d below at. none (suc i) d (omega arith) at))

  pub none_found : (pairs : List (K × V)) (place : ℕ) → length pairs ≤ place → NoneBefore eq pairs place k → lookup (eq k) pairs ≡ None
  none_found pairs place past none = lookup-none (eq k) pairs (NonePasses-NoneBefore pairs (λ i e below at. none i e (omega arith) at))

module _ {K V : Type 0} {eq : K → K → Bool} (laws : IsEquivalence eq) (k : K) where
  lookup-at_place : (pairs : List (K × V)) → IsDistinct eq (keys_of pairs) → (place : ℕ) (e : K × V) → slice_get pairs place ≡ Some e → eq k e.0 ≡ true → lookup (eq k) pairs ≡ Some e.1
  lookup-at_place pairs differ place e at is = same_lookup laws k e.0 is pairs ∙ lookup_from_place laws pairs place e.0 e.1 differ at

  -- of the pairs, one alone has a key that is equal to k
  written_at_place : (pairs : List (K × V)) → IsDistinct eq (keys_of pairs) → (place : ℕ) (e : K × V) (w : V) → slice_get pairs place ≡ Some e → eq k e.0 ≡ true → slice_set pairs place (e.0, w) ≡ set_value (eq k) pairs w
  written_at_place [] differ place e w at is = cc
  written_at_place (d ∷ ds) differ zero e w at is =
      let same : e ≡ d = cc in
      ap (λ x. (x.0, w) ∷ ds) same ∙ sym (ap (λ b. cond b ((d.0, w) ∷ ds) (d ∷ set_value (eq k) ds w)) (ap (λ x. eq k x.0) (sym same) ∙ is))
  written_at_place (d ∷ ds) differ (suc i) e w at is =
      let rest = IsDistinct-tail eq d.0 (keys_of ds) differ in
      let some = lookup-at_place ds rest i e at is in
      let other = false_from_ne_true (eq k d.0) (λ first. let none = lookup-none (eq k) ds (none_past_head laws k d ds differ first) in cc) in
      ap (λ l. d ∷ l) (written_at_place ds rest i e w at is) ∙ sym (ap (λ b. cond b ((d.0, w) ∷ ds) (d ∷ set_value (eq k) ds w)) other)

  pub set_updates : (pairs : List (K × V)) (v w : V) → Some v ≡ lookup (eq k) pairs → Updates eq pairs (set_value (eq k) pairs w) k (Some w)
  set_updates pairs v w at =
      let writes : (q : K) → lookup (eq q) (set_value (eq k) pairs w) ≡ cond (eq k q) (Some w) (lookup (eq q) pairs) = λ q. lookup-set_value laws (eq k) (λ x y. laws.congr k x y) q w pairs (subst IsSome at refl) in
      record { at = writes k ∙ ap (λ b. cond b (Some w) (lookup (eq k) pairs)) (laws.refl k); others = λ q not. writes q ∙ ap (λ b. cond b (Some w) (lookup (eq q) pairs)) not }

pub lookup-value_of : {K V : Type 0} (eq : K → K → Bool) (cmp : K → K → Ordering) → ((x y : K) → eq x y ≡ eq_by_cmp cmp x y) → (pairs : List (K × V)) (k : K) → lookup (eq k) pairs ≡ value_of cmp pairs k
lookup-value_of eq cmp ties pairs k = value_by_eq eq cmp ties pairs k (lookup (eq k) pairs) refl

module _ {K V : Type 0} {eq : K → K → Bool} {cmp : K → K → Ordering} (ties : (x y : K) → eq x y ≡ eq_by_cmp cmp x y) (o : IsTotalOrder cmp) (laws : IsEquivalence eq)
    (pairs now : List (K × V)) (is_now : pairs ≡ now) (differ : IsDistinct eq (keys_of pairs)) where
  sets_from : (new : List (K × V)) (k : K) (w : Option V) → Changed laws pairs new k w → Sets cmp now new k w
  sets_from new k w change = subst (λ l. Sets cmp l new k w) is_now (Sets_by_eq eq cmp ties o pairs new k w change.updates)

  module _ (k : K) (place : ℕ) (stands : IsAt eq now place k) (e : K × V) (read : e ≡ get_or pairs place e) where
    pub pair_at : slice_get pairs place ≡ Some e
    pair_at = slice_get_read pairs (length pairs) place e refl (subst (λ l. place < length l) (sym is_now) stands.within) read

    pub key_equal-IsAt : eq k e.0 ≡ true
    key_equal-IsAt = stands.pair e (ap (λ l. slice_get l place) (sym is_now) ∙ pair_at)

    pub looked_at : Some e.1 ≡ lookup (eq k) now
    looked_at = sym (lookup-at_place laws k pairs differ place e pair_at key_equal-IsAt) ∙ ap (λ l. lookup (eq k) l) is_now

    pub value_at : Some e.1 ≡ value_of cmp now k
    value_at = value_by_eq eq cmp ties now k (Some e.1) looked_at

    written : (w : V) → slice_set pairs place (e.0, w) ≡ set_value (eq k) pairs w
    written w = written_at_place laws k pairs differ place e w pair_at key_equal-IsAt

    pub written_at : (w : V) → slice_set pairs place (e.0, w) ≡ set_value (eq k) now w
    written_at w = written w ∙ ap (λ l. set_value (eq k) l w) is_now

    pub differ_at : (w : V) → IsDistinct eq (keys_of (slice_set pairs place (e.0, w)))
    differ_at w = subst (IsDistinct eq) (sym (ap keys_of (written w) ∙ keys-set_value (eq k) pairs w)) differ

    gone : Changed laws pairs (swap_remove pairs place e) k None
    gone =
        let moved = IsPermutation-swap_remove pairs place e (slice_get_within pairs place e pair_at) (sym (get_or_from_slice_get pairs place e e pair_at)) in
        go laws k e key_equal-IsAt pairs (swap_remove pairs place e) differ moved

    pub sets_taken : Sets cmp now (swap_remove pairs place e) k None
    sets_taken = sets_from _ k None gone

    pub differ_taken : IsDistinct eq (keys_of (swap_remove pairs place e))
    differ_taken = gone.distinct

  module _ (k : K) (v : V) (none : value_of cmp now k ≡ None) where
    pushed : Changed laws pairs (pairs ++ (k, v) ∷ []) k (Some v)
    pushed =
        come laws k v pairs (pairs ++ (k, v) ∷ []) (IsPermutation-sym _ _ (IsPermutation-to_front pairs (k, v))) differ (ap (λ l. lookup (eq k) l) is_now ∙ lookup-value_of eq cmp ties now k ∙ none)

    pub sets_pushed : Sets cmp now (pairs ++ (k, v) ∷ []) k (Some v)
    sets_pushed = sets_from _ k (Some v) pushed

    pub differ_pushed : IsDistinct eq (keys_of (pairs ++ (k, v) ∷ []))
    differ_pushed = pushed.distinct
