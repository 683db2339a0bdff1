-- On what a hashed map tells of an insertion, by keys whose `==` and `cmp` agree.
--     told                 the value that stood there
--     back, kept_at, others    what comes back where a value stays, what stands at the key then, and at the others in both outcomes
use Rattle.std.proofs.Common.{◌≡◌, Bool, None, Some, cond, is_some, unwrap_or, IfOk, OnOk, OnErr, List, Option, Result, Ok, Err, ap, subst}
use Rattle.std.specs.declared.cmp.Ordering.{Ordering}
use Rattle.std.specs.Ordering.{eq_by_cmp}
use Rattle.std.specs.Cmp.{IsTotalOrder}
use Rattle.std.specs.Map.{lookup}
use Rattle.std.proofs.lemmas.Result.{on_ok_weaker}
use Rattle.key_index_map.specs.Table.{Updates}
use Rattle.key_index_flat.specs.Storage.{value_of, SameBut}
use Rattle.key_index_flat.proofs.content.KeyLemmas.{same_test, Sets_by_eq}

module _ {K V E : Type 0} (eq : K → K → Bool) (cmp : K → K → Ordering) (ties : (x y : K) → eq x y ≡ eq_by_cmp cmp x y) (entries : List (K × V)) (k : K) where
  pub told : (r : Result (Option V) E) → IfOk r (λ old. old ≡ lookup (eq k) entries) → IfOk r (λ old. old ≡ value_of cmp entries k)
  told r = subst (λ (test : K → K → Bool). IfOk r (λ old. old ≡ lookup (test k) entries)) (same_test eq cmp ties)

  pub back : (r : Result (Option V) E) (v : V) → IfOk r (λ o. o ≡ cond (is_some (lookup (eq k) entries)) (Some v) None) → IfOk r (λ o. o ≡ cond (is_some (value_of cmp entries k)) (Some v) None)
  back r v = subst (λ (test : K → K → Bool). IfOk r (λ o. o ≡ cond (is_some (lookup (test k) entries)) (Some v) None)) (same_test eq cmp ties)

  pub kept_at : (new : List (K × V)) (r : Result (Option V) E) (v : V) → OnOk r (Updates eq entries new k (Some (unwrap_or (lookup (eq k) entries) v))) → OnOk r (value_of cmp new k ≡ Some (unwrap_or (value_of cmp entries k) v))
  kept_at new r v updates =
      subst (λ (test : K → K → Bool). OnOk r (lookup (test k) new ≡ Some (unwrap_or (lookup (test k) entries) v))) (same_test eq cmp ties)
      (on_ok_weaker r (λ u. u.at) updates)

  pub others : IsTotalOrder cmp → (new : List (K × V)) (r : Result (Option V) E) (w : Option V) → OnOk r (Updates eq entries new k w) → OnErr r (new ≡ entries) → SameBut cmp (value_of cmp entries) (value_of cmp new) k
  others o new (Ok x) w updates same = (Sets_by_eq eq cmp ties o entries new k w updates).1
  others o new (Err e) w updates same = λ q apart. ap (λ l. value_of cmp l q) same
