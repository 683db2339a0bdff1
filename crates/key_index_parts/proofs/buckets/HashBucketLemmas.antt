-- On the lists of a flat index as a bucket.
--     absent_too                               an accepted insertion, and whether its key had none
--     lawful_put, lawful_absent, lawful_kept   an insertion leaves a lawful content
use Rattle.std.proofs.Common.{◌≡◌, ℕ, zero, suc, ◌<◌, Bool, List, Result, Ok, Err, IfOk, OnOk, OnErr, refl, sym, subst, arith}
use Rattle.std.specs.declared.cmp.Ordering.{Ordering}
use Rattle.std.specs.Cmp.{IsTotalOrder}
use Rattle.key_index_flat.specs.Content.{Content, IsLawful, with_list}
use Rattle.key_index_flat.proofs.closures.KeptLemmas.{lawful_edit}

pub absent_too : {E : Type 0} (P : Type 0) (r : Result Bool E) (b : Bool) → OnOk r P → IfOk r (λ absent. absent ≡ b) → IfOk r (λ absent. P × (absent ≡ b))
absent_too P (Ok a) b p e = (p, e)
absent_too P (Err x) b p e = tt

module _ {K V : Type 0} {cmp : K → K → Ordering} (o : IsTotalOrder cmp) where
  -- what an insertion leaves is lawful, accepted or refused
  pub lawful_put : {A E : Type 0} (c d : Content K V) (k : K) (l : List V) (r : Result A E) → IsLawful cmp c → OnOk r (d ≡ with_list cmp c k l) → OnErr r (d ≡ c) → IsLawful cmp d
  lawful_put c d k l (Ok x) h done same = lawful_edit o c d k l h done
  lawful_put c d k l (Err e) h done same = subst (λ x. IsLawful cmp x) (sym same) h

  pub lawful_absent : {E : Type 0} (c d : Content K V) (k : K) (l : List V) (r : Result ℕ E) → IsLawful cmp c → IfOk r (λ n. 0 < n → d ≡ c) → IfOk r (λ n. n ≡ 0 → d ≡ with_list cmp c k l) → OnErr r (d ≡ c) → IsLawful cmp d
  lawful_absent c d k l (Ok zero) h found put same = lawful_edit o c d k l h (put refl)
  lawful_absent c d k l (Ok (suc n)) h found put same = subst (λ x. IsLawful cmp x) (sym (found (omega arith))) h
  lawful_absent c d k l (Err e) h found put same = subst (λ x. IsLawful cmp x) (sym same) h

  pub lawful_kept : {A E : Type 0} (c d : Content K V) (k : K) (r : Result A E) → IsLawful cmp c → IfOk r (λ told. (kept : List V) × (d ≡ with_list cmp c k kept)) → OnErr r (d ≡ c) → IsLawful cmp d
  lawful_kept c d k (Ok x) h done same = lawful_edit o c d k done.0 h done.1
  lawful_kept c d k (Err e) h done same = subst (λ x. IsLawful cmp x) (sym same) h
