-- The law of contents holds whatever is put in: the proofs that an index gives of it.
--     IsLawful-with_list      a lawful content stays so with any list at any key
use Rattle.std.specs.Prelude.{Bool, true, false, cond, ◌&&◌, T, List, [], ◌∷◌}
use Rattle.std.specs.declared.cmp.Ordering.{Ordering}
use Rattle.std.specs.declared.cmp.Ordering.TheVariants.{Less, Equal, Greater}
use Rattle.std.specs.Cmp.{IsTotalOrder}
use Rattle.std.specs.FinMap.{put}
use Rattle.std.specs.FinMap.Entries.{by_order, where_key, is_sorted-put, is_sorted-where_key}
use Rattle.key_index_flat.specs.Content.{Content, is_filled, all_filled, with_list, IsLawful}
use Rattle.key_index_flat.specs.Storage.{content_of}

pub T-and : (a b : Bool) → T a → T b → T (a && b)
T-and true b p q = q
T-and false b p q = p

pub T-and_first : (a b : Bool) → T (a && b) → T a
T-and_first true b p = tt
T-and_first false b p = p

pub T-and_second : (a b : Bool) → T (a && b) → T b
T-and_second true b p = p
T-and_second false b p = absurd p

module _ {K V : Type 0} {cmp : K → K → Ordering} (o : IsTotalOrder cmp) where
  all_filled-put : (k : K) (v : V) (vs : List V) (c : Content K V) → T (all_filled c) → T (all_filled (put cmp k (v ∷ vs) c))
  all_filled-put k v vs [] h = tt
  all_filled-put k v vs (e ∷ es) h =
      elim (cmp k e.0) as (λ r. T (all_filled (by_order r ((k, v ∷ vs) ∷ e ∷ es) ((e.0, v ∷ vs) ∷ es) (e ∷ put cmp k (v ∷ vs) es)))) [
        | Less ↦ h
        | Equal ↦ T-and_second (is_filled e.1) _ h
        | Greater ↦ T-and (is_filled e.1) _ (T-and_first (is_filled e.1) _ h) (all_filled-put k v vs es (T-and_second (is_filled e.1) _ h))
      ]

  pub all_filled-where_key : (p : K → Bool) (c : Content K V) → T (all_filled c) → T (all_filled (where_key cmp p c))
  all_filled-where_key p [] h = tt
  all_filled-where_key p (e ∷ es) h =
      let rest = all_filled-where_key p es (T-and_second (is_filled e.1) _ h) in
      elim (p e.0) as (λ b. T (all_filled (cond b (e ∷ where_key cmp p es) (where_key cmp p es)))) [
        | true ↦ T-and (is_filled e.1) _ (T-and_first (is_filled e.1) _ h) rest
        | false ↦ rest
      ]

  pub IsLawful-with_list : (c : Content K V) (k : K) (l : List V) → IsLawful cmp c → IsLawful cmp (with_list cmp c k l)
  IsLawful-with_list c k [] h = (is_sorted-where_key cmp _ c h.0, all_filled-where_key _ c h.1)
  IsLawful-with_list c k (v ∷ vs) h = (is_sorted-put cmp o k (v ∷ vs) c h.0, all_filled-put k v vs c h.1)

  pub IsLawful-content_of : (heads : List (K × V)) (tail : K → List V) → IsLawful cmp (content_of cmp heads tail)
  IsLawful-content_of [] tail = (tt, tt)
  IsLawful-content_of (e ∷ es) tail = IsLawful-with_list (content_of cmp es tail) e.0 (e.1 ∷ tail e.0) (IsLawful-content_of es tail)
