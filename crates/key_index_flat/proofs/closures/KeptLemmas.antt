-- What an edit leaves of the count of values.
--     lawful_edit          a content made by another list at a key is lawful
--     IsCounted-with_list  and it is counted by so many more or fewer
--     within_count         no list is longer than all of them
use Rattle.std.proofs.Common.{◌≡◌, ℕ, ◌+◌, ◌≤◌, [], List, length, ap, sym, subst, arith}
use Rattle.std.specs.declared.cmp.Ordering.{Ordering}
use Rattle.std.specs.Cmp.{IsTotalOrder}
use Rattle.key_index_flat.specs.Content.{Content, IsLawful, item_count, list_at, with_list}
use Rattle.key_index_flat.specs.Storage.{IsCounted}
use Rattle.key_index_flat.specs.laws.Laws.{IsLawful-with_list}
use Rattle.key_index_flat.proofs.content.ContentLemmas.{item_count-with_list}

module _ {K V : Type 0} {cmp : K → K → Ordering} (o : IsTotalOrder cmp) where
  pub lawful_edit : (c d : Content K V) (k : K) (l : List V) → IsLawful cmp c → d ≡ with_list cmp c k l → IsLawful cmp d
  lawful_edit c d k l h e = subst (λ x. IsLawful cmp x) (sym e) (IsLawful-with_list o c k l h)

  pub IsCounted-with_list : (c d : Content K V) (k : K) (l : List V) (items new : ℕ) → IsCounted cmp c items → d ≡ with_list cmp c k l → new + length (list_at cmp c k) ≡ items + length l → IsCounted cmp d new
  IsCounted-with_list c d k l items new h e count =
      let counts = item_count-with_list o c k l h.lawful in
      let was = h.counted in
      record { lawful = lawful_edit c d k l h.lawful e; counted = omega (arith, counts, was, count, ap (λ x. item_count x) e) }

  pub within_count : (c : Content K V) (k : K) (items : ℕ) → IsCounted cmp c items → length (list_at cmp c k) ≤ items
  within_count c k items h = let counts = item_count-with_list o c k [] h.lawful in let was = h.counted in omega (arith, counts, was)
