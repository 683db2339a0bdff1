-- The law of contents holds of what pairs stand for, whatever they are: IsLawful-grouped.
use Rattle.std.specs.Prelude.{List, [], ◌∷◌}
use Rattle.std.specs.Cmp.{IsTotalOrder}
use Rattle.std.specs.declared.cmp.Ordering.{Ordering}
use Rattle.key_index_flat.specs.Content.{IsLawful, list_at}
use Rattle.key_index_flat.specs.laws.Laws.{IsLawful-with_list}
use Rattle.key_index_parts.specs.Pairs.{grouped}

pub IsLawful-grouped : {K V : Type 0} {cmp : K → K → Ordering} → IsTotalOrder cmp → (es : List (K × V)) → IsLawful cmp (grouped cmp es)
IsLawful-grouped o [] = (tt, tt)
IsLawful-grouped {cmp = cmp} o (e ∷ es) = IsLawful-with_list o (grouped cmp es) e.0 (e.1 ∷ list_at cmp (grouped cmp es) e.0) (IsLawful-grouped o es)
