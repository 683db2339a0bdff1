-- The law of contents holds whatever entries there are.
use Rattle.std.specs.Prelude.{List, [], ◌∷◌}
use Rattle.std.specs.declared.cmp.Ordering.{Ordering}
use Rattle.std.specs.Cmp.{IsTotalOrder}
use Rattle.key_index_flat.specs.Content.{IsLawful}
use Rattle.key_index_flat.specs.laws.Laws.{IsLawful-with_list}
use Rattle.key_index_plain.specs.declared.entries.Entry.{Entry}
use Rattle.key_index_plain.specs.Entries.{content_of}

pub IsLawful-content_of : {K V : Type 0} {cmp : K → K → Ordering} (o : IsTotalOrder cmp) (entries : List (Entry K V))
    → IsLawful cmp (content_of cmp entries)
IsLawful-content_of o [] = (tt, tt)
IsLawful-content_of o (e ∷ es) = IsLawful-with_list o _ e.key e.values.items (IsLawful-content_of o es)
