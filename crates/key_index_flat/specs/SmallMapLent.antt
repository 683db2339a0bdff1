-- What a `&mut` to a value of the pairs in an array leaves behind.
--     lends_value    the first key that passes the test has the last value written through r
use Rattle.std.specs.Prelude.{Bool, List}
use Rattle.std.specs.Borrow.{Fml, RattleType, MutBor, Lends}
use Rattle.std.specs.BTreeMap.Lent.{OrdMembers}
use Rattle.std.specs.HashMap.Lent.{HashMembers}
use Rattle.std.specs.Map.{set_value}
use Rattle.key_index_flat.specs.contracts.index.storage.small_map.Pairs.{the_row}

module _ (K V : RattleType) (ord : OrdMembers K.Denot) (hash : HashMembers K.Denot)
    (s : MutBor (List (K.Denot × V.Denot))) where
  abbrev pairs_row : RattleType
  pairs_row =
      the_row K V (record { cmp = ord.cmp }) (record { eq = ord.eq }) (record { partial_cmp = ord.partial_cmp })
      (record { hash_input = hash.hash_input })

  abbrev pub lends_value : (K.Denot → Bool) → MutBor V.Denot → Fml
  lends_value test r = Lends pairs_row V s r (set_value test s.now)
