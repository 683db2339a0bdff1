-- What a `&mut` to the value of a key leaves behind.
--     lends_get     the key k has the last value that was written through r, and at `None` the pairs stay as they are
use Rattle.std.specs.Prelude.{◌≡◌, Option}
use Rattle.std.specs.Borrow.{Fml, RattleType, MutBor, LendsSo}
use Rattle.std.specs.BTreeMap.Lent.{OrdMembers}
use Rattle.std.specs.HashMap.Lent.{HashMembers}
use Rattle.std.specs.Option.{OnSome}
use Rattle.key_index_map.specs.Table.{Entries, Writes}
use Rattle.key_index_map.specs.contracts.map.Map.{the_row}

module _ (K V : RattleType) (ord : OrdMembers K.Denot) (hash : HashMembers K.Denot)
    (s : MutBor (Entries K.Denot V.Denot)) where
  abbrev map_row : RattleType
  map_row =
      the_row K V (record { cmp = ord.cmp }) (record { eq = ord.eq }) (record { partial_cmp = ord.partial_cmp })
      (record { hash_input = hash.hash_input })

  abbrev pub lends_get : K.Denot → Option (MutBor V.Denot) → Fml
  lends_get k r =
      LendsSo map_row V s r (λ n w. OnSome r (Writes ord.eq s.now.entries n.entries k w) × (n.spare ≡ s.now.spare))
      (λ n. n ≡ s.now)
