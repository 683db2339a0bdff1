-- What a `&mut` to the value in a cell leaves behind.
--     lends_cell    the cell's value is the last one written through r
--     lends_get     that of the key is, and at `None` the table stays as it is
use Rattle.std.specs.Prelude.{◌≡◌, ℕ, Option}
use Rattle.std.specs.Borrow.{Fml, RattleType, MutBor, Lends, LendsSo}
use Rattle.std.specs.BTreeMap.Lent.{OrdMembers}
use Rattle.std.specs.HashMap.Lent.{HashMembers}
use Rattle.std.specs.Option.{OnSome}
use Rattle.key_index_map.specs.Table.{Cells, Writes, pairs, with_value}
use Rattle.key_index_map.specs.contracts.table.Table.{the_row}

module _ (K V : RattleType) (ord : OrdMembers K.Denot) (hash : HashMembers K.Denot)
    (s : MutBor (Cells K.Denot V.Denot)) where
  abbrev table_row : RattleType
  table_row =
      the_row K V (record { cmp = ord.cmp }) (record { eq = ord.eq }) (record { partial_cmp = ord.partial_cmp })
      (record { hash_input = hash.hash_input })

  abbrev pub lends_cell : ℕ → MutBor V.Denot → Fml
  lends_cell cell r = Lends table_row V s r (λ w. with_value s.now cell w)

  abbrev pub lends_get : K.Denot → Option (MutBor V.Denot) → Fml
  lends_get k r =
      LendsSo table_row V s r (λ n w. OnSome r (Writes ord.eq (pairs s.now) (pairs n) k w) × (n.spare ≡ s.now.spare))
      (λ n. n ≡ s.now)
