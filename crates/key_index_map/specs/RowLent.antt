-- What a `&mut` into a row leaves behind.
--     lends_slots    the row is the last `Slots` written through r
--     lends_item     its place has the last value written through r
use Rattle.std.specs.Prelude.{ℕ}
use Rattle.std.specs.Borrow.{Fml, RattleType, MutBor, Lends}
use Rattle.core.specs.Mem.Slots.{slots_with}
use Rattle.core.specs.contracts.slots.Slots as slots
use Rattle.core.specs.declared.slots.Slots.{Slots}
use Rattle.key_index_map.specs.contracts.row.Row.{the_row}

module _ (R : RattleType) (s : MutBor (Slots R.Denot)) where
  abbrev pub lends_slots : MutBor (Slots R.Denot) → Fml
  lends_slots r = Lends (the_row R) (slots.the_row R) s r (λ w. w)

  abbrev pub lends_item : ℕ → MutBor R.Denot → Fml
  lends_item i r = Lends (the_row R) R s r (λ w. slots_with s.now i w)
