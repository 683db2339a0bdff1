-- A `&` to a row is one to its `Slots`. Assumes `Logic`.
use Rattle.core.proofs.slots.Slots.TheLaws as slots
use Rattle.key_index_map.proofs.row.Row.TheLaw.Statement.{statement}
use Rattle.key_index_map.specs.contracts.row.Row.TheInside as C
use denote.Param.Laws.{Laws}
use denote.RattleType.{RattleType}
use denote.SharingLaws.{nothing_shr_laws}
use denote.Struct.Lending.{Lends-nothing, of_Lends}

pub shares : (R : RattleType) (L : Laws R) → statement R L
shares R L =
    of_Lends (C.struct R) (C.the_codes R.Denot R.coded) (C.the_heap R) (C.the_lent R) (λ d p. nothing_shr_laws)
    (slots.the_field_shared R L, tt) (λ M 𝓤 𝓛 d p. Lends-nothing 𝓛 (C.the_heap R d) (C.the_row R).lives)
