use Rattle.key_index_map.proofs.Crosses.{Row-sync}
use Rattle.key_index_map.specs.contracts.row.Row.{the_row}
use denote.Param.Send.{IsSync}
use denote.RattleType.{RattleType}

pub sync : (R : RattleType) → IsSync R → IsSync (the_row R)
sync = Row-sync
