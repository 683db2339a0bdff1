use Rattle.key_index_map.proofs.Crosses.{Row-send}
use Rattle.key_index_map.specs.contracts.row.Row.{the_row}
use denote.Param.Send.{IsSend}
use denote.RattleType.{RattleType}

pub send : (R : RattleType) → IsSend R → IsSend (the_row R)
send = Row-send
