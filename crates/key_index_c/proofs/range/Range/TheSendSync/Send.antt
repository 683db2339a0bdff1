use Rattle.key_index_c.proofs.Crosses.{Range-send}
use Rattle.key_index_c.specs.contracts.range.Range.{the_row}
use denote.Param.Send.{IsSend}

pub send : IsSend the_row
send = Range-send
