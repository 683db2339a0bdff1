use Rattle.key_index_c.proofs.Crosses.{Handle-send}
use Rattle.key_index_c.specs.contracts.handle.Handle.{the_row}
use denote.Param.Send.{IsSend}

pub send : IsSend the_row
send = Handle-send
