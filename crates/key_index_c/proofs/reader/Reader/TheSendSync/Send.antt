use Rattle.key_index_c.proofs.Crosses.{Reader-send}
use Rattle.key_index_c.specs.contracts.reader.Reader.{the_row}
use denote.Param.Send.{IsSend}

pub send : IsSend the_row
send = Reader-send
