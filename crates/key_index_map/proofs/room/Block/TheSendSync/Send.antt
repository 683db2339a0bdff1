use Rattle.core.specs.declared.alloc.Allocator.{Ghosts}
use Rattle.key_index_map.proofs.Crosses.{Block-send}
use Rattle.key_index_map.specs.contracts.room.Block.{the_row}
use denote.Param.Send.{Frees, IsSend}
use denote.RattleType.{RattleType}

pub send : (R A : RattleType) (g : Ghosts A.Denot) → IsSend A → Frees g g.dealloc_token → IsSend (the_row R A g)
send R A g s f = Block-send R A g f
