use Rattle.core.specs.declared.alloc.Allocator.{Ghosts}
use Rattle.key_index_map.proofs.Crosses.{Deed-sync}
use Rattle.key_index_map.specs.contracts.room.Deed.{the_row}
use denote.Param.Send.{Frees, IsSend, IsSync}
use denote.RattleType.{RattleType}

pub sync : (R A : RattleType) (g : Ghosts A.Denot) → IsSend A → Frees g g.dealloc_token → IsSync (the_row R A g)
sync R A g s f = Deed-sync R A g f
