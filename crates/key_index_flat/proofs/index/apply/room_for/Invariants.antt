use Rattle.std.proofs.Common.{take}
use Rattle.key_index_flat.specs.Run.{HaveRoom}
use Rattle.key_index_flat.proofs.index.apply.room_for.Given as goal

abbrev pub invariant-commands : goal.invariant-commands
invariant-commands g l = HaveRoom (take l.command-index l.commands) l.outcomes.items
