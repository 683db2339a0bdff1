use Rattle.std.proofs.Common.{ap, sym}
use Rattle.key_index_store.specs.Salvage.{is_listed}
use Rattle.key_index_store.proofs.salvage.is_listed.Goals as goal

pub loop-position-init : goal.loop-position-init
loop-position-init c = ap (is_listed c.args.place) (sym c.into_iter-position-iterator.ensures.into_iter_gives)
