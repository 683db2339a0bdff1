use Rattle.key_index.specs.Immutable.{key_at}
use Rattle.key_index.proofs.positions.PositionLemmas.{HasSize-zero}
use Rattle.key_index.proofs.index.immutable.Index.is_empty.Goals as goal

pub returns : goal.returns
returns g c = HasSize-zero (key_at c.args.self.now) c.len.result c.len.ensures
