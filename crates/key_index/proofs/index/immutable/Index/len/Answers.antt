use Rattle.key_index.specs.Immutable.{mixed_hash}
use Rattle.key_index.proofs.positions.PositionLemmas.{key_size}
use Rattle.key_index.proofs.index.immutable.Index.len.Goals as goal

pub returns : goal.returns
returns g c =
    rw (← c.self.view_is) (key_size (mixed_hash g.T.Translator.hashed) (record { translator = c.self.inside.translator; start = c.self.inside.start; keys = c.self.inside.keys.items; cells = c.self.inside.table; pruned = c.self.inside.pruned })
    c.len.result (c.len.ensures.size _ c.self.invariant.stored))
