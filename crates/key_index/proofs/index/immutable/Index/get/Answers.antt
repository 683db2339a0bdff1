use Rattle.key_index.specs.Immutable.{mixed_hash}
use Rattle.key_index.proofs.positions.PositionLemmas.{candidates_within, positions_are}
use Rattle.key_index.proofs.index.immutable.Index.get.Goals as goal

pub invariant_of-result : goal.invariant_of-result
invariant_of-result g c =
    candidates_within (mixed_hash g.T.Translator.hashed) _ c.self.invariant c.transform-wanted.result c.candidates.result
    (rw c.hash_in_table.ensures at c.candidates.ensures.stored _ c.self.invariant.stored)

pub returns : goal.returns
returns g c =
    rw (← c.self.view_is) (positions_are (mixed_hash g.T.Translator.hashed) _ c.self.invariant c.transform-wanted.result c.candidates.result
    (rw c.hash_in_table.ensures at c.candidates.ensures.stored _ c.self.invariant.stored) g.T.Key.Ord.cmp g.met.T.Key.Ord.total g.met.T.Translator.exact _ c.transform-wanted.ensures)
