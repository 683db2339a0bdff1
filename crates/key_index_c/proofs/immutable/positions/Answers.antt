use Rattle.key_index_c.proofs.PositionLemmas.{at_most}
use Rattle.key_index.specs.Immutable.{key_at}
use Rattle.key_index_c.proofs.immutable.positions.Goals as goal

pub copy-requires : goal.copy-requires
copy-requires g c =
    let s = c.args.index.now in
    at_most (key_at s) (g.T.Translator.translated s.translator c.args.key.now) c.get.result c.len.result c.get.ensures.once c.get.ensures.exact c.len.ensures
