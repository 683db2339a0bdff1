use Rattle.std.proofs.Common.{◌≡◌, true, false, subst, arith}
use Rattle.std.specs.Option.{IsSome}
use Rattle.key_index_flat.proofs.content.PairLemmas.{none_found}
use Rattle.key_index_flat.proofs.index.storage.small_map.held_place_from.Goals as goal

pub unreachable-requires : goal.unreachable-requires
unreachable-requires g c =
    let none = none_found g.K.PartialEq.eq c.args.key.now c.args.pairs.now c.loop-held.held (omega arith) c.loop-held.invariant in
    let both : false ≡ true = subst IsSome none c.requires.held in
    cc
