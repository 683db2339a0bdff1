use Rattle.std.proofs.Common.{ap, sym, ◌∙◌}
use Rattle.std.specs.Option.{option_map}
use Rattle.key_index_flat.specs.Storage.{tail_at}
use Rattle.key_index_flat.proofs.neighbours.NeighbourLemmas.{entry_of, below-in_order}
use Rattle.key_index_flat.proofs.index.storage.list_map.ListMap.below.Goals as goal

pub returns : goal.returns
returns g c =
    rw (← c.self.view_is) (
    let tail = tail_at g.E.End.FIRST g.T.Key.PartialEq.eq c.self.inside.tails.map in
    c.entry_of.ensures ∙ ap (option_map (entry_of tail)) c.below.ensures.entry
    ∙ sym (below-in_order g.T.Key.Ord.cmp (g.M.AnyMap.entries c.self.inside.heads) tail c.below.ensures.rises c.args.slot)
    )
