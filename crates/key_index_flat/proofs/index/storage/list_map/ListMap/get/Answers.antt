use Rattle.std.proofs.Common.{ap, sym, ◌∙◌}
use Rattle.key_index_flat.specs.Storage.{list_of, tail_at}
use Rattle.key_index_flat.proofs.content.ChainLemmas.{list_at-content_of}
use Rattle.key_index_flat.proofs.index.storage.list_map.ListMap.get.Goals as goal

pub returns-in-Some : goal.returns-in-Some
returns-in-Some g c =
    let tail = tail_at g.E.End.FIRST g.T.Key.PartialEq.eq c.self.inside.tails.map in
    rw (← c.self.view_is) (
    c.list.ensures ∙ ap (λ head. list_of head (tail c.args.slot)) c.in-Some.ensures
    ∙ sym (list_at-content_of g.met.T.Key.Ord.total g.met.T.Translator.exact (g.M.AnyMap.entries c.self.inside.heads) tail c.args.slot)
    )

pub returns-in-None : goal.returns-in-None
returns-in-None g c =
    let tail = tail_at g.E.End.FIRST g.T.Key.PartialEq.eq c.self.inside.tails.map in
    rw (← c.self.view_is) (
    c.of_slice.ensures ∙ ap (λ head. list_of head (tail c.args.slot)) c.in-None.ensures
    ∙ sym (list_at-content_of g.met.T.Key.Ord.total g.met.T.Translator.exact (g.M.AnyMap.entries c.self.inside.heads) tail c.args.slot)
    )
