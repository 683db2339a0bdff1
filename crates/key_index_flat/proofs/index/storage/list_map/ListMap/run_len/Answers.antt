use Rattle.std.proofs.Common.{length, ap, sym, ◌∙◌, arith}
use Rattle.key_index_flat.specs.Storage.{list_of, tail_at}
use Rattle.key_index_flat.specs.laws.Laws.{IsLawful-content_of}
use Rattle.key_index_flat.proofs.content.ChainLemmas.{list_at-content_of}
use Rattle.key_index_flat.proofs.index.storage.list_map.ListMap.run_len.Goals as goal

pub returns-in-Some-clause-len : goal.returns-in-Some-clause-len
returns-in-Some-clause-len g c =
    let tail = tail_at g.E.End.FIRST g.T.Key.PartialEq.eq c.self.inside.tails.map in
    let list = list_at-content_of g.met.T.Key.Ord.total g.met.T.Translator.exact (g.M.AnyMap.entries c.self.inside.heads) tail c.args.slot ∙ ap (λ head. list_of head (tail c.args.slot)) (sym c.in-Some.ensures) in
    let long = ap (λ l. length l) list in
    rw (← c.self.view_is) (omega (arith, long, c.len.ensures.len))

pub returns-in-None-clause-len : goal.returns-in-None-clause-len
returns-in-None-clause-len g c =
    let tail = tail_at g.E.End.FIRST g.T.Key.PartialEq.eq c.self.inside.tails.map in
    rw (← c.self.view_is) (
    ap (λ head. length (list_of head (tail c.args.slot))) c.in-None.ensures
    ∙ ap (λ l. length l) (sym (list_at-content_of g.met.T.Key.Ord.total g.met.T.Translator.exact (g.M.AnyMap.entries c.self.inside.heads) tail c.args.slot))
    )

pub returns-in-Some-clause-lawful : goal.returns-in-Some-clause-lawful
returns-in-Some-clause-lawful g c =
    rw (← c.self.view_is) (IsLawful-content_of g.met.T.Key.Ord.total (g.M.AnyMap.entries c.self.inside.heads) (tail_at g.E.End.FIRST g.T.Key.PartialEq.eq c.self.inside.tails.map))

pub returns-in-None-clause-lawful : goal.returns-in-None-clause-lawful
returns-in-None-clause-lawful g c =
    rw (← c.self.view_is) (IsLawful-content_of g.met.T.Key.Ord.total (g.M.AnyMap.entries c.self.inside.heads) (tail_at g.E.End.FIRST g.T.Key.PartialEq.eq c.self.inside.tails.map))
