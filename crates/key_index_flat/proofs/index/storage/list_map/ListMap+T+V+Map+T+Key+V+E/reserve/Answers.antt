use Rattle.std.proofs.Common.{refl, sym, ap, ◌∙◌}
use Rattle.key_index_flat.specs.Storage.{content_of, tail_at}
use Rattle.key_index_flat.proofs.content.ChainLemmas.{StandsFor, StandsFor-unchanged}
use Rattle.key_index_flat.proofs.content.PairLemmas.{lookup-value_of}
use Rattle.key_index_flat.proofs.index.storage.list_map.ListMap+T+V+Map+T+Key+V+E.reserve.Given.{Over}
use Rattle.key_index_flat.proofs.index.storage.list_map.ListMap+T+V+Map+T+Key+V+E.reserve.Goals as goal
use Rattle.key_index_flat.proofs.index.storage.list_map.ListMap+T+V+Map+T+Key+V+E.reserve.Goals.{After-reserve}

stands : (g : Over) (c : After-reserve g)
    → StandsFor g.met.T.Key.Ord.total g.met.T.Translator.exact c.reserve.new.self.entries (tail_at g.E.End.FIRST g.T.Key.PartialEq.eq c.self.inside.tails.map)
    (content_of g.T.Key.Ord.cmp c.self.inside.heads.entries (tail_at g.E.End.FIRST g.T.Key.PartialEq.eq c.self.inside.tails.map))
stands g c =
    let as_value = lookup-value_of g.T.Key.PartialEq.eq g.T.Key.Ord.cmp g.met.T.Key.Ord.matches_eq in
    let tail = tail_at g.E.End.FIRST g.T.Key.PartialEq.eq c.self.inside.tails.map in
    StandsFor-unchanged g.met.T.Key.Ord.total g.met.T.Translator.exact c.self.inside.heads.entries c.reserve.new.self.entries tail tail c.self.invariant
    (λ q. sym (as_value c.reserve.new.self.entries q) ∙ c.reserve.ensures.values q ∙ as_value c.self.inside.heads.entries q) (λ q. refl) c.reserve.ensures.len

pub invariant_of-self : goal.invariant_of-self
invariant_of-self g c = (stands g (goal.at.invariant_of-self g c).After-reserve).linked

pub returns-clause-same : goal.returns-clause-same
returns-clause-same g c = (stands g (goal.at.returns-clause-same g c).After-reserve).content ∙ ap (λ v. v.content) c.self.view_is
