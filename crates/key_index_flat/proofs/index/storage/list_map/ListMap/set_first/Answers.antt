use Rattle.std.proofs.Common.{◌≡◌, ◌<◌, ◌∷◌, ◌+◌, [], Some, IfNone, length, remove, cond, is_some, IsSome, refl, sym, ap, subst, ◌∙◌}
use Rattle.key_index_flat.specs.Storage.{content_of, list_of, tail_at, value_of}
use Rattle.key_index_flat.specs.Content.{list_at, with_list, with_list_by}
use Rattle.key_index_flat.proofs.content.ChainLemmas.{StandsFor}
use Rattle.key_index_flat.proofs.content.EditLemmas.{next_first, no_first, value_of-list_filled}
use Rattle.key_index_flat.proofs.index.storage.list_map.ListMap.set_first.Given.{Over}
use Rattle.key_index_flat.proofs.index.storage.list_map.ListMap.set_first.Goals.{After-self, After-drop-replace, Joined-remove}
use Rattle.key_index_flat.proofs.index.storage.list_map.ListMap.set_first.Goals as goal

chain_first : (g : Over) (c : After-self g) → (v : _) × (value_of g.T.Key.Ord.cmp (g.M.AnyMap.entries c.self.inside.heads) c.args.slot ≡ Some v)
chain_first g c =
    let tail = tail_at g.E.End.FIRST g.T.Key.PartialEq.eq c.self.inside.tails.map in
    value_of-list_filled g.met.T.Key.Ord.total g.met.T.Translator.exact (g.M.AnyMap.entries c.self.inside.heads) tail tail c.args.slot c.self.invariant
    (subst (λ now. 0 < length (list_at g.T.Key.Ord.cmp now.content c.args.slot)) (sym c.self.view_is) c.requires.held)

pub replace-requires : goal.replace-requires
replace-requires g c = subst (λ o. IsSome o) (sym (chain_first g (goal.at.replace-requires g c).After-self).1) refl

chain_replaced : (g : Over) (c : After-drop-replace g) →
    StandsFor g.met.T.Key.Ord.total g.met.T.Translator.exact (g.M.AnyMap.entries c.replace.new.self) (tail_at g.E.End.FIRST g.T.Key.PartialEq.eq c.self.inside.tails.map)
    (with_list_by g.T.Key.Ord.cmp (content_of g.T.Key.Ord.cmp (g.M.AnyMap.entries c.self.inside.heads) (tail_at g.E.End.FIRST g.T.Key.PartialEq.eq c.self.inside.tails.map)) c.args.slot (λ l. c.in-Some.next ∷ remove l 0))
chain_replaced g c =
    let tail = tail_at g.E.End.FIRST g.T.Key.PartialEq.eq c.self.inside.tails.map in
    let n = chain_first g (goal.at.invariant_of-self g c).After-self in
    next_first g.met.T.Key.Ord.total g.met.T.Translator.exact (g.M.AnyMap.entries c.self.inside.heads) tail tail c.args.slot c.self.invariant (g.M.AnyMap.entries c.replace.new.self)
    n.0 c.in-Some.next n.1 c.replace.ensures.sets c.replace.ensures.len (λ q. refl)

pub invariant_of-self : goal.invariant_of-self
invariant_of-self g c = (chain_replaced g c).linked

pub returns-in-Some : goal.returns-in-Some
returns-in-Some g c =
    let stands = chain_replaced g c in
    let held = (content_of g.T.Key.Ord.cmp (g.M.AnyMap.entries c.self.inside.heads) (tail_at g.E.End.FIRST g.T.Key.PartialEq.eq c.self.inside.tails.map)) in
    let goes = with_list_by g.T.Key.Ord.cmp held c.args.slot (λ l. list_of c.args.next (remove l 0)) in
    rw (← c.self.view_is) (stands.content ∙ ap (λ next. with_list_by g.T.Key.Ord.cmp held c.args.slot (λ l. list_of next (remove l 0))) (sym c.in-Some.is)
    ∙ ap (λ stays. cond stays held goes) (sym c.if-stays.false))

chain_removed : (g : Over) (c : Joined-remove g) →
    StandsFor g.met.T.Key.Ord.total g.met.T.Translator.exact (g.M.AnyMap.entries c.remove.new.self) (tail_at g.E.End.FIRST g.T.Key.PartialEq.eq c.self.inside.tails.map)
    (with_list g.T.Key.Ord.cmp (content_of g.T.Key.Ord.cmp (g.M.AnyMap.entries c.self.inside.heads) (tail_at g.E.End.FIRST g.T.Key.PartialEq.eq c.self.inside.tails.map)) c.args.slot [])
chain_removed g c =
    let tail = tail_at g.E.End.FIRST g.T.Key.PartialEq.eq c.self.inside.tails.map in
    let n = chain_first g (goal.at.invariant_of-self-2 g c).After-self in
    let alone = subst (λ now. length (list_at g.T.Key.Ord.cmp now.content c.args.slot) ≡ 1) (sym c.self.view_is)
    (subst (λ next. IfNone next (length (list_at g.T.Key.Ord.cmp c.args.self.now.content c.args.slot) ≡ 1)) c.in_default.is (c.requires.alone c.if-stays.false)) in
    no_first g.met.T.Key.Ord.total g.met.T.Translator.exact (g.M.AnyMap.entries c.self.inside.heads) tail tail c.args.slot c.self.invariant (g.M.AnyMap.entries c.remove.new.self)
    n.0 n.1 alone c.remove.ensures.sets
    (ap (λ o. length (g.M.AnyMap.entries c.remove.new.self) + cond (is_some o) 1 0) (sym c.remove.ensures.value) ∙ c.remove.ensures.len) (λ q. refl)

pub invariant_of-self-2 : goal.invariant_of-self-2
invariant_of-self-2 g c = (chain_removed g c).linked

pub returns : goal.returns
returns g c =
    let stands = chain_removed g c in
    let held = (content_of g.T.Key.Ord.cmp (g.M.AnyMap.entries c.self.inside.heads) (tail_at g.E.End.FIRST g.T.Key.PartialEq.eq c.self.inside.tails.map)) in
    let goes = with_list_by g.T.Key.Ord.cmp held c.args.slot (λ l. list_of c.args.next (remove l 0)) in
    rw (← c.self.view_is) (stands.content ∙ ap (λ next. with_list_by g.T.Key.Ord.cmp held c.args.slot (λ l. list_of next (remove l 0))) (sym c.in_default.is)
    ∙ ap (λ stays. cond stays held goes) (sym c.if-stays.false))
