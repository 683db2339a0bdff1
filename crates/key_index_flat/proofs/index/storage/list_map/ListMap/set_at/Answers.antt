use Rattle.std.proofs.Common.{◌≡◌, ◌<◌, Some, length, slice_set, IsSome, refl, sym, subst, arith}
use Rattle.key_index_flat.specs.Storage.{content_of, tail_at, value_of}
use Rattle.key_index_flat.specs.Content.{list_at, with_list_by}
use Rattle.key_index_flat.proofs.content.ChainLemmas.{StandsFor}
use Rattle.key_index_flat.proofs.content.EditLemmas.{place_within_tail, set_in_tail, value_of-list_filled, first_set}
use Rattle.key_index_flat.proofs.index.storage.list_map.ListMap.set_at.Given.{Over}
use Rattle.key_index_flat.proofs.index.storage.list_map.ListMap.set_at.Goals.{After-self, After-drop-replace, After-set_at}
use Rattle.key_index_flat.proofs.index.storage.list_map.ListMap.set_at.Goals as goal

place_in_chain : (g : Over) (c : After-self g) → c.args.place < length (list_at g.T.Key.Ord.cmp (content_of g.T.Key.Ord.cmp (g.M.AnyMap.entries c.self.inside.heads) (tail_at g.E.End.FIRST g.T.Key.PartialEq.eq c.self.inside.tails.map)) c.args.slot)
place_in_chain g c = subst (λ now. c.args.place < length (list_at g.T.Key.Ord.cmp now.content c.args.slot)) (sym c.self.view_is) c.requires.place

chain_first : (g : Over) (c : After-self g) → (v : _) × (value_of g.T.Key.Ord.cmp (g.M.AnyMap.entries c.self.inside.heads) c.args.slot ≡ Some v)
chain_first g c =
    let some = place_in_chain g c in
    value_of-list_filled g.met.T.Key.Ord.total g.met.T.Translator.exact (g.M.AnyMap.entries c.self.inside.heads) (tail_at g.E.End.FIRST g.T.Key.PartialEq.eq c.self.inside.tails.map) (tail_at g.E.End.FIRST g.T.Key.PartialEq.eq c.self.inside.tails.map) c.args.slot c.self.invariant (omega (arith, some))

pub set_at-requires : goal.set_at-requires
set_at-requires g c =
    let held = place_in_chain g (goal.at.set_at-requires g c).After-self in
    let within = place_within_tail g.met.T.Key.Ord.total g.met.T.Translator.exact (g.M.AnyMap.entries c.self.inside.heads) (tail_at g.E.End.FIRST g.T.Key.PartialEq.eq c.self.inside.tails.map) (tail_at g.E.End.FIRST g.T.Key.PartialEq.eq c.self.inside.tails.map) c.args.slot c.self.invariant c.args.place c.if-place-ne0.true held in
    omega (arith, within)

chain_with_later : (g : Over) (c : After-set_at g) →
    StandsFor g.met.T.Key.Ord.total g.met.T.Translator.exact (g.M.AnyMap.entries c.self.inside.heads) (tail_at g.E.End.FIRST g.T.Key.PartialEq.eq c.set_at.new.self.map) (with_list_by g.T.Key.Ord.cmp (content_of g.T.Key.Ord.cmp (g.M.AnyMap.entries c.self.inside.heads) (tail_at g.E.End.FIRST g.T.Key.PartialEq.eq c.self.inside.tails.map)) c.args.slot (λ l. slice_set l c.args.place c.args.value))
chain_with_later g c =
    set_in_tail g.met.T.Key.Ord.total g.met.T.Translator.exact (g.M.AnyMap.entries c.self.inside.heads) (tail_at g.E.End.FIRST g.T.Key.PartialEq.eq c.self.inside.tails.map) (tail_at g.E.End.FIRST g.T.Key.PartialEq.eq c.set_at.new.self.map) c.args.slot c.self.invariant c.args.place c.args.value c.if-place-ne0.true
    (place_in_chain g (goal.at.invariant_of-self g c).After-self) c.set_at.ensures.at c.set_at.ensures.others

pub invariant_of-self : goal.invariant_of-self
invariant_of-self g c = (chain_with_later g c).linked

pub returns-then-place-ne0 : goal.returns-then-place-ne0
returns-then-place-ne0 g c = let stands = chain_with_later g c in rw (← c.self.view_is) (record { content = stands.content })

pub replace-requires : goal.replace-requires
replace-requires g c = subst (λ o. IsSome o) (sym (chain_first g (goal.at.replace-requires g c).After-self).1) refl

chain_with_first : (g : Over) (c : After-drop-replace g) →
    StandsFor g.met.T.Key.Ord.total g.met.T.Translator.exact (g.M.AnyMap.entries c.replace.new.self) (tail_at g.E.End.FIRST g.T.Key.PartialEq.eq c.self.inside.tails.map) (with_list_by g.T.Key.Ord.cmp (content_of g.T.Key.Ord.cmp (g.M.AnyMap.entries c.self.inside.heads) (tail_at g.E.End.FIRST g.T.Key.PartialEq.eq c.self.inside.tails.map)) c.args.slot (λ l. slice_set l c.args.place c.args.value))
chain_with_first g c =
    let n = chain_first g (goal.at.invariant_of-self-2 g c).After-self in
    first_set g.met.T.Key.Ord.total g.met.T.Translator.exact (g.M.AnyMap.entries c.self.inside.heads) (tail_at g.E.End.FIRST g.T.Key.PartialEq.eq c.self.inside.tails.map) (tail_at g.E.End.FIRST g.T.Key.PartialEq.eq c.self.inside.tails.map) c.args.slot c.self.invariant (g.M.AnyMap.entries c.replace.new.self) c.args.place n.0 c.args.value c.if-place-ne0.false n.1 c.replace.ensures.sets c.replace.ensures.len (λ q. refl)

pub invariant_of-self-2 : goal.invariant_of-self-2
invariant_of-self-2 g c = (chain_with_first g c).linked

pub returns : goal.returns
returns g c = let stands = chain_with_first g c in rw (← c.self.view_is) (record { content = stands.content })
