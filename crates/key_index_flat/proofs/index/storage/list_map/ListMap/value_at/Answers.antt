use Rattle.std.proofs.Common.{rules, ◌<◌, is_some, length, slice_get, ap, sym, ◌∙◌, arith, subst}
use Rattle.std.specs.Option.{option_copied}
use Rattle.key_index_flat.specs.Content.{list_at}
use Rattle.key_index_flat.specs.Storage.{content_of, tail_at}
use Rattle.key_index_flat.proofs.content.EditLemmas.{place_within_tail, value_first, value_in_tail, value_of-list_filled}
use Rattle.key_index_flat.proofs.index.storage.list_map.ListMap.value_at.Goals as goal

pub unwrap-requires : goal.unwrap-requires
unwrap-requires g c =
    let tail = tail_at g.E.End.FIRST g.T.Key.PartialEq.eq c.self.inside.tails.map in
    let place = subst (λ now. c.args.place < length (list_at g.T.Key.Ord.cmp now.content c.args.slot)) (sym c.self.view_is) c.requires in
    let n = value_of-list_filled g.met.T.Key.Ord.total g.met.T.Translator.exact (g.M.AnyMap.entries c.self.inside.heads) tail tail c.args.slot c.self.invariant (omega (arith, place)) in
    let some = ap (λ o. is_some o) (c.get.ensures ∙ n.1) in search rules

pub returns-then-place-eq0 : goal.returns-then-place-eq0
returns-then-place-eq0 g c =
    let tail = tail_at g.E.End.FIRST g.T.Key.PartialEq.eq c.self.inside.tails.map in
    rw (← c.self.view_is) (
    ap (λ place. slice_get (list_at g.T.Key.Ord.cmp (content_of g.T.Key.Ord.cmp (g.M.AnyMap.entries c.self.inside.heads) tail) c.args.slot) place) c.if-place-eq0.true
    ∙ value_first g.met.T.Key.Ord.total g.met.T.Translator.exact (g.M.AnyMap.entries c.self.inside.heads) tail tail c.args.slot c.self.invariant
    ∙ sym c.get.ensures ∙ ap (λ o. option_copied o) c.unwrap.ensures
    )

pub value_at-requires : goal.value_at-requires
value_at-requires g c =
    let tail = tail_at g.E.End.FIRST g.T.Key.PartialEq.eq c.self.inside.tails.map in
    let place = subst (λ now. c.args.place < length (list_at g.T.Key.Ord.cmp now.content c.args.slot)) (sym c.self.view_is) c.requires in
    let within = place_within_tail g.met.T.Key.Ord.total g.met.T.Translator.exact (g.M.AnyMap.entries c.self.inside.heads) tail tail c.args.slot c.self.invariant c.args.place c.if-place-eq0.false place in
    omega (arith, within)

pub returns : goal.returns
returns g c =
    let tail = tail_at g.E.End.FIRST g.T.Key.PartialEq.eq c.self.inside.tails.map in
    let place = subst (λ now. c.args.place < length (list_at g.T.Key.Ord.cmp now.content c.args.slot)) (sym c.self.view_is) c.requires in
    rw (← c.self.view_is) (
    value_in_tail g.met.T.Key.Ord.total g.met.T.Translator.exact (g.M.AnyMap.entries c.self.inside.heads) tail tail c.args.slot c.self.invariant c.args.place c.if-place-eq0.false place
    ∙ c.value_at.ensures
    )
