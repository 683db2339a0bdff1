use Rattle.std.proofs.Common.{rules, ◌≡◌, ◌∷◌, ◌+◌, ◌-◌, ◌<◌, Some, length, remove, slice_get, cond, is_some, IfSome, IsSome, refl, sym, ap, ◌∙◌, arith, subst}
use Rattle.std.proofs.lemmas.List.Edits.{length-remove}
use Rattle.std.specs.Option.{option_map}
use Rattle.key_index_flat.specs.Storage.{content_of, tail_at, value_of}
use Rattle.key_index_flat.specs.Content.{list_at, with_list_by}
use Rattle.key_index_flat.proofs.content.ChainLemmas.{StandsFor}
use Rattle.key_index_flat.proofs.content.EditLemmas.{list-first_and_tail, place_within_tail, removed_in_tail, removed_some, value_in_tail, value_first, value_of-list_filled, first_removed, first_removed_of, empty_without_first, only_removed}
use Rattle.key_index_flat.proofs.index.storage.list_map.ListMap.remove_at.Given.{Over}
use Rattle.key_index_flat.proofs.index.storage.list_map.ListMap.remove_at.Goals.{After-self, After-replace, After-unwrap, After-unwrap-value}
use Rattle.key_index_flat.proofs.index.storage.list_map.ListMap.remove_at.Goals as goal

place_in_chain : (g : Over) (c : After-self g) → c.args.place < length (list_at g.T.Key.Ord.cmp (content_of g.T.Key.Ord.cmp (g.M.AnyMap.entries c.self.inside.heads) (tail_at g.E.End.FIRST g.T.Key.PartialEq.eq c.self.inside.tails.map)) c.args.slot)
place_in_chain g c = subst (λ now. c.args.place < length (list_at g.T.Key.Ord.cmp now.content c.args.slot)) (sym c.self.view_is) c.requires.place

place_behind_first : (g : Over) (c : After-self g) → ¬ (c.args.place ≡ 0) → c.args.place - 1 < length (tail_at g.E.End.FIRST g.T.Key.PartialEq.eq c.self.inside.tails.map c.args.slot)
place_behind_first g c behind = place_within_tail g.met.T.Key.Ord.total g.met.T.Translator.exact (g.M.AnyMap.entries c.self.inside.heads) (tail_at g.E.End.FIRST g.T.Key.PartialEq.eq c.self.inside.tails.map) (tail_at g.E.End.FIRST g.T.Key.PartialEq.eq c.self.inside.tails.map) c.args.slot c.self.invariant c.args.place behind (place_in_chain g c)

chain_first : (g : Over) (c : After-self g) → (v : _) × (value_of g.T.Key.Ord.cmp (g.M.AnyMap.entries c.self.inside.heads) c.args.slot ≡ Some v)
chain_first g c =
    let some = place_in_chain g c in
    value_of-list_filled g.met.T.Key.Ord.total g.met.T.Translator.exact (g.M.AnyMap.entries c.self.inside.heads) (tail_at g.E.End.FIRST g.T.Key.PartialEq.eq c.self.inside.tails.map) (tail_at g.E.End.FIRST g.T.Key.PartialEq.eq c.self.inside.tails.map) c.args.slot c.self.invariant (omega (arith, some))

pub unwrap-value-requires : goal.unwrap-value-requires
unwrap-value-requires g c =
    let some = removed_some c.remove_at.result (tail_at g.E.End.FIRST g.T.Key.PartialEq.eq c.self.inside.tails.map c.args.slot) _ c.remove_at.ensures.value (place_behind_first g (goal.at.unwrap-value-requires g c).After-self c.if-place-ne0.true) in
    search rules

chain_without_later : (g : Over) (c : After-unwrap-value g) →
    StandsFor g.met.T.Key.Ord.total g.met.T.Translator.exact (g.M.AnyMap.entries c.self.inside.heads) (tail_at g.E.End.FIRST g.T.Key.PartialEq.eq c.remove_at.new.self.map) (with_list_by g.T.Key.Ord.cmp (content_of g.T.Key.Ord.cmp (g.M.AnyMap.entries c.self.inside.heads) (tail_at g.E.End.FIRST g.T.Key.PartialEq.eq c.self.inside.tails.map)) c.args.slot (λ l. remove l c.args.place))
chain_without_later g c =
    removed_in_tail g.met.T.Key.Ord.total g.met.T.Translator.exact (g.M.AnyMap.entries c.self.inside.heads) (tail_at g.E.End.FIRST g.T.Key.PartialEq.eq c.self.inside.tails.map) (tail_at g.E.End.FIRST g.T.Key.PartialEq.eq c.remove_at.new.self.map) c.args.slot c.self.invariant c.args.place c.if-place-ne0.true
    (place_in_chain g (goal.at.invariant_of-self g c).After-self) c.remove_at.ensures.at c.remove_at.ensures.others

pub invariant_of-self : goal.invariant_of-self
invariant_of-self g c = (chain_without_later g c).linked

pub returns-then-place-ne0-clause-value : goal.returns-then-place-ne0-clause-value
returns-then-place-ne0-clause-value g c =
    let held = place_in_chain g (goal.at.returns-then-place-ne0-clause-value g c).After-self in
    rw (← c.self.view_is) (
    value_in_tail g.met.T.Key.Ord.total g.met.T.Translator.exact (g.M.AnyMap.entries c.self.inside.heads) (tail_at g.E.End.FIRST g.T.Key.PartialEq.eq c.self.inside.tails.map) (tail_at g.E.End.FIRST g.T.Key.PartialEq.eq c.self.inside.tails.map) c.args.slot c.self.invariant c.args.place c.if-place-ne0.true held
    ∙ sym c.remove_at.ensures.value ∙ ap (option_map (λ removed. removed.0)) c.unwrap-value.ensures
    )

pub returns-then-place-ne0-clause-content : goal.returns-then-place-ne0-clause-content
returns-then-place-ne0-clause-content g c = let stands = chain_without_later g c in rw (← c.self.view_is) stands.content

pub returns-then-place-ne0-clause-left : goal.returns-then-place-ne0-clause-left
returns-then-place-ne0-clause-left g c =
    let at = (goal.at.returns-then-place-ne0-clause-left g c).After-self in
    let tail = tail_at g.E.End.FIRST g.T.Key.PartialEq.eq c.self.inside.tails.map in
    let n = chain_first g at in
    let inside = place_behind_first g at c.if-place-ne0.true in
    let left = subst (λ r. IfSome r (λ removed. removed.1 ≡ length (tail_at g.E.End.FIRST g.T.Key.PartialEq.eq c.remove_at.new.self.map c.args.slot))) c.unwrap-value.ensures c.remove_at.ensures.left in
    let less = ap (λ l. length l) c.remove_at.ensures.at in
    let one = length-remove (tail c.args.slot) _ inside in
    let long = ap (λ l. length l) (list-first_and_tail g.met.T.Key.Ord.total g.met.T.Translator.exact (g.M.AnyMap.entries c.self.inside.heads) tail tail c.args.slot c.self.invariant n.0 n.1) in
    rw (← c.self.view_is) (omega (arith, left, less, one, long, inside))

pub unwrap-requires : goal.unwrap-requires
unwrap-requires g c = let some = ap (λ o. is_some o) (c.remove.ensures.value ∙ (chain_first g (goal.at.unwrap-requires g c).After-self).1) in search rules

chain_emptied : (g : Over) (c : After-unwrap g) →
    StandsFor g.met.T.Key.Ord.total g.met.T.Translator.exact (g.M.AnyMap.entries c.remove.new.self) (tail_at g.E.End.FIRST g.T.Key.PartialEq.eq c.remove_at-2.new.self.map) (with_list_by g.T.Key.Ord.cmp (content_of g.T.Key.Ord.cmp (g.M.AnyMap.entries c.self.inside.heads) (tail_at g.E.End.FIRST g.T.Key.PartialEq.eq c.self.inside.tails.map)) c.args.slot (λ l. remove l c.args.place))
chain_emptied g c =
    let n = chain_first g (goal.at.invariant_of-self-in_default g c).After-self in
    only_removed g.met.T.Key.Ord.total g.met.T.Translator.exact (g.M.AnyMap.entries c.self.inside.heads) (tail_at g.E.End.FIRST g.T.Key.PartialEq.eq c.self.inside.tails.map) (tail_at g.E.End.FIRST g.T.Key.PartialEq.eq c.remove_at-2.new.self.map) c.args.slot c.self.invariant (g.M.AnyMap.entries c.remove.new.self) c.args.place n.0 c.if-place-ne0.false n.1 c.remove.ensures.sets
    (ap (λ o. length (g.M.AnyMap.entries c.remove.new.self) + cond (is_some o) 1 0) (sym c.remove.ensures.value) ∙ c.remove.ensures.len) (sym c.in_default.ensures.value) c.remove_at-2.ensures.at c.remove_at-2.ensures.others

pub invariant_of-self-in_default : goal.invariant_of-self-in_default
invariant_of-self-in_default g c = (chain_emptied g c).linked

value_in_front : (g : Over) (c : After-self g) → c.args.place ≡ 0 → slice_get (list_at g.T.Key.Ord.cmp (content_of g.T.Key.Ord.cmp (g.M.AnyMap.entries c.self.inside.heads) (tail_at g.E.End.FIRST g.T.Key.PartialEq.eq c.self.inside.tails.map)) c.args.slot) c.args.place ≡ value_of g.T.Key.Ord.cmp (g.M.AnyMap.entries c.self.inside.heads) c.args.slot
value_in_front g c start = ap (λ place. slice_get (list_at g.T.Key.Ord.cmp (content_of g.T.Key.Ord.cmp (g.M.AnyMap.entries c.self.inside.heads) (tail_at g.E.End.FIRST g.T.Key.PartialEq.eq c.self.inside.tails.map)) c.args.slot) place) start ∙ value_first g.met.T.Key.Ord.total g.met.T.Translator.exact (g.M.AnyMap.entries c.self.inside.heads) (tail_at g.E.End.FIRST g.T.Key.PartialEq.eq c.self.inside.tails.map) (tail_at g.E.End.FIRST g.T.Key.PartialEq.eq c.self.inside.tails.map) c.args.slot c.self.invariant

pub returns-in_default-clause-value : goal.returns-in_default-clause-value
returns-in_default-clause-value g c =
    let value = value_in_front g (goal.at.returns-in_default-clause-value g c).After-self c.if-place-ne0.false in
    rw (← c.self.view_is) (value ∙ sym c.remove.ensures.value ∙ c.unwrap.ensures)

pub returns-in_default-clause-content : goal.returns-in_default-clause-content
returns-in_default-clause-content g c = let stands = chain_emptied g c in rw (← c.self.view_is) stands.content

pub returns-in_default-clause-left : goal.returns-in_default-clause-left
returns-in_default-clause-left g c =
    let tail = tail_at g.E.End.FIRST g.T.Key.PartialEq.eq c.self.inside.tails.map in
    let n = chain_first g (goal.at.returns-in_default-clause-left g c).After-self in
    let none = empty_without_first (tail c.args.slot) (sym c.in_default.ensures.value) in
    let long = ap (λ l. length l) (list-first_and_tail g.met.T.Key.Ord.total g.met.T.Translator.exact (g.M.AnyMap.entries c.self.inside.heads) tail tail c.args.slot c.self.invariant n.0 n.1 ∙ ap (λ l. n.0 ∷ l) none) in
    rw (← c.self.view_is) (omega (arith, long))

pub replace-requires : goal.replace-requires
replace-requires g c = subst (λ o. IsSome o) (sym (chain_first g (goal.at.replace-requires g c).After-self).1) refl

chain_moved_up : (g : Over) (c : After-replace g) →
    StandsFor g.met.T.Key.Ord.total g.met.T.Translator.exact (g.M.AnyMap.entries c.replace.new.self) (tail_at g.E.End.FIRST g.T.Key.PartialEq.eq c.remove_at-2.new.self.map) (with_list_by g.T.Key.Ord.cmp (content_of g.T.Key.Ord.cmp (g.M.AnyMap.entries c.self.inside.heads) (tail_at g.E.End.FIRST g.T.Key.PartialEq.eq c.self.inside.tails.map)) c.args.slot (λ l. remove l c.args.place))
chain_moved_up g c =
    let n = chain_first g (goal.at.invariant_of-self-2 g c).After-self in
    first_removed g.met.T.Key.Ord.total g.met.T.Translator.exact (g.M.AnyMap.entries c.self.inside.heads) (tail_at g.E.End.FIRST g.T.Key.PartialEq.eq c.self.inside.tails.map) (tail_at g.E.End.FIRST g.T.Key.PartialEq.eq c.remove_at-2.new.self.map) c.args.slot c.self.invariant (g.M.AnyMap.entries c.replace.new.self) c.args.place n.0 c.in-Some.next c.if-place-ne0.false n.1
    c.replace.ensures.sets c.replace.ensures.len (sym c.in-Some.ensures.value) c.remove_at-2.ensures.at c.remove_at-2.ensures.others

pub invariant_of-self-2 : goal.invariant_of-self-2
invariant_of-self-2 g c = (chain_moved_up g c).linked

pub returns-clause-value : goal.returns-clause-value
returns-clause-value g c =
    let value = value_in_front g (goal.at.returns-clause-value g c).After-self c.if-place-ne0.false in
    rw (← c.self.view_is) (value ∙ c.replace.ensures.old)

pub returns-clause-content : goal.returns-clause-content
returns-clause-content g c = let stands = chain_moved_up g c in rw (← c.self.view_is) stands.content

pub returns-clause-left : goal.returns-clause-left
returns-clause-left g c =
    let tail = tail_at g.E.End.FIRST g.T.Key.PartialEq.eq c.self.inside.tails.map in
    let n = chain_first g (goal.at.returns-clause-left g c).After-self in
    let one = ap (λ l. length l) (first_removed_of (tail c.args.slot) c.in-Some.next (sym c.in-Some.ensures.value)) in
    let less = ap (λ l. length l) c.remove_at-2.ensures.at in
    let long = ap (λ l. length l) (list-first_and_tail g.met.T.Key.Ord.total g.met.T.Translator.exact (g.M.AnyMap.entries c.self.inside.heads) tail tail c.args.slot c.self.invariant n.0 n.1) in
    rw (← c.self.view_is) (omega (arith, one, less, long, c.in-Some.ensures.left))
