use Rattle.std.proofs.Common.{◌+◌, length, cond, is_some, refl, ap, sym, ◌∙◌, [], arith}
use Rattle.key_index_flat.specs.Storage.{list_of, tail_at}
use Rattle.key_index_flat.proofs.content.ChainLemmas.{StandsFor-taken_out, nothing_taken, list_at-content_of, None-is_some, length-list_of_some}
use Rattle.key_index_flat.proofs.content.InOrderLemmas.{length-in_order}
use Rattle.key_index_flat.proofs.index.storage.list_map.ListMap.remove.Goals as goal

pub invariant_of-self : goal.invariant_of-self
invariant_of-self g c =
    (nothing_taken g.met.T.Key.Ord.total g.met.T.Translator.exact (g.M.AnyMap.entries c.self.inside.heads) (g.M.AnyMap.entries c.remove.new.self) (tail_at g.E.End.FIRST g.T.Key.PartialEq.eq c.self.inside.tails.map) (tail_at g.E.End.FIRST g.T.Key.PartialEq.eq c.self.inside.tails.map) c.args.slot c.self.invariant c.remove.ensures.sets (ap (λ o. length (g.M.AnyMap.entries c.remove.new.self) + cond (is_some o) 1 0) (sym c.remove.ensures.value) ∙ c.remove.ensures.len) (sym c.remove.ensures.value ∙ None-is_some _ c.if-is_none.ensures) (λ q. refl)).linked

pub returns-then-is_none-clause-content : goal.returns-then-is_none-clause-content
returns-then-is_none-clause-content g c =
    rw (← c.self.view_is) (
    (nothing_taken g.met.T.Key.Ord.total g.met.T.Translator.exact (g.M.AnyMap.entries c.self.inside.heads) (g.M.AnyMap.entries c.remove.new.self) (tail_at g.E.End.FIRST g.T.Key.PartialEq.eq c.self.inside.tails.map) (tail_at g.E.End.FIRST g.T.Key.PartialEq.eq c.self.inside.tails.map) c.args.slot c.self.invariant c.remove.ensures.sets (ap (λ o. length (g.M.AnyMap.entries c.remove.new.self) + cond (is_some o) 1 0) (sym c.remove.ensures.value) ∙ c.remove.ensures.len) (sym c.remove.ensures.value ∙ None-is_some _ c.if-is_none.ensures) (λ q. refl)).content
    )

pub returns-then-is_none-clause-taken : goal.returns-then-is_none-clause-taken
returns-then-is_none-clause-taken g c =
    rw (← c.self.view_is) (
    ap (λ head. length (list_of head (tail_at g.E.End.FIRST g.T.Key.PartialEq.eq c.self.inside.tails.map c.args.slot))) (sym (None-is_some c.remove.result c.if-is_none.ensures) ∙ c.remove.ensures.value)
    ∙ ap (λ l. length l) (sym (list_at-content_of g.met.T.Key.Ord.total g.met.T.Translator.exact (g.M.AnyMap.entries c.self.inside.heads) (tail_at g.E.End.FIRST g.T.Key.PartialEq.eq c.self.inside.tails.map) c.args.slot))
    )

pub invariant_of-self-in_default : goal.invariant_of-self-in_default
invariant_of-self-in_default g c =
    (StandsFor-taken_out g.met.T.Key.Ord.total g.met.T.Translator.exact (g.M.AnyMap.entries c.self.inside.heads) (g.M.AnyMap.entries c.remove.new.self) (tail_at g.E.End.FIRST g.T.Key.PartialEq.eq c.self.inside.tails.map) (tail_at g.E.End.FIRST g.T.Key.PartialEq.eq c.take.new.self.map) c.args.slot c.self.invariant c.remove.ensures.sets
    (ap (λ o. length (g.M.AnyMap.entries c.remove.new.self) + cond (is_some o) 1 0) (sym c.remove.ensures.value) ∙ c.remove.ensures.len) c.take.ensures.at c.take.ensures.others).linked

pub returns-in_default-clause-content : goal.returns-in_default-clause-content
returns-in_default-clause-content g c =
    rw (← c.self.view_is) (
    (StandsFor-taken_out g.met.T.Key.Ord.total g.met.T.Translator.exact (g.M.AnyMap.entries c.self.inside.heads) (g.M.AnyMap.entries c.remove.new.self) (tail_at g.E.End.FIRST g.T.Key.PartialEq.eq c.self.inside.tails.map) (tail_at g.E.End.FIRST g.T.Key.PartialEq.eq c.take.new.self.map) c.args.slot c.self.invariant c.remove.ensures.sets
    (ap (λ o. length (g.M.AnyMap.entries c.remove.new.self) + cond (is_some o) 1 0) (sym c.remove.ensures.value) ∙ c.remove.ensures.len) c.take.ensures.at c.take.ensures.others).content
    )

pub returns-in_default-clause-taken : goal.returns-in_default-clause-taken
returns-in_default-clause-taken g c =
    let tail = tail_at g.E.End.FIRST g.T.Key.PartialEq.eq c.self.inside.tails.map in
    let first = g.E.End.FIRST in
    let list = list_at-content_of g.met.T.Key.Ord.total g.met.T.Translator.exact (g.M.AnyMap.entries c.self.inside.heads) tail c.args.slot in
    let long = ap (λ l. length l) list ∙ length-list_of_some _ (tail c.args.slot) (ap (λ o. is_some o) (sym c.remove.ensures.value) ∙ c.if-is_none.ensures) in
    let own = ap (λ l. length l) c.in_default.ensures.taken in
    let turned = length-in_order {V = g.row.V.Denot} first [] in
    rw (← c.self.view_is) (omega (arith, long, own, turned))

pub invariant_of-self-2 : goal.invariant_of-self-2
invariant_of-self-2 g c =
    (StandsFor-taken_out g.met.T.Key.Ord.total g.met.T.Translator.exact (g.M.AnyMap.entries c.self.inside.heads) (g.M.AnyMap.entries c.remove.new.self) (tail_at g.E.End.FIRST g.T.Key.PartialEq.eq c.self.inside.tails.map) (tail_at g.E.End.FIRST g.T.Key.PartialEq.eq c.take.new.self.map) c.args.slot c.self.invariant c.remove.ensures.sets
    (ap (λ o. length (g.M.AnyMap.entries c.remove.new.self) + cond (is_some o) 1 0) (sym c.remove.ensures.value) ∙ c.remove.ensures.len) c.take.ensures.at c.take.ensures.others).linked

pub returns-clause-content : goal.returns-clause-content
returns-clause-content g c =
    rw (← c.self.view_is) (
    (StandsFor-taken_out g.met.T.Key.Ord.total g.met.T.Translator.exact (g.M.AnyMap.entries c.self.inside.heads) (g.M.AnyMap.entries c.remove.new.self) (tail_at g.E.End.FIRST g.T.Key.PartialEq.eq c.self.inside.tails.map) (tail_at g.E.End.FIRST g.T.Key.PartialEq.eq c.take.new.self.map) c.args.slot c.self.invariant c.remove.ensures.sets
    (ap (λ o. length (g.M.AnyMap.entries c.remove.new.self) + cond (is_some o) 1 0) (sym c.remove.ensures.value) ∙ c.remove.ensures.len) c.take.ensures.at c.take.ensures.others).content
    )

pub returns-clause-taken : goal.returns-clause-taken
returns-clause-taken g c =
    let tail = tail_at g.E.End.FIRST g.T.Key.PartialEq.eq c.self.inside.tails.map in
    let first = g.E.End.FIRST in
    let list = list_at-content_of g.met.T.Key.Ord.total g.met.T.Translator.exact (g.M.AnyMap.entries c.self.inside.heads) tail c.args.slot in
    let long = ap (λ l. length l) list ∙ length-list_of_some _ (tail c.args.slot) (ap (λ o. is_some o) (sym c.remove.ensures.value) ∙ c.if-is_none.ensures) in
    let own = ap (λ l. length l) c.in-Some.ensures.taken in
    let turned = length-in_order {V = g.row.V.Denot} first c.in-Some.values.items in
    rw (← c.self.view_is) (omega (arith, long, own, turned, c.len.ensures))
