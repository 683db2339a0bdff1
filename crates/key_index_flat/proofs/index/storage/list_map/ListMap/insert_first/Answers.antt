use Rattle.std.proofs.Common.{ℕ, true, false, ◌+◌, length, cond, is_some, Some, arith, refl, ap, sym, ◌∙◌}
use Rattle.key_index_flat.specs.Storage.{tail_at}
use Rattle.key_index_flat.proofs.content.ChainLemmas.{absent_told, added-none, list_at-some, first_value, newer_value, StandsFor-put_back}
use Rattle.key_index_flat.proofs.index.storage.list_map.ListMap.insert_first.Goals as goal

pub invariant_of-self-in_default : goal.invariant_of-self-in_default
invariant_of-self-in_default g c =
    (first_value g.met.T.Key.Ord.total g.met.T.Translator.exact (g.M.AnyMap.entries c.self.inside.heads) (g.M.AnyMap.entries c.insert.new.self) (tail_at g.E.End.FIRST g.T.Key.PartialEq.eq c.self.inside.tails.map) (tail_at g.E.End.FIRST g.T.Key.PartialEq.eq c.self.inside.tails.map) c.args.slot c.self.invariant c.args.value (sym c.in_ok-displaced.ensures.old ∙ c.in_default.is) c.in_ok-displaced.ensures.sets (c.in_ok-displaced.ensures.len ∙ ap (λ o. length (g.M.AnyMap.entries c.self.inside.heads) + cond (is_some o) 0 1) c.in_default.is) (λ q. refl)).linked

pub returns-in_default-clause-accepted : goal.returns-in_default-clause-accepted
returns-in_default-clause-accepted g c =
    rw (← c.self.view_is) (
    (first_value g.met.T.Key.Ord.total g.met.T.Translator.exact (g.M.AnyMap.entries c.self.inside.heads) (g.M.AnyMap.entries c.insert.new.self) (tail_at g.E.End.FIRST g.T.Key.PartialEq.eq c.self.inside.tails.map) (tail_at g.E.End.FIRST g.T.Key.PartialEq.eq c.self.inside.tails.map) c.args.slot c.self.invariant c.args.value (sym c.in_ok-displaced.ensures.old ∙ c.in_default.is) c.in_ok-displaced.ensures.sets (c.in_ok-displaced.ensures.len ∙ ap (λ o. length (g.M.AnyMap.entries c.self.inside.heads) + cond (is_some o) 0 1) c.in_default.is) (λ q. refl)).content
    )

pub invariant_of-self-in-Ok : goal.invariant_of-self-in-Ok
invariant_of-self-in-Ok g c =
    (newer_value g.met.T.Key.Ord.total g.met.T.Translator.exact (g.M.AnyMap.entries c.self.inside.heads) (g.M.AnyMap.entries c.insert.new.self) (tail_at g.E.End.FIRST g.T.Key.PartialEq.eq c.self.inside.tails.map) (tail_at g.E.End.FIRST g.T.Key.PartialEq.eq c.insert_at.new.self.map) c.args.slot c.self.invariant c.args.value c.in-Some.displaced (sym c.in_ok-displaced.ensures.old ∙ c.in-Some.is) c.in_ok-displaced.ensures.sets (c.in_ok-displaced.ensures.len ∙ ap (λ o. length (g.M.AnyMap.entries c.self.inside.heads) + cond (is_some o) 0 1) c.in-Some.is) c.in-Ok.ensures.at c.in-Ok.ensures.others).linked

pub invariant_of-self-in-Err : goal.invariant_of-self-in-Err
invariant_of-self-in-Err g c =
    (StandsFor-put_back g.met.T.Key.Ord.total g.met.T.Translator.exact (g.M.AnyMap.entries c.self.inside.heads) (g.M.AnyMap.entries c.replace.new.self) (tail_at g.E.End.FIRST g.T.Key.PartialEq.eq c.self.inside.tails.map) (tail_at g.E.End.FIRST g.T.Key.PartialEq.eq c.insert_at.new.self.map) c.args.slot c.self.invariant c.args.value c.in-Err.displaced (g.M.AnyMap.entries c.insert.new.self) (sym c.in_ok-displaced.ensures.old ∙ c.in-Some.is ∙ ap (λ v. Some v) (sym c.in-Err.ensures.returned)) c.in_ok-displaced.ensures.sets (c.in_ok-displaced.ensures.len ∙ ap (λ o. length (g.M.AnyMap.entries c.self.inside.heads) + cond (is_some o) 0 1) c.in-Some.is) c.replace.ensures.sets c.replace.ensures.len c.in-Err.ensures.refused c.insert_at.ensures.others).linked

pub returns-in-Ok-clause-accepted : goal.returns-in-Ok-clause-accepted
returns-in-Ok-clause-accepted g c =
    rw (← c.self.view_is) (
    (newer_value g.met.T.Key.Ord.total g.met.T.Translator.exact (g.M.AnyMap.entries c.self.inside.heads) (g.M.AnyMap.entries c.insert.new.self) (tail_at g.E.End.FIRST g.T.Key.PartialEq.eq c.self.inside.tails.map) (tail_at g.E.End.FIRST g.T.Key.PartialEq.eq c.insert_at.new.self.map) c.args.slot c.self.invariant c.args.value c.in-Some.displaced (sym c.in_ok-displaced.ensures.old ∙ c.in-Some.is) c.in_ok-displaced.ensures.sets (c.in_ok-displaced.ensures.len ∙ ap (λ o. length (g.M.AnyMap.entries c.self.inside.heads) + cond (is_some o) 0 1) c.in-Some.is) c.in-Ok.ensures.at c.in-Ok.ensures.others).content
    )

pub returns-in-Err-clause-refused : goal.returns-in-Err-clause-refused
returns-in-Err-clause-refused g c =
    rw (← c.self.view_is) (
    (StandsFor-put_back g.met.T.Key.Ord.total g.met.T.Translator.exact (g.M.AnyMap.entries c.self.inside.heads) (g.M.AnyMap.entries c.replace.new.self) (tail_at g.E.End.FIRST g.T.Key.PartialEq.eq c.self.inside.tails.map) (tail_at g.E.End.FIRST g.T.Key.PartialEq.eq c.insert_at.new.self.map) c.args.slot c.self.invariant c.args.value c.in-Err.displaced (g.M.AnyMap.entries c.insert.new.self) (sym c.in_ok-displaced.ensures.old ∙ c.in-Some.is ∙ ap (λ v. Some v) (sym c.in-Err.ensures.returned)) c.in_ok-displaced.ensures.sets (c.in_ok-displaced.ensures.len ∙ ap (λ o. length (g.M.AnyMap.entries c.self.inside.heads) + cond (is_some o) 0 1) c.in-Some.is) c.replace.ensures.sets c.replace.ensures.len c.in-Err.ensures.refused c.insert_at.ensures.others).content
    )

pub returns-in_default-clause-room : goal.returns-in_default-clause-room
returns-in_default-clause-room g c =
    let none = sym c.in_ok-displaced.ensures.old ∙ c.in_default.is in
    let adds = added-none g.met.T.Key.Ord.total g.met.T.Translator.exact (g.M.AnyMap.entries c.self.inside.heads) (tail_at g.E.End.FIRST g.T.Key.PartialEq.eq c.self.inside.tails.map) c.args.slot none in
    let takes = ap {B = ℕ} (λ o. cond (is_some o) 0 1) none in
    rw (← c.self.view_is) (omega (arith, c.insert.ensures.room, takes, adds))

pub returns-in-Err-clause-succeeds : goal.returns-in-Err-clause-succeeds
returns-in-Err-clause-succeeds g c =
    let some = sym c.in_ok-displaced.ensures.old ∙ c.in-Some.is in
    rw (← c.self.view_is) (λ _ empty. absurd (list_at-some g.met.T.Key.Ord.total g.met.T.Translator.exact (g.M.AnyMap.entries c.self.inside.heads) (tail_at g.E.End.FIRST g.T.Key.PartialEq.eq c.self.inside.tails.map) c.args.slot (ap is_some some) empty))

pub returns-in_default-clause-absent : goal.returns-in_default-clause-absent
returns-in_default-clause-absent g c =
    let tail = tail_at g.E.End.FIRST g.T.Key.PartialEq.eq c.self.inside.tails.map in
    let none = sym c.in_ok-displaced.ensures.old ∙ c.in_default.is in
    rw (← c.self.view_is) (absent_told g.met.T.Key.Ord.total g.met.T.Translator.exact (g.M.AnyMap.entries c.self.inside.heads) tail c.args.slot false (ap is_some none))

pub returns-in-Ok-clause-absent : goal.returns-in-Ok-clause-absent
returns-in-Ok-clause-absent g c =
    let tail = tail_at g.E.End.FIRST g.T.Key.PartialEq.eq c.self.inside.tails.map in
    let some = sym c.in_ok-displaced.ensures.old ∙ c.in-Some.is in
    rw (← c.self.view_is) (absent_told g.met.T.Key.Ord.total g.met.T.Translator.exact (g.M.AnyMap.entries c.self.inside.heads) tail c.args.slot true (ap is_some some))
