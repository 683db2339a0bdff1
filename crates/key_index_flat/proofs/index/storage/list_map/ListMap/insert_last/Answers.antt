use Rattle.std.proofs.Common.{true, false, Ok, Err, ℕ, ◌++◌, ◌∷◌, [], cond, is_some, arith, refl, sym, ap, ◌∙◌}
use Rattle.key_index_flat.specs.Content.{with_list}
use Rattle.key_index_flat.specs.Storage.{content_of, tail_at}
use Rattle.key_index_flat.proofs.content.ChainLemmas.{None-is_some, absent_told, added-none, list_at-some, put_absent, behind_linked, behind_content, behind_refused, none_back, some_back}
use Rattle.key_index_flat.proofs.index.storage.list_map.ListMap.insert_last.Goals as goal

pub invariant_of-self-in_default : goal.invariant_of-self-in_default
invariant_of-self-in_default g c =
    let tail = tail_at g.E.End.FIRST g.T.Key.PartialEq.eq c.self.inside.tails.map in
    let put = put_absent g.met.T.Key.Ord.total g.met.T.Translator.exact (g.M.AnyMap.entries c.self.inside.heads) (g.M.AnyMap.entries c.insert_absent.new.self) tail tail c.args.slot c.self.invariant c.args.value c.in_ok-value.ensures.at c.insert_absent.ensures.others c.in_ok-value.ensures.len
    (none_back _ c.args.value c.in_ok-value.field-0 c.in_ok-value.ensures.back c.in_default.is) (λ q. refl) in
    put.1.linked

pub returns-in_default-clause-accepted : goal.returns-in_default-clause-accepted
returns-in_default-clause-accepted g c =
    let tail = tail_at g.E.End.FIRST g.T.Key.PartialEq.eq c.self.inside.tails.map in
    let put = put_absent g.met.T.Key.Ord.total g.met.T.Translator.exact (g.M.AnyMap.entries c.self.inside.heads) (g.M.AnyMap.entries c.insert_absent.new.self) tail tail c.args.slot c.self.invariant c.args.value c.in_ok-value.ensures.at c.insert_absent.ensures.others c.in_ok-value.ensures.len
    (none_back _ c.args.value c.in_ok-value.field-0 c.in_ok-value.ensures.back c.in_default.is) (λ q. refl) in
    rw (← c.self.view_is) (put.1.content ∙ ap (λ l. with_list g.T.Key.Ord.cmp (content_of g.T.Key.Ord.cmp (g.M.AnyMap.entries c.self.inside.heads) tail) c.args.slot (l ++ c.args.value ∷ [])) (sym put.0))

pub returns-in_default-clause-room : goal.returns-in_default-clause-room
returns-in_default-clause-room g c =
    let none = None-is_some _ (none_back _ c.args.value c.in_ok-value.field-0 c.in_ok-value.ensures.back c.in_default.is) in
    let adds = added-none g.met.T.Key.Ord.total g.met.T.Translator.exact (g.M.AnyMap.entries c.self.inside.heads) (tail_at g.E.End.FIRST g.T.Key.PartialEq.eq c.self.inside.tails.map) c.args.slot none in
    let takes = ap {B = ℕ} (λ o. cond (is_some o) 0 1) none in
    rw (← c.self.view_is) (omega (arith, c.insert_absent.ensures.room, takes, adds))

pub invariant_of-self-in_err-insert_at : goal.invariant_of-self-in_err-insert_at
invariant_of-self-in_err-insert_at g c =
    let tail = tail_at g.E.End.FIRST g.T.Key.PartialEq.eq c.self.inside.tails.map in
    let held = some_back _ c.args.value _ c.in_ok-value.field-0 c.in_ok-value.ensures.back c.in-Some.is in
    behind_linked g.met.T.Key.Ord.total g.met.T.Translator.exact (g.M.AnyMap.entries c.self.inside.heads) (g.M.AnyMap.entries c.insert_absent.new.self) tail (tail_at g.E.End.FIRST g.T.Key.PartialEq.eq c.insert_at.new.self.map) c.args.slot c.self.invariant
    c.args.value c.in_ok-value.ensures.at c.insert_absent.ensures.others c.in_ok-value.ensures.len held.0 c.in-Some.value held.1 (Err c.in-Some.value) tt c.in_err-insert_at.ensures.refused c.insert_at.ensures.others

pub invariant_of-self-2 : goal.invariant_of-self-2
invariant_of-self-2 g c =
    let tail = tail_at g.E.End.FIRST g.T.Key.PartialEq.eq c.self.inside.tails.map in
    let held = some_back _ c.args.value _ c.in_ok-value.field-0 c.in_ok-value.ensures.back c.in-Some.is in
    behind_linked g.met.T.Key.Ord.total g.met.T.Translator.exact (g.M.AnyMap.entries c.self.inside.heads) (g.M.AnyMap.entries c.insert_absent.new.self) tail (tail_at g.E.End.FIRST g.T.Key.PartialEq.eq c.insert_at.new.self.map) c.args.slot c.self.invariant
    c.args.value c.in_ok-value.ensures.at c.insert_absent.ensures.others c.in_ok-value.ensures.len held.0 c.in-Some.value held.1 (Ok tt) c.in_ok-insert_at.ensures.at tt c.insert_at.ensures.others

pub returns-clause-accepted : goal.returns-clause-accepted
returns-clause-accepted g c =
    let tail = tail_at g.E.End.FIRST g.T.Key.PartialEq.eq c.self.inside.tails.map in
    let held = some_back _ c.args.value _ c.in_ok-value.field-0 c.in_ok-value.ensures.back c.in-Some.is in
    rw (← c.self.view_is) (
    behind_content g.met.T.Key.Ord.total g.met.T.Translator.exact (g.M.AnyMap.entries c.self.inside.heads) (g.M.AnyMap.entries c.insert_absent.new.self) tail (tail_at g.E.End.FIRST g.T.Key.PartialEq.eq c.insert_at.new.self.map) c.args.slot c.self.invariant
    c.args.value c.in_ok-value.ensures.at c.insert_absent.ensures.others c.in_ok-value.ensures.len held.0 c.in-Some.value held.1 (Ok tt) c.in_ok-insert_at.ensures.at c.insert_at.ensures.others
    )

pub returns-in_err-insert_at-clause-refused : goal.returns-in_err-insert_at-clause-refused
returns-in_err-insert_at-clause-refused g c =
    let tail = tail_at g.E.End.FIRST g.T.Key.PartialEq.eq c.self.inside.tails.map in
    let held = some_back _ c.args.value _ c.in_ok-value.field-0 c.in_ok-value.ensures.back c.in-Some.is in
    rw (← c.self.view_is) (
    behind_refused g.met.T.Key.Ord.total g.met.T.Translator.exact (g.M.AnyMap.entries c.self.inside.heads) (g.M.AnyMap.entries c.insert_absent.new.self) tail (tail_at g.E.End.FIRST g.T.Key.PartialEq.eq c.insert_at.new.self.map) c.args.slot c.self.invariant
    c.args.value c.in_ok-value.ensures.at c.insert_absent.ensures.others c.in_ok-value.ensures.len held.0 c.from_residual-in_err-insert_at.result c.in_err-insert_at.ensures.refused c.insert_at.ensures.others
    )

pub returns-in_err-insert_at-clause-succeeds : goal.returns-in_err-insert_at-clause-succeeds
returns-in_err-insert_at-clause-succeeds g c =
    let tail = tail_at g.E.End.FIRST g.T.Key.PartialEq.eq c.self.inside.tails.map in
    let held = some_back _ c.args.value _ c.in_ok-value.field-0 c.in_ok-value.ensures.back c.in-Some.is in
    rw (← c.self.view_is) (λ _ empty. absurd (list_at-some g.met.T.Key.Ord.total g.met.T.Translator.exact (g.M.AnyMap.entries c.self.inside.heads) tail c.args.slot held.0 empty))

pub returns-in_default-clause-absent : goal.returns-in_default-clause-absent
returns-in_default-clause-absent g c =
    let tail = tail_at g.E.End.FIRST g.T.Key.PartialEq.eq c.self.inside.tails.map in
    let none = none_back _ c.args.value c.in_ok-value.field-0 c.in_ok-value.ensures.back c.in_default.is in
    rw (← c.self.view_is) (absent_told g.met.T.Key.Ord.total g.met.T.Translator.exact (g.M.AnyMap.entries c.self.inside.heads) tail c.args.slot false none)

pub returns-clause-absent : goal.returns-clause-absent
returns-clause-absent g c =
    let tail = tail_at g.E.End.FIRST g.T.Key.PartialEq.eq c.self.inside.tails.map in
    let held = some_back _ c.args.value _ c.in_ok-value.field-0 c.in_ok-value.ensures.back c.in-Some.is in
    rw (← c.self.view_is) (absent_told g.met.T.Key.Ord.total g.met.T.Translator.exact (g.M.AnyMap.entries c.self.inside.heads) tail c.args.slot true held.0)
