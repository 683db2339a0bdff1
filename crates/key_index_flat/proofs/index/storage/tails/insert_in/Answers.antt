use Rattle.std.proofs.Common.{rules, ◌≡◌, ◌≤◌, None, Some, IfSome, insert, length, unwrap_or, sym, ap, subst, ◌∙◌}
use Rattle.std.proofs.lemmas.Result.{on_ok_weaker, on_err_weaker}
use Rattle.key_index_flat.proofs.content.KeyLemmas.{Sets_by_eq}
use Rattle.key_index_flat.specs.Storage.{vector_at}
use Rattle.key_index_flat.specs.Values.{in_order}
use Rattle.key_index_flat.proofs.content.VectorLemmas.{absent, at_set, lent, only_value, others_set}
use Rattle.key_index_flat.proofs.index.storage.tails.insert_in.Goals as goal

pub returns-in-Some-clause-at : goal.returns-in-Some-clause-at
returns-in-Some-clause-at g c =
    let first = g.E.End.FIRST in
    let v = lent g.met.K.Ord.matches_eq g.met.K.Ord.total c.args.map.now.entries c.args.key c.in-Some.is c.get_mut.ensures.value _ c.insert_value.new.values (c.get_mut.follows.holds c.insert_value.new.values).0 in
    on_ok_weaker c.insert_value.result
    (λ at. ap (in_order first) v.has ∙ at ∙ sym (ap (λ l. insert (in_order first l) (unwrap_or c.args.place (length l)) c.args.value) v.had))
    c.insert_value.ensures.at

pub returns-in-Some-clause-refused : goal.returns-in-Some-clause-refused
returns-in-Some-clause-refused g c =
    let v = lent g.met.K.Ord.matches_eq g.met.K.Ord.total c.args.map.now.entries c.args.key c.in-Some.is c.get_mut.ensures.value _ c.insert_value.new.values (c.get_mut.follows.holds c.insert_value.new.values).0 in
    on_err_weaker c.insert_value.result (λ same. v.has ∙ same ∙ sym v.had) c.insert_value.ensures.refused

pub returns-in-Some-clause-others : goal.returns-in-Some-clause-others
returns-in-Some-clause-others g c = (lent g.met.K.Ord.matches_eq g.met.K.Ord.total c.args.map.now.entries c.args.key c.in-Some.is c.get_mut.ensures.value _ c.insert_value.new.values (c.get_mut.follows.holds c.insert_value.new.values).0).others

pub returns-in-Ok-clause-at : goal.returns-in-Ok-clause-at
returns-in-Ok-clause-at g c =
    let first = g.E.End.FIRST in
    let place = c.args.place in
    let missed : c.get_mut.result ≡ None = search rules in
    let before = absent g.K.Ord.cmp g.met.K.Ord.matches_eq c.args.map.now.entries c.args.key c.get_mut.result missed c.get_mut.ensures.value in
    let sets = Sets_by_eq g.K.PartialEq.eq g.K.Ord.cmp g.met.K.Ord.matches_eq g.met.K.Ord.total c.get_mut.follows.lender-at-none.entries c.add.new.self.entries c.args.key (Some c.in_ok-values.values) c.in-Ok.ensures.updates in
    let after = at_set g.K.Ord.cmp g.met.K.Ord.matches_eq c.add.new.self.entries c.args.key (Some c.in_ok-values.values) sets.0 ∙ c.in_ok-values.ensures.value in
    ap (in_order first) after
    ∙ only_value first place c.args.value (subst (λ l. IfSome place (λ at. at ≤ length l)) before c.requires)
    ∙ sym (ap (λ l. insert (in_order first l) (unwrap_or place (length l)) c.args.value) before)

pub returns-in-Ok-clause-others : goal.returns-in-Ok-clause-others
returns-in-Ok-clause-others g c = λ q apart.
    others_set g.K.Ord.cmp g.met.K.Ord.matches_eq c.get_mut.follows.lender-at-none.entries c.add.new.self.entries c.args.key
    (Sets_by_eq g.K.PartialEq.eq g.K.Ord.cmp g.met.K.Ord.matches_eq g.met.K.Ord.total c.get_mut.follows.lender-at-none.entries c.add.new.self.entries c.args.key (Some c.in_ok-values.values) c.in-Ok.ensures.updates).1 q apart
    ∙ ap (λ m. vector_at g.K.PartialEq.eq m.entries q) c.get_mut.follows.holds-at-none
