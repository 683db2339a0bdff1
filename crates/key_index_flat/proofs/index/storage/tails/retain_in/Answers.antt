use Rattle.std.proofs.Common.{rules, ◌≡◌, ◌++◌, [], length, sym, ap, subst, ◌∙◌}
use Rattle.std.specs.Fn.{CalledAt}
use Rattle.key_index_flat.specs.Storage.{at_key, list_of, RetainsTail}
use Rattle.key_index_flat.specs.Values.{in_order}
use Rattle.key_index_flat.proofs.content.VectorLemmas.{lent}
use Rattle.key_index_flat.proofs.index.storage.tails.retain_in.Goals as goal

pub returns-in_err-insert_new-clause-others : goal.returns-in_err-insert_new-clause-others
returns-in_err-insert_new-clause-others g c = (lent g.met.K.Ord.matches_eq g.met.K.Ord.total c.args.map.now.entries c.args.key c.in-Some.is c.get_mut.ensures.value _ c.insert_new.new.values (c.get_mut.follows.holds c.insert_new.new.values).0).others

pub returns-in_err-insert_new-clause-refused : goal.returns-in_err-insert_new-clause-refused
returns-in_err-insert_new-clause-refused g c =
    let v = lent g.met.K.Ord.matches_eq g.met.K.Ord.total c.args.map.now.entries c.args.key c.in-Some.is c.get_mut.ensures.value _ c.insert_new.new.values (c.get_mut.follows.holds c.insert_new.new.values).0 in
    let same : at_key g.K.PartialEq.eq (c.get_mut.follows.lender c.insert_new.new.values) c.args.key ≡ at_key g.K.PartialEq.eq c.args.map.now c.args.key =
    v.has ∙ c.in_err-insert_new.ensures.refused ∙ sym v.had in
    search rules

pub remove_empty-requires : goal.remove_empty-requires
remove_empty-requires g c =
    let values = c.retain_behind-retained.new.values in
    let long : c.len-left.result ≡ length values.items = search rules in
    let v = lent g.met.K.Ord.matches_eq g.met.K.Ord.total c.args.map.now.entries c.args.key c.in-Some.is c.get_mut.ensures.value _ values (c.get_mut.follows.holds values).0 in
    long ∙ sym (ap (λ l. length l) v.has)

pub returns-in-Some-clause-retained : goal.returns-in-Some-clause-retained
returns-in-Some-clause-retained g c =
    let first = g.E.End.FIRST in
    let values = c.retain_behind-retained.new.values in
    let v = lent g.met.K.Ord.matches_eq g.met.K.Ord.total c.args.map.now.entries c.args.key c.in-Some.is c.get_mut.ensures.value _ values (c.get_mut.follows.holds values).0 in
    let inserted : in_order first c.insert_new.new.values.items ≡ in_order first (at_key g.K.PartialEq.eq c.args.map.now c.args.key) ++ list_of c.args.new [] =
    c.in_ok-insert_new.ensures.at ∙ sym (ap (λ l. in_order first l ++ list_of c.args.new []) v.had) in
    subst (λ l. RetainsTail (CalledAt g.F.FnMut) c.args.should_retain c.args.head.now l (in_order first (at_key g.K.PartialEq.eq c.remove_empty.new.map c.args.key)) c.retain_behind-retained.result) inserted
    (subst (λ l. RetainsTail (CalledAt g.F.FnMut) c.args.should_retain c.args.head.now (in_order first c.insert_new.new.values.items) (in_order first l) c.retain_behind-retained.result) (sym (c.remove_empty.ensures.at ∙ v.has))
    c.retain_behind-retained.ensures)

pub returns-in-Some-clause-others : goal.returns-in-Some-clause-others
returns-in-Some-clause-others g c = λ q apart.
    let values = c.retain_behind-retained.new.values in
    c.remove_empty.ensures.others q apart ∙ (lent g.met.K.Ord.matches_eq g.met.K.Ord.total c.args.map.now.entries c.args.key c.in-Some.is c.get_mut.ensures.value _ values (c.get_mut.follows.holds values).0).others q apart
