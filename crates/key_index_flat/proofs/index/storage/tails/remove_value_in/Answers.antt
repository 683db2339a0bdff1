use Rattle.std.proofs.Common.{rules, ◌≡◌, Some, IfSome, length, remove, sym, ap, subst, ◌∙◌}
use Rattle.key_index_flat.specs.Values.{in_order}
use Rattle.key_index_flat.proofs.content.VectorLemmas.{lent}
use Rattle.key_index_flat.proofs.index.storage.tails.remove_value_in.Goals as goal

pub returns-clause-at : goal.returns-clause-at
returns-clause-at g c =
    let first = g.E.End.FIRST in
    let some : c.get_mut.result ≡ Some c.in_ok-get_mut.field-0 = search rules in
    let v = lent g.met.K.Ord.matches_eq g.met.K.Ord.total c.args.map.now.entries c.args.key some c.get_mut.ensures.value _ c.remove_value.new.values (c.get_mut.follows.holds c.remove_value.new.values).0 in
    ap (in_order first) v.has ∙ c.remove_value.ensures.at ∙ sym (ap (λ l. remove (in_order first l) c.args.place) v.had)

pub returns-clause-left : goal.returns-clause-left
returns-clause-left g c =
    let some : c.get_mut.result ≡ Some c.in_ok-get_mut.field-0 = search rules in
    let v = lent g.met.K.Ord.matches_eq g.met.K.Ord.total c.args.map.now.entries c.args.key some c.get_mut.ensures.value _ c.remove_value.new.values (c.get_mut.follows.holds c.remove_value.new.values).0 in
    subst (λ l. IfSome c.remove_value.result (λ removed. removed.1 ≡ length l)) (sym v.has) c.remove_value.ensures.left

pub returns-clause-others : goal.returns-clause-others
returns-clause-others g c =
    let some : c.get_mut.result ≡ Some c.in_ok-get_mut.field-0 = search rules in
    (lent g.met.K.Ord.matches_eq g.met.K.Ord.total c.args.map.now.entries c.args.key some c.get_mut.ensures.value _ c.remove_value.new.values (c.get_mut.follows.holds c.remove_value.new.values).0).others
