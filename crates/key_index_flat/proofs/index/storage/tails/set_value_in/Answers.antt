use Rattle.std.proofs.Common.{slice_set, sym, ap, ◌∙◌}
use Rattle.key_index_flat.specs.Values.{in_order}
use Rattle.key_index_flat.proofs.content.VectorLemmas.{lent}
use Rattle.key_index_flat.proofs.index.storage.tails.set_value_in.Goals as goal

pub returns-clause-at : goal.returns-clause-at
returns-clause-at g c =
    let first = g.E.End.FIRST in
    let v = lent g.met.K.Ord.matches_eq g.met.K.Ord.total c.args.map.now.entries c.args.key c.unwrap.ensures c.get_mut.ensures.value _ c.set_value.new.values (c.get_mut.follows.holds c.set_value.new.values).0 in
    ap (in_order first) v.has ∙ c.set_value.ensures
    ∙ sym (ap (λ l. slice_set (in_order first l) c.args.place c.args.value) v.had)

pub returns-clause-others : goal.returns-clause-others
returns-clause-others g c =
    (lent g.met.K.Ord.matches_eq g.met.K.Ord.total c.args.map.now.entries c.args.key c.unwrap.ensures c.get_mut.ensures.value _ c.set_value.new.values (c.get_mut.follows.holds c.set_value.new.values).0).others
