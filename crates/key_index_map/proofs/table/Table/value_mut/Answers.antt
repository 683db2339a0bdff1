use Rattle.std.proofs.Common.{refl}
use Rattle.key_index_map.proofs.Steps.{Lending, lending}
use Rattle.key_index_map.proofs.table.Table.value_mut.Given.{Over}
use Rattle.key_index_map.proofs.table.Table.value_mut.Goals as goal
use Rattle.key_index_map.proofs.table.Table.value_mut.Goals.{After-get_mut}

lent : (g : Over) (c : After-get_mut g) → Lending g.met.K.Eq.laws c.self.invariant.0 c.args.self.now c.self.view_is c.args.cell c.args.key c.requires c.get_mut.result.now c.get_mut.ensures.value
lent g c = lending g.met.K.Eq.laws c.self.invariant.0 c.args.self.now c.self.view_is c.args.cell c.args.key c.requires c.get_mut.result.now c.get_mut.ensures.value

pub invariant_of-self-lent : goal.invariant_of-self-lent
invariant_of-self-lent g c = λ w. ((lent g (goal.at.invariant_of-self-lent g c).After-get_mut).still w, c.self.invariant.1, c.self.invariant.2)

pub returns : goal.returns
returns g c =
    let l = lent g (goal.at.returns g c).After-get_mut in
    ((refl, l.shown), record { lends = tt; value = l.value; written = l.written; len = l.as_long })
