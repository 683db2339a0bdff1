use Rattle.std.proofs.Common.{ap, sym, ◌∙◌, arith}
use Rattle.core.specs.Mem.Slots.{slots_items, slots_filled}
use Rattle.key_index_map.specs.Table.{hash_of, home_in}
use Rattle.key_index_map.proofs.Groups.{begins}
use Rattle.key_index_map.proofs.Steps.{Putting, putting}
use Rattle.key_index_map.proofs.table.Table.put_at.Given.{Over}
use Rattle.key_index_map.proofs.table.Table.put_at.Goals as goal
use Rattle.key_index_map.proofs.table.Table.put_at.Goals.{After-put}

put_in : (g : Over) (c : After-put g) → Putting g.met.K.Eq.laws c.self.invariant.0 c.args.self.now c.self.view_is c.args.cell c.args.tag c.args.left c.set_in.new.self
    (slots_items c.put.new.self) (slots_filled c.put.new.self) c.args.pair.0 c.args.pair.1
put_in g c =
    putting g.met.K.Eq.laws c.self.invariant.0 c.args.self.now c.self.view_is c.args.cell c.args.tag c.args.left c.set_in.new.self
    (slots_items c.put.new.self) (slots_filled c.put.new.self) c.args.pair.0 c.args.pair.1 (home_in c.args.self.now (hash_of (g.K.Hash.hash_input c.args.pair.0)))
    (begins c.self.invariant.0 c.self.inside.left c.args.self.now c.self.view_is (hash_of (g.K.Hash.hash_input c.args.pair.0))) c.requires.free c.requires.tag c.requires.absent
    (omega (arith, c.self.inside.row.ok.0, c.self.inside.row.ok.1)) (c.requires.left ∙ sym (ap (λ x. x.spare) c.self.view_is)) c.set_in.ensures c.put.ensures.items c.put.ensures.filled

pub invariant_of-self : goal.invariant_of-self
invariant_of-self g c =
    ((put_in g (goal.at.invariant_of-self g c).After-put).still, c.self.invariant.1 ∙ sym c.put.ensures.places.start, c.self.invariant.2 ∙ sym c.put.ensures.places.count)

pub returns-clause-updates : goal.returns-clause-updates
returns-clause-updates g c = (put_in g (goal.at.returns-clause-updates g c).After-put).updates

pub returns-clause-len : goal.returns-clause-len
returns-clause-len g c = (put_in g (goal.at.returns-clause-len g c).After-put).longer
