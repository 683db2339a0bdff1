use Rattle.std.proofs.Common.{sym, ◌∙◌, arith}
use Rattle.core.specs.Mem.Slots.{slots_items, slots_filled}
use Rattle.key_index_map.proofs.Steps.{Taking, taking, some_pair}
use Rattle.key_index_map.proofs.table.Table.take.Given.{Over}
use Rattle.key_index_map.proofs.table.Table.take.Goals as goal
use Rattle.key_index_map.proofs.table.Table.take.Goals.{After-take-value}

pub overflow_sub-self : goal.overflow_sub-self
overflow_sub-self g c = some_pair g.met.K.Eq.laws c.self.invariant.0 c.args.self.now c.self.view_is c.args.cell c.args.key c.requires.at

-- there is a pair, so fewer empty cells than cells
pub left_without-left-requires : goal.left_without-left-requires
left_without-left-requires g c =
    let some = some_pair g.met.K.Eq.laws c.self.invariant.0 c.args.self.now c.self.view_is c.args.cell c.args.key c.requires.at in
    omega (arith, some, c.self.invariant.0.room, c.self.inside.row.ok.0, c.self.inside.row.small)

take_out : (g : Over) (c : After-take-value g) → Taking g.met.K.Eq.laws c.self.invariant.0 c.args.self.now c.self.view_is c.args.cell c.tag_without-tag.result c.left_without-left.result c.set_in.new.self
    (slots_items c.take-value.new.self) (slots_filled c.take-value.new.self) c.args.key c.take-value.result.1
take_out g c =
    taking g.met.K.Eq.laws c.self.invariant.0 c.args.self.now c.self.view_is c.args.cell c.tag_without-tag.result c.left_without-left.result c.set_in.new.self
    (slots_items c.take-value.new.self) (slots_filled c.take-value.new.self) c.args.key c.requires.at c.take-value.result c.take-value.ensures.value c.args.group c.requires.group c.tag_without-tag.ensures
    (some_pair g.met.K.Eq.laws c.self.invariant.0 c.args.self.now c.self.view_is c.args.cell c.args.key c.requires.at)
    (omega (arith, c.self.inside.row.ok.0, c.self.inside.row.ok.1)) c.left_without-left.ensures c.set_in.ensures c.take-value.ensures.items c.take-value.ensures.filled

pub invariant_of-self : goal.invariant_of-self
invariant_of-self g c =
    ((take_out g (goal.at.invariant_of-self g c).After-take-value).still, c.self.invariant.1 ∙ sym c.take-value.ensures.places.start, c.self.invariant.2 ∙ sym c.take-value.ensures.places.count)

pub returns-clause-value : goal.returns-clause-value
returns-clause-value g c = (take_out g (goal.at.returns-clause-value g c).After-take-value).value

pub returns-clause-updates : goal.returns-clause-updates
returns-clause-updates g c = (take_out g (goal.at.returns-clause-updates g c).After-take-value).updates

pub returns-clause-len : goal.returns-clause-len
returns-clause-len g c = (take_out g (goal.at.returns-clause-len g c).After-take-value).shorter
