use Rattle.std.proofs.Common.{length, refl, arith}
use Rattle.core.specs.Mem.Slots.{slots_items, slots_filled}
use Rattle.key_index_map.specs.Tags.{AreGroups}
use Rattle.key_index_map.proofs.Joined.{AreZeros, all_empty, new_groups, shown_length}
use Rattle.key_index_map.proofs.tags.Tags.empty.Goals as goal
use Rattle.key_index_map.proofs.tags.Tags.empty.Goals.{After-loop-group}

zeros : (c : After-loop-group) → AreZeros (slots_items c.loop-group.row) (length (slots_items c.loop-group.row))
zeros c = λ i tags below. c.loop-group.invariant.zeros i tags (omega (arith, below, c.loop-group-test.false, c.loop-group.row.ok.0, c.loop-group.invariant.len))

made : (c : After-loop-group) → AreGroups (slots_items c.loop-group.row) (slots_filled c.loop-group.row)
made c =
    new_groups (slots_items c.loop-group.row) (slots_filled c.loop-group.row) (zeros c)
    (λ i below. c.loop-group.invariant.full i (omega (arith, below, c.loop-group-test.false, c.loop-group.row.ok.0, c.loop-group.invariant.len)))

pub returns-clause-long : goal.returns-clause-long
returns-clause-long c =
    let row = c.loop-group.row in
    let long = shown_length (slots_items row) (slots_filled row) (made (goal.at.returns-clause-long c).After-loop-group) _ refl in
    omega (arith, long, row.ok.0, c.loop-group.invariant.len)

pub returns-clause-empty : goal.returns-clause-empty
returns-clause-empty c = all_empty (slots_items c.loop-group.row) (zeros (goal.at.returns-clause-empty c).After-loop-group)
