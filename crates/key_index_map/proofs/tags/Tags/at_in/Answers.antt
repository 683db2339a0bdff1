use Rattle.std.proofs.Common.{◌*◌, ◌-◌, ◌<◌, length, sym, arith}
use Rattle.core.specs.Mem.Slots.{slots_items, slots_filled}
use Rattle.key_index_map.proofs.Joined.{shown_length, shown_in}
use Rattle.key_index_map.proofs.tags.Tags.at_in.Goals as goal
use Rattle.key_index_map.proofs.tags.Tags.at_in.Goals.{After-self}

below : (c : After-self) → c.args.group < length (slots_items c.self.inside.groups)
below c =
    let groups = c.self.inside.groups in
    let long = shown_length (slots_items groups) (slots_filled groups) c.self.invariant.0 c.args.self.now c.self.view_is in
    omega (arith, long, c.requires.group, c.requires.place)

pub get-requires : goal.get-requires
get-requires c =
    let is = below (goal.at.get-requires c).After-self in
    (omega (arith, is, c.self.inside.groups.ok.0), c.self.invariant.0.full c.args.group is)

pub returns : goal.returns
returns c =
    let groups = c.self.inside.groups in
    sym (shown_in (slots_items groups) (slots_filled groups) c.self.invariant.0 c.args.self.now c.self.view_is c.args.group (below (goal.at.returns c).After-self) c.get.result.now c.get.ensures
    (c.args.place - 16 * c.args.group) c.args.place (omega (arith, c.requires.group)) (omega (arith, c.requires.group)))
