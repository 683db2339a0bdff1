use Rattle.std.proofs.Common.{◌*◌, ◌-◌, ◌<◌, length, arith}
use Rattle.core.specs.Mem.Slots.{slots_items, slots_filled}
use Rattle.key_index_map.proofs.Joined.{shown_length, shown_set, still_groups}
use Rattle.key_index_map.proofs.tags.Tags.set_in.Goals as goal
use Rattle.key_index_map.proofs.tags.Tags.set_in.Goals.{After-self}

below : (c : After-self) → c.args.group < length (slots_items c.self.inside.groups)
below c =
    let groups = c.self.inside.groups in
    let long = shown_length (slots_items groups) (slots_filled groups) c.self.invariant.0 c.args.self.now c.self.view_is in
    omega (arith, long, c.requires.group, c.requires.place)

pub get_mut-requires : goal.get_mut-requires
get_mut-requires c =
    let is = below (goal.at.get_mut-requires c).After-self in
    (omega (arith, is, c.self.inside.groups.ok.0), c.self.invariant.0.full c.args.group is)

pub invariant_of-self : goal.invariant_of-self
invariant_of-self c =
    let groups = c.self.inside.groups in (
      still_groups (slots_items groups) (slots_filled groups) c.self.invariant.0 c.args.self.now c.self.view_is c.args.group (below (goal.at.invariant_of-self c).After-self) c.get_mut.result.now c.get_mut.ensures.value
          (c.args.place - 16 * c.args.group) c.args.place (omega (arith, c.requires.group)) (omega (arith, c.requires.group)) c.args.tag,
      c.self.invariant.1,
      c.self.invariant.2,
      c.self.invariant.3,
    )

pub returns : goal.returns
returns c =
    let groups = c.self.inside.groups in
    shown_set (slots_items groups) (slots_filled groups) c.self.invariant.0 c.args.self.now c.self.view_is c.args.group (below (goal.at.returns c).After-self) c.get_mut.result.now c.get_mut.ensures.value
    (c.args.place - 16 * c.args.group) c.args.place (omega (arith, c.requires.group)) (omega (arith, c.requires.group)) c.args.tag
