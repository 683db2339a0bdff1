use Rattle.std.proofs.Common.{arith}
use Rattle.core.specs.Mem.Slots.{slots_items, slots_filled}
use Rattle.key_index_map.proofs.Joined.{shown_length}
use Rattle.key_index_map.proofs.tags.Tags.groups.Goals as goal

pub returns : goal.returns
returns c =
    let groups = c.self.inside.groups in
    let long = shown_length (slots_items groups) (slots_filled groups) c.self.invariant.0 c.args.self.now c.self.view_is in
    omega (arith, long, groups.ok.0, c.len.ensures)
