use Rattle.std.proofs.Common.{rules, ◌+◌, take}
use Rattle.key_index_flat.proofs.runs.RunLemmas.{room_next, take-next_item}
use Rattle.key_index_flat.proofs.index.apply.room_for.Goals as goal

pub commands-preserved : goal.commands-preserved
commands-preserved g c =
    let i = c.commands.command-index in
    let cs = c.args.commands.now in
    room_next (take i cs) (take (i + 1) cs) c.commands.outcomes.items c.push.new.self.items c.command-item.result _ (take-next_item cs i c.command-item.result c.commands-test.true c.command-item.is) (search rules) c.commands.invariant c.in_ok-place_for.ensures.room
