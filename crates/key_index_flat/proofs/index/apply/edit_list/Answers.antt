use Rattle.std.proofs.Common.{rules}
use Rattle.key_index_flat.proofs.runs.RunLemmas.{edit_done}
use Rattle.key_index_flat.proofs.index.apply.edit_list.Goals as goal

pub returns : goal.returns
returns g c =
    let made = c.with_len-cursor in
    edit_done c.args.steps.items c.apply_steps.new.flags made.result c.apply_steps.new.cursor c.args.index.now _ c.args.slot made.ensures.same_index (search rules) made.ensures.start.0 made.ensures.start.1 c.apply_steps.ensures
