use Rattle.std.proofs.Common.{arith}
use Rattle.key_index_parts.proofs.builds.FillLemmas.{absent_left}
use Rattle.key_index_parts.proofs.index.partitioned.builds.fill.fill_edit.Goals as goal

pub returns-then-len-eq0-clause-filled : goal.returns-then-len-eq0-clause-filled
returns-then-len-eq0-clause-filled g c =
    let range = c.args.range.now in
    absent_left g.met.R.Key.Ord.total g.met.R.Runs.exact (g.R.Runs.view range) (g.R.Runs.view c.reach.new.self) ((g.R.Runs.view range).slot c.args.key.now) c.args.steps.items (g.met.R.Runs.lawful range) (λ h. omega (arith, h, c.in_ok-slot.ensures.reached.1, c.if-len-eq0.true)) c.in_ok-slot.ensures.settled.0
