use Rattle.std.proofs.Common.{arith}
use Rattle.key_index_uses.proofs.CallerLemmas.{absent_stays}
use Rattle.key_index_uses.proofs.callers.replace_first.Goals as goal

pub returns-then-len-eq0-clause-replaced : goal.returns-then-len-eq0-clause-replaced
returns-then-len-eq0-clause-replaced g c =
    let index = c.args.index.now in
    absent_stays g.met.I.Key.Ord.total g.met.I.Runs.exact (g.I.Runs.view index) (g.I.Runs.view c.reach.new.self) ((g.I.Runs.view index).slot c.args.key.now) c.args.value (g.met.I.Runs.lawful index)
    c.in_ok-slot.ensures.settled.0 (λ h. omega (arith, h, c.in_ok-slot.ensures.reached.1, c.if-len-eq0.true))
