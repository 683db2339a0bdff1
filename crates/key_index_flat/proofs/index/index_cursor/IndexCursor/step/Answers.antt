use Rattle.std.proofs.Common.{sym, subst, ◌∙◌}
use Rattle.key_index_flat.specs.CursorRun.{EditsBy}
use Rattle.key_index_flat.specs.Steps.{after_step}
use Rattle.key_index_flat.proofs.runs.RunLemmas.{goes_by, stays_by}
use Rattle.key_index_flat.proofs.index.index_cursor.IndexCursor.step.Goals as goal

pub returns-then-not-allows-clause-edited : goal.returns-then-not-allows-clause-edited
returns-then-not-allows-clause-edited g c =
    let old = c.args.self.now in
    stays_by g.met.I.Key.Ord.total g.met.I.Runs.exact old (g.met.I.Runs.lawful old.index.now) c.args.step (sym c.allows.ensures ∙ c.if-not-allows.true)

pub returns-in-Next-clause-edited : goal.returns-in-Next-clause-edited
returns-in-Next-clause-edited g c =
    let old = c.args.self.now in
    let new = c.advance.new.self in
    subst (λ x. EditsBy (after_step x) old new) (sym c.in-Next.is) (goes_by g.met.I.Key.Ord.total g.met.I.Runs.exact old (g.met.I.Runs.lawful old.index.now) new c.advance.ensures.stays c.advance.ensures.place)
