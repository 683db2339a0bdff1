use Rattle.std.proofs.Common.{rules, ◌==◌, not}
use Rattle.key_index_uses.proofs.CallerLemmas.{with_pruned-updated}
use Rattle.key_index_uses.proofs.callers.update.Goals as goal

pub returns-clause-updated : goal.returns-clause-updated
returns-clause-updated g c =
    with_pruned-updated _ (λ position. not (position == c.args.old)) _ (λ x b f k. search rules) g.I.Key.Ord.cmp (g.I.Runs.view c.args.index.now) (g.I.Runs.view c.insert_and_retain.new.self) c.args.key.now c.args.new (search (rules, c.requires)) c.in_ok-insert_and_retain.ensures.accepted
