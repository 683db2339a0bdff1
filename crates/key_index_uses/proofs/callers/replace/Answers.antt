use Rattle.std.proofs.Common.{◌<◌, ap, arith, ◌∙◌}
use Rattle.std.proofs.lemmas.List.Elements.{All-from_get_or}
use Rattle.key_index_flat.specs.View.{after_insert, put_value}
use Rattle.key_index_flat.proofs.CallerLemmas.{filed_after_insert, filed_after_remove, run_of-after_insert, run_of-after_remove}
use Rattle.key_index_uses.proofs.CallerLemmas.{put_value-empty}
use Rattle.key_index_uses.proofs.callers.replace.Goals as goal

pub returns-clause-alone : goal.returns-clause-alone
returns-clause-alone g c =
    let total = g.met.I.Key.Ord.total in
    let first = g.I.Unordered.INSERT_FIRST in
    let key = c.args.key.now in
    let between = g.I.Runs.view c.remove.new.self in
    run_of-after_insert total between (g.I.Runs.view c.insert.new.self) key first c.args.value c.in_ok-insert.ensures.accepted
    ∙ ap (put_value first c.args.value) (run_of-after_remove total (g.I.Runs.view c.args.index.now) between key c.in_ok-remove.ensures.accepted)
    ∙ put_value-empty first c.args.value

pub returns-clause-replaced : goal.returns-clause-replaced
returns-clause-replaced g c =
    c.in_ok-insert.ensures.accepted
    ∙ ap (λ s. after_insert g.I.Key.Ord.cmp g.I.Unordered.INSERT_FIRST s c.args.key.now c.args.value) c.in_ok-remove.ensures.accepted

pub returns-clause-filed : goal.returns-clause-filed
returns-clause-filed g c = λ keys own filed.
    let total = g.met.I.Key.Ord.total in
    let exact = g.met.I.Runs.exact in
    let key = c.args.key.now in
    let between = g.I.Runs.view c.remove.new.self in
    filed_after_insert total exact keys between (g.I.Runs.view c.insert.new.self) key g.I.Unordered.INSERT_FIRST c.args.value c.in_ok-insert.ensures.accepted own
    (All-from_get_or (λ n. n < 256) key 0 (λ i within. omega (arith, c.type_inv.key i)))
    (filed_after_remove total exact keys (g.I.Runs.view c.args.index.now) between key c.in_ok-remove.ensures.accepted filed)
