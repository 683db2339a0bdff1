use Rattle.std.proofs.Common.{◌<◌, arith}
use Rattle.std.proofs.lemmas.List.Elements.{All-from_get_or}
use Rattle.key_index_flat.proofs.CallerLemmas.{filed_after_insert}
use Rattle.key_index_uses.proofs.callers.file.Goals as goal

pub returns-clause-filed : goal.returns-clause-filed
returns-clause-filed g c = λ filed.
    let view = g.I.Runs.view c.args.index.now in
    let key = c.args.key.now in
    filed_after_insert g.met.I.Key.Ord.total g.met.I.Runs.exact g.I.Value.Keyed.full_key view (g.I.Runs.view c.insert.new.self) key g.I.Unordered.INSERT_FIRST c.args.item
    c.in_ok-insert.ensures.accepted c.requires (All-from_get_or (λ n. n < 256) key 0 (λ i within. omega (arith, c.type_inv.key i))) filed
