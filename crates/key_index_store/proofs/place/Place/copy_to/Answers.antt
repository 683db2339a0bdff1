use Rattle.std.proofs.Common.{sym, ◌∙◌}
use Rattle.std.proofs.lemmas.Result.{on_ok_weaker}
use Rattle.key_index_store.proofs.SalvageLemmas.{if_ok_from, on_ok_from}
use Rattle.key_index_store.proofs.place.Place.copy_to.Goals as goal

pub returns-clause-copied : goal.returns-clause-copied
returns-clause-copied g c = on_ok_weaker c.finish.result (λ copied undamaged log seen new now. copied undamaged log seen new (sym c.finish.ensures.seen ∙ now))
    (on_ok_from _ c.finish.result c.compact-copied.result c.finish.ensures.copied c.compact-copied.ensures.copied)

pub returns-clause-records : goal.returns-clause-records
returns-clause-records g c = if_ok_from _ c.finish.result c.compact-copied.result c.finish.ensures.copied c.compact-copied.ensures.records

pub returns-clause-gaps : goal.returns-clause-gaps
returns-clause-gaps g c = if_ok_from _ c.finish.result c.compact-copied.result c.finish.ensures.copied c.compact-copied.ensures.gaps
