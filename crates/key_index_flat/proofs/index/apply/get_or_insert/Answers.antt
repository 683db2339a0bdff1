use Rattle.key_index_flat.proofs.runs.RunLemmas.{put_if_absent}
use Rattle.key_index_flat.proofs.index.apply.get_or_insert.Goals as goal

pub returns-clause-accepted : goal.returns-clause-accepted
returns-clause-accepted g c =
    let index = c.args.index.now in
    let told = c.in_ok-reach_or_insert.ensures in
    put_if_absent g.met.I.Key.Ord.total g.met.I.Runs.exact (g.I.Runs.view index) (g.I.Runs.view c.reach_or_insert.new.self) ((g.I.Runs.view index).slot c.args.key.now) c.args.value c.in_ok-reach_or_insert.field-0.1 (g.met.I.Runs.lawful index) told.reached.1
    (λ h. (told.found h).0) (λ h. (told.inserted h).0)
