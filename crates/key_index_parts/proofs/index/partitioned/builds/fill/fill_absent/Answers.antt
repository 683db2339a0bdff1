use Rattle.key_index_flat.proofs.runs.RunLemmas.{put_if_absent}
use Rattle.key_index_parts.proofs.index.partitioned.builds.fill.fill_absent.Goals as goal

pub returns-clause-filled : goal.returns-clause-filled
returns-clause-filled g c =
    let range = c.args.range.now in
    let told = c.in_ok-reach_or_insert.ensures in
    put_if_absent g.met.R.Key.Ord.total g.met.R.Runs.exact (g.R.Runs.view range) (g.R.Runs.view c.reach_or_insert.new.self) ((g.R.Runs.view range).slot c.args.key.now) c.args.value c.in_ok-reach_or_insert.field-0.1 (g.met.R.Runs.lawful range) told.reached.1
    (λ h. (told.found h).0) (λ h. (told.inserted h).0)
