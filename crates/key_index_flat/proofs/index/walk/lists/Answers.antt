use Rattle.std.proofs.Common.{sym, ap}
use Rattle.key_index_flat.specs.Walk.{lists_of}
use Rattle.key_index_flat.proofs.neighbours.WalkLemmas.{first_next}
use Rattle.key_index_flat.proofs.index.walk.lists.Goals as goal

pub returns-in-Some : goal.returns-in-Some
returns-in-Some g c =
    sym (ap lists_of (first_next g.met.I.Key.Ord.total (g.I.Runs.view c.args.index.now).content c.in-Some.entry (g.met.I.Runs.lawful c.args.index.now).0 (sym c.in-Some.ensures)))
