use Rattle.std.proofs.Common.{sym, ◌∙◌}
use Rattle.key_index.proofs.snapshots.KeptLemmas.{len_told}
use Rattle.key_index.proofs.snapshot.Snapshot.len.Goals as goal

pub returns : goal.returns
returns g c =
    let index = c.self.inside.index in
    c.items.ensures
    ∙ sym (len_told g.met.I.Key.Ord.total g.met.I.Runs.exact (g.I.Runs.view index) (g.met.I.Runs.lawful index) c.self.invariant c.args.self.now c.self.view_is)
