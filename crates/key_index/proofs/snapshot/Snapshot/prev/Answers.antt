use Rattle.std.proofs.Common.{Some, sym, ap, ◌∙◌}
use Rattle.std.specs.Option.{option_copied, option_map}
use Rattle.key_index_flat.specs.Values.{values_of}
use Rattle.key_index.specs.Snapshot.{entry_of, prev_position}
use Rattle.key_index.proofs.snapshots.SnapshotLemmas.{prev_position-IsLeast}
use Rattle.key_index.proofs.snapshot.Snapshot.prev.Goals as goal

pub returns-in-Some : goal.returns-in-Some
returns-in-Some g c =
    let vs = values_of (g.I.Runs.view c.self.inside.index).content in
    let told = prev_position-IsLeast vs c.args.key.now (option_copied c.resolve_prev.result) (c.resolve_prev.ensures.filed c.self.invariant.filed) in
    (λ i. Some (c.as_slice.ensures.value i, c.in-Some.record.now.position))
    ∙ ap (λ r. option_map entry_of (option_copied r)) (sym c.in-Some.is) ∙ told ∙ ap (λ m. prev_position m c.args.key.now) c.self.view_is

pub returns-in-None : goal.returns-in-None
returns-in-None g c =
    let vs = values_of (g.I.Runs.view c.self.inside.index).content in
    let told = prev_position-IsLeast vs c.args.key.now (option_copied c.resolve_prev.result) (c.resolve_prev.ensures.filed c.self.invariant.filed) in
    ap (λ r. option_map entry_of (option_copied r)) (sym c.in-None.is) ∙ told ∙ ap (λ m. prev_position m c.args.key.now) c.self.view_is
