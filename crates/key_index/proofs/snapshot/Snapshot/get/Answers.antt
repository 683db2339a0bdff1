use Rattle.std.proofs.Common.{refl, sym, ap, ◌∙◌}
use Rattle.std.specs.FinMap.{get}
use Rattle.std.specs.Option.{option_copied, option_map}
use Rattle.key_index_flat.specs.Values.{values_of}
use Rattle.key_index.proofs.snapshots.SnapshotLemmas.{get-first_with}
use Rattle.key_index.proofs.snapshot.Snapshot.get.Goals as goal

pub returns-in-Ok-Some : goal.returns-in-Ok-Some
returns-in-Ok-Some g c =
    let key = c.args.key.now in
    let all = values_of (g.I.Runs.view c.self.inside.index).content in
    ap (λ found. option_map (λ r. r.position) (option_copied found)) (sym c.in-Ok-Some.field-0-is)
    ∙ get-first_with all key (option_copied c.in-Ok-Some.field-0) (c.in-Ok-Some.ensures.filed _ refl c.self.invariant.filed)
    ∙ ap (λ m. get m key) c.self.view_is

pub returns-in-Ok-None : goal.returns-in-Ok-None
returns-in-Ok-None g c =
    let key = c.args.key.now in
    let all = values_of (g.I.Runs.view c.self.inside.index).content in
    ap (λ found. option_map (λ r. r.position) (option_copied found)) (sym c.in-Ok-None.field-0-is)
    ∙ get-first_with all key (option_copied c.in-Ok-None.field-0) (c.in-Ok-None.ensures.filed _ refl c.self.invariant.filed)
    ∙ ap (λ m. get m key) c.self.view_is
