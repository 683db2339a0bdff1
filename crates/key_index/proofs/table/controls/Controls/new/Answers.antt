use Rattle.std.proofs.Common.{rules, ◌≡◌, replicate, ◌∙◌}
use Rattle.std.specs.Simd.Lanes.{zip2}
use Rattle.key_index.specs.Controls.{control_by}
use Rattle.key_index.proofs.tables.ControlLemmas.{controls_empty}
use Rattle.key_index.proofs.table.controls.Controls.new.Goals as goal

pub returns : goal.returns
returns c =
    let bytes : c.in_ok-vec.field-0.items ≡ replicate c.args.cells 0 = search rules in
    let fingerprints : c.in_ok-vec-2.field-0.items ≡ replicate c.args.cells 0 = search rules in
    (λ j. zip2 control_by (bytes j) (fingerprints j)) ∙ controls_empty c.args.cells
