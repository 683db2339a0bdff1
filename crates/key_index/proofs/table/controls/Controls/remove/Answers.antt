use Rattle.std.proofs.Common.{arith}
use Rattle.key_index.proofs.tables.ControlLemmas.{cells_within, controls_kept}
use Rattle.key_index.proofs.table.controls.Controls.remove.Goals as goal

pub index_mut-requires : goal.index_mut-requires
index_mut-requires c =
    let within = cells_within c.self.inside.bytes.items c.self.inside.fingerprints.items c.self.invariant c.args.self.now c.self.view_is c.args.cell c.requires in
    omega (arith, within, c.self.inside.bytes.ok)

pub returns : goal.returns
returns c = controls_kept c.self.inside.bytes.items c.self.inside.fingerprints.items c.self.invariant c.args.self.now c.self.view_is c.args.cell 1
