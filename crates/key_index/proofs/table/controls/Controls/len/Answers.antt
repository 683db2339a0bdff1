use Rattle.std.proofs.Common.{arith}
use Rattle.key_index.proofs.tables.ControlLemmas.{cells_length}
use Rattle.key_index.proofs.table.controls.Controls.len.Goals as goal

pub returns : goal.returns
returns c =
    let size = cells_length c.self.inside.bytes.items c.self.inside.fingerprints.items c.self.invariant c.args.self.now c.self.view_is in
    omega (arith, c.len.ensures, size, c.self.inside.bytes.ok)
