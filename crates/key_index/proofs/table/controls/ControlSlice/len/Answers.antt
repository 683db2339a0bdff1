use Rattle.std.proofs.Common.{sym}
use Rattle.key_index.proofs.tables.ControlLemmas.{cells_length}
use Rattle.key_index.proofs.table.controls.ControlSlice.len.Goals as goal

pub returns : goal.returns
returns c = sym (cells_length c.self.inside.bytes.now c.self.inside.fingerprints.now c.self.invariant c.args.self.now c.self.view_is)
