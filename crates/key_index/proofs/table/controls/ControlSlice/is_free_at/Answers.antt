use Rattle.std.proofs.Common.{nat_lt, slice_index, sym, ap, ◌∙◌}
use Rattle.key_index.proofs.tables.ControlLemmas.{cells_within, control_read, control_free}
use Rattle.key_index.proofs.table.controls.ControlSlice.is_free_at.Goals as goal

pub bounds-self-inside-cell : goal.bounds-self-inside-cell
bounds-self-inside-cell c = cells_within c.self.inside.bytes.now c.self.inside.fingerprints.now c.self.invariant c.args.self.now c.self.view_is c.args.cell c.requires

pub returns : goal.returns
returns c =
    control_free (slice_index c.self.inside.bytes.now c.args.cell) (slice_index c.self.inside.fingerprints.now c.args.cell)
    ∙ ap (λ v. nat_lt v 2) (sym (control_read c.self.inside.bytes.now c.self.inside.fingerprints.now c.self.invariant c.args.self.now c.self.view_is c.args.cell c.requires))
