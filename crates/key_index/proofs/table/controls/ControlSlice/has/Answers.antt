use Rattle.std.proofs.Common.{◌+◌, ◌==◌, not, slice_index, sym, ap, ◌∙◌}
use Rattle.std.proofs.lemmas.Bool.{ne_eqb}
use Rattle.key_index.proofs.tables.ControlLemmas.{cells_within, control_read, has_another, has_own}
use Rattle.key_index.proofs.table.controls.ControlSlice.has.Goals as goal

pub bounds-self-inside-cell : goal.bounds-self-inside-cell
bounds-self-inside-cell c = cells_within c.self.inside.bytes.now c.self.inside.fingerprints.now c.self.invariant c.args.self.now c.self.view_is c.args.cell c.requires

pub returns-then-self-cell : goal.returns-then-self-cell
returns-then-self-cell c =
    let bytes = c.self.inside.bytes.now in
    let fs = c.self.inside.fingerprints.now in
    sym (ap (λ v. v == c.args.fingerprint + 2) (control_read bytes fs c.self.invariant c.args.self.now c.self.view_is c.args.cell c.requires)
    ∙ has_another (slice_index bytes c.args.cell) (slice_index fs c.args.cell) c.args.fingerprint (c.self.invariant.shared c.args.cell)
    (λ e. c.if-self-cell.true (e ∙ sym c.byte_of-byte.ensures)))

pub returns-then-byte-ne-SHARED : goal.returns-then-byte-ne-SHARED
returns-then-byte-ne-SHARED c =
    let bytes = c.self.inside.bytes.now in
    let fs = c.self.inside.fingerprints.now in
    ap not (ne_eqb c.byte_of-byte.result 2 c.if-byte-ne-SHARED.true)
    ∙ sym (ap (λ v. v == c.args.fingerprint + 2) (control_read bytes fs c.self.invariant c.args.self.now c.self.view_is c.args.cell c.requires)
    ∙ has_own (slice_index bytes c.args.cell) (slice_index fs c.args.cell) c.args.fingerprint (c.if-self-cell.false ∙ c.byte_of-byte.ensures)
    (λ e. c.if-byte-ne-SHARED.true (c.byte_of-byte.ensures ∙ e)))
