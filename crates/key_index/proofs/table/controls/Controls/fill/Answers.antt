use Rattle.std.proofs.Common.{◌<◌, length, slice_index, slice_set, ap, ◌∙◌, arith}
use Rattle.key_index.proofs.tables.ControlLemmas.{cells_within, controls_filled, controls_kept, control_of_own, control_shared}
use Rattle.key_index.proofs.table.controls.Controls.fill.Goals.{After-self}
use Rattle.key_index.proofs.table.controls.Controls.fill.Goals as goal

byte_within : (c : After-self) → c.args.cell < length c.self.inside.bytes.items
byte_within c = cells_within c.self.inside.bytes.items c.self.inside.fingerprints.items c.self.invariant c.args.self.now c.self.view_is c.args.cell c.requires

pub index_mut-requires : goal.index_mut-requires
index_mut-requires c = let within = byte_within (goal.at.index_mut-requires c).After-self in omega (arith, within, c.self.inside.bytes.ok)

pub index_mut-requires-2 : goal.index_mut-requires-2
index_mut-requires-2 c = let within = byte_within (goal.at.index_mut-requires-2 c).After-self in omega (arith, within, c.self.invariant.sized, c.self.inside.fingerprints.ok)

pub returns-then-byte-ne-SHARED : goal.returns-then-byte-ne-SHARED
returns-then-byte-ne-SHARED c =
    let fs = c.self.inside.fingerprints.items in
    controls_kept c.self.inside.bytes.items fs c.self.invariant c.args.self.now c.self.view_is c.args.cell c.byte_of-byte.result
    ∙ ap (slice_set c.args.self.now c.args.cell) (control_of_own c.byte_of-byte.result (slice_index fs c.args.cell) c.args.fingerprint c.byte_of-byte.ensures
    (λ e. c.if-byte-ne-SHARED.true (c.byte_of-byte.ensures ∙ e)))

pub returns : goal.returns
returns c =
    controls_filled c.self.inside.bytes.items c.self.inside.fingerprints.items c.self.invariant c.args.self.now c.self.view_is c.args.cell c.byte_of-byte.result c.args.fingerprint
    ∙ ap (slice_set c.args.self.now c.args.cell) (control_shared c.byte_of-byte.result c.args.fingerprint c.if-byte-ne-SHARED.false)
