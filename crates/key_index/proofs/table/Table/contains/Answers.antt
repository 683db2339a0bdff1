use Rattle.std.proofs.Common.{slice_index}
use Rattle.key_index.specs.Table.{places}
use Rattle.key_index.proofs.tables.TableMaps.{find_contains}
use Rattle.key_index.proofs.table.Table.contains.Goals as goal

pub returns : goal.returns
returns c =
    rw (← c.self.view_is, c.is_some.ensures)
    (find_contains (slice_index c.self.inside.positions.items) c.args.position (places c.self.inside.controls c.args.hash) c.cell_of.result
    (rw (c.deref.ensures.value) at c.cell_of.ensures))
