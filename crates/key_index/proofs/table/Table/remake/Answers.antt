use Rattle.std.proofs.Common.{◌≡◌, ◌<◌, ◌+◌, arith, ap, ◌∙◌, length, count_by}
use Rattle.std.proofs.lemmas.List.{length-replicate}
use Rattle.key_index.specs.Table.{is_full}
use Rattle.key_index.proofs.tables.TableMaps.{full_le_used}
use Rattle.key_index.proofs.table.Table.remake.Goals as goal
use Rattle.key_index.proofs.table.Table.remake.Goals.{then-cells-self+in-Some, else-cells-self}

pub returns-clause-room : goal.returns-clause-room
returns-clause-room g c =
    let used = c.put_all.ensures.used ∙ ap (count_by is_full) c.as_slice.ensures in
    let long : length c.put_all.new.new_controls ≡ c.if-cells-self.cells = c.put_all.ensures.long ∙ ap length c.in-Ok.ensures.0 ∙ length-replicate c.if-cells-self.cells 0 in
    let count = c.self.invariant.counted in
    let room = c.self.invariant.room in
    let marked = c.self.invariant.marked in
    let fewer = full_le_used c.self.inside.controls in
    let cells : c.len-cells.result ≡ length c.self.inside.controls = c.len-cells.ensures in
    let enough : c.self.inside.len + 1 < c.if-cells-self.cells =
    elim c.if-cells-self.branch [
      | then-cells-self+in-Some w ↦ let more = w.in-Some.ensures.1 in omega (arith, fewer, more, w.cells-is, cells, room, marked, count)
      | else-cells-self w ↦ omega (arith, w.cells-is, w.if-cells-self.false)
    ] in
    omega (arith, used, long, count, enough)
