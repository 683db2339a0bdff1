use Rattle.std.proofs.Common.{◌≡◌, ◌<◌, slice_index, length, replicate, false, sym, ap, subst, ◌∙◌, arith}
use Rattle.std.specs.Map.{lookup}
use Rattle.core.specs.Mem.Slots.{slots_items, slots_filled, slots_len}
use Rattle.key_index_map.specs.Table.{pairs}
use Rattle.key_index_map.proofs.Moving.{all_emptied, skipped, went, key_is_new, has_room, none_are_left, all_counted}
use Rattle.key_index_map.proofs.table.Table.move_into.Given.{Over}
use Rattle.key_index_map.proofs.table.Table.move_into.Goals as goal
use Rattle.key_index_map.proofs.table.Table.move_into.Goals.{After-at_in-tag}

below : (g : Over) (c : After-at_in-tag g) → c.loop-cell-2.cell < length (slots_items c.loop-cell.row)
below g c = omega (arith, c.loop-cell-2-test.true, c.loop-cell-2.invariant.6, c.loop-cell-2.row.ok.0, ap length c.loop-cell-2.invariant.0.same)

tag_read : (g : Over) (c : After-at_in-tag g) → slice_index c.self.inside.tags c.loop-cell-2.cell ≡ c.at_in-tag.result
tag_read g c = sym c.at_in-tag.ensures

pub loop-cell-2-preserved-then-tag-lt-LEAST : goal.loop-cell-2-preserved-then-tag-lt-LEAST
loop-cell-2-preserved-then-tag-lt-LEAST g c =
    let inv = c.loop-cell-2.invariant in (
      skipped g.met.K.Eq.laws c.self.inside.tags (slots_items c.loop-cell.row) (slots_items c.loop-cell-2.row) (slots_filled c.loop-cell-2.row) c.loop-cell-2.cell (pairs c.loop-cell-2.new)
          c.args.new.now.spare c.loop-cell-2.new.spare c.loop-cell-2.invariant.0 (below g (goal.at.loop-cell-2-preserved-then-tag-lt-LEAST g c).After-at_in-tag) (omega (arith, tag_read g (goal.at.loop-cell-2-preserved-then-tag-lt-LEAST g c).After-at_in-tag, c.if-tag-lt-LEAST.true)),
      inv.1,
      inv.2,
      omega (arith, inv.3),
      omega (arith, c.loop-cell-2-test.true),
      inv.5,
      inv.6,
      inv.7,
      inv.8,
    )

pub put-requires-clause-absent : goal.put-requires-clause-absent
put-requires-clause-absent g c =
    key_is_new g.met.K.Eq.laws c.self.inside.tags (slots_items c.loop-cell.row) (slots_items c.loop-cell-2.row) (slots_filled c.loop-cell-2.row) c.loop-cell-2.cell (pairs c.loop-cell-2.new)
    c.args.new.now.spare c.loop-cell-2.new.spare c.loop-cell-2.invariant.0 c.take-pair.result c.take-pair.ensures.value (below g (goal.at.put-requires-clause-absent g c).After-at_in-tag) (omega (arith, tag_read g (goal.at.put-requires-clause-absent g c).After-at_in-tag, c.if-tag-lt-LEAST.false))

pub put-requires-clause-room : goal.put-requires-clause-room
put-requires-clause-room g c =
    has_room g.met.K.Eq.laws c.self.inside.tags (slots_items c.loop-cell.row) (slots_items c.loop-cell-2.row) (slots_filled c.loop-cell-2.row) c.loop-cell-2.cell (pairs c.loop-cell-2.new)
    c.args.new.now.spare c.loop-cell-2.new.spare c.loop-cell-2.invariant.0 c.take-pair.result c.take-pair.ensures.value (below g (goal.at.put-requires-clause-room g c).After-at_in-tag) (omega (arith, tag_read g (goal.at.put-requires-clause-room g c).After-at_in-tag, c.if-tag-lt-LEAST.false))

pub loop-cell-2-preserved : goal.loop-cell-2-preserved
loop-cell-2-preserved g c =
    let inv = c.loop-cell-2.invariant in
    let same = c.take-pair.ensures.places in (
      went g.met.K.Eq.laws c.self.inside.tags (slots_items c.loop-cell.row) (slots_items c.loop-cell-2.row) (slots_filled c.loop-cell-2.row) c.loop-cell-2.cell (pairs c.loop-cell-2.new)
          c.args.new.now.spare c.loop-cell-2.new.spare c.loop-cell-2.invariant.0 c.take-pair.result c.take-pair.ensures.value (below g (goal.at.loop-cell-2-preserved g c).After-at_in-tag) (omega (arith, tag_read g (goal.at.loop-cell-2-preserved g c).After-at_in-tag, c.if-tag-lt-LEAST.false)) (pairs c.put.new.self)
          (slots_items c.take-pair.new.self) (slots_filled c.take-pair.new.self) c.put.new.self.spare c.put.ensures.updates c.put.ensures.len c.take-pair.ensures.items
          (omega (arith, c.loop-cell-2-test.true, inv.6, c.loop-cell-2.row.ok.1)) c.take-pair.ensures.filled c.put.ensures.room,
      inv.1 ∙ sym same.start,
      inv.2 ∙ sym same.count,
      omega (arith, inv.3),
      omega (arith, c.loop-cell-2-test.true),
      inv.5,
      omega (arith, inv.6, same.count),
      λ less. inv.7 (omega (arith, less, same.count)),
      omega (arith, inv.8, same.count),
    )

pub returns-clause-values : goal.returns-clause-values
returns-clause-values g c = λ q.
    none_are_left g.met.K.Eq.laws c.self.inside.tags (slots_items c.self.inside.row) (slots_items c.loop-cell.row) (slots_filled c.loop-cell.row) c.loop-cell.cell (pairs c.loop-cell.new)
    c.args.new.now.spare c.loop-cell.new.spare c.loop-cell.invariant.0 (omega (arith, c.loop-cell-test.false, c.len.ensures, c.loop-cell.row.ok.0, ap length c.loop-cell.invariant.0.same)) q
    ∙ ap (λ x. lookup (g.K.PartialEq.eq q) (pairs x)) c.self.view_is

pub returns-clause-len : goal.returns-clause-len
returns-clause-len g c =
    all_counted g.met.K.Eq.laws c.self.inside.tags (slots_items c.self.inside.row) (slots_items c.loop-cell.row) (slots_filled c.loop-cell.row) c.loop-cell.cell (pairs c.loop-cell.new)
    c.args.new.now.spare c.loop-cell.new.spare c.loop-cell.invariant.0 (omega (arith, c.loop-cell-test.false, c.len.ensures, c.loop-cell.row.ok.0, ap length c.loop-cell.invariant.0.same))
    ∙ ap (λ x. length (pairs x)) c.self.view_is

pub release_emptied-requires-clause-empty : goal.release_emptied-requires-clause-empty
release_emptied-requires-clause-empty g c =
    let row = c.loop-cell.row in
    subst (λ r. slots_filled r ≡ replicate (slots_len r) false) (sym c.into_slots.ensures)
    (all_emptied c.self.inside.tags (slots_items c.self.inside.row) (slots_filled row) c.loop-cell.cell c.loop-cell.invariant.0.emptied (slots_len row) row.ok.1 (omega (arith, c.loop-cell-test.false, c.len.ensures)))
