use Rattle.std.proofs.Common.{◌<◌, ◌==◌, length, slice_index, subst, sym, ap, ◌∙◌}
use Rattle.std.specs.List.{All, find}
use Rattle.std.proofs.lemmas.List.Elements.{All-tail}
use Rattle.key_index.proofs.tables.TableMaps.{places_within, find_beyond}
use Rattle.key_index.proofs.table.cell_of.Goals as goal

pub loop-cell-init : goal.loop-cell-init
loop-cell-init c = record {
  same = ap (find (λ i. slice_index c.args.positions.now i == c.args.position)) c.new-places.ensures;
  within = subst (λ l. All (λ i. i < length c.args.positions.now) l) (sym c.new-places.ensures)
      (places_within c.args.controls.now c.args.hash (length c.args.positions.now) c.requires.sized);
}

pub loop-cell-preserved : goal.loop-cell-preserved
loop-cell-preserved c =
    let more = c.in-Some.ensures in
    record {
      same = sym (find_beyond (slice_index c.args.positions.now) c.args.position c.in-Some.cell c.next.new.self c.if-positions-cell.false)
          ∙ ap (find (λ i. slice_index c.args.positions.now i == c.args.position)) (sym more) ∙ c.loop-cell.invariant.same;
      within = All-tail (λ i. i < length c.args.positions.now) c.in-Some.cell c.next.new.self
          (subst (λ l. All (λ i. i < length c.args.positions.now) l) more c.loop-cell.invariant.within);
    }
