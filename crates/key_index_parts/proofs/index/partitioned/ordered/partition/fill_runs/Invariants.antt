use Rattle.std.proofs.Common.{◌≡◌, length, map, take, drop}
use Rattle.std.specs.List.{flat_map}
use Rattle.std.specs.Vec.Iter.{into_iter_items}
use Rattle.key_index_flat.specs.Content.{Content}
use Rattle.key_index_parts.specs.Pairs.{list_of, room_of, room_for}
use Rattle.key_index_parts.proofs.index.partitioned.ordered.partition.fill_runs.Given as goal

abbrev pub invariant-loop-place : goal.invariant-loop-place
invariant-loop-place g l = record {
  len : length l.runs.items ≡ length l.initial.runs.items;
  filled : (c : Content g.row.K.Denot g.row.V.Denot) → map room_of l.initial.runs.items ≡ map room_for c
      → flat_map (λ e. e.1) c ≡ into_iter_items l.initial.values → map list_of (take l.place l.runs.items) ≡ take l.place c;
  empty : (c : Content g.row.K.Denot g.row.V.Denot) → map room_of l.initial.runs.items ≡ map room_for c
      → flat_map (λ e. e.1) c ≡ into_iter_items l.initial.values → map room_of (drop l.place l.runs.items) ≡ map room_for (drop l.place c);
  left : (c : Content g.row.K.Denot g.row.V.Denot) → map room_of l.initial.runs.items ≡ map room_for c
      → flat_map (λ e. e.1) c ≡ into_iter_items l.initial.values → into_iter_items l.values ≡ flat_map (λ e. e.1) (drop l.place c);
}
