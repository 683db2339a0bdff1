use Rattle.std.proofs.Common.{◌≡◌, ◌<◌, ◌==◌, length, slice_index}
use Rattle.std.specs.List.{All, find}
use Rattle.key_index.specs.Table.{places}
use Rattle.key_index.proofs.table.cell_of.Given as goal

abbrev pub invariant-loop-cell : goal.invariant-loop-cell
invariant-loop-cell l = record {
  same : find (λ i. slice_index l.positions i == l.position) l.places ≡ find (λ i. slice_index l.positions i == l.position) (places l.controls l.hash);
  within : All (λ i. i < length l.positions) l.places;
}

abbrev pub decreases-loop-cell : goal.decreases-loop-cell
decreases-loop-cell l = length l.places
