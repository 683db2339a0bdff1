use Rattle.std.proofs.Common.{◌≡◌, ℕ, Option, length}
use Rattle.key_index.specs.Table.{Files, Resolves}
use Rattle.key_index.proofs.tables.TableMaps.{Keeps}
use Rattle.key_index.proofs.tables.TableCopies.{Copied}
use Rattle.key_index.proofs.table.put_all.Given as goal

abbrev pub invariant-loop-cell : goal.invariant-loop-cell
invariant-loop-cell g l = record {
  long : length l.new_controls ≡ length l.fn.new_controls;
  copied : Copied l.controls l.positions l.new_controls l.new_positions.items l.cell;
  kept : (m : ℕ → Option ℕ) → Files l.controls l.positions m
      → Resolves (goal.F-pre g l.resolver) (goal.F-post g l.resolver) m → Keeps l.new_controls l.new_positions.items m;
}
