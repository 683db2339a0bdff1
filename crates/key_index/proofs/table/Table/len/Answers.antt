use Rattle.std.proofs.Common.{subst, sym}
use Rattle.key_index.specs.Table.{HasSize, Stored}
use Rattle.key_index.proofs.tables.TableCopies.{files_size}
use Rattle.key_index.proofs.table.Table.len.Goals as goal

pub returns-clause-size : goal.returns-clause-size
returns-clause-size c = λ m s.
    subst (HasSize m) (sym c.self.invariant.counted)
    (files_size c.self.inside.controls c.self.inside.positions.items m (subst (λ t. Stored t m) (sym c.self.view_is) s))
