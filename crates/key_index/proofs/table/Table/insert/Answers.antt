use Rattle.std.proofs.Common.{subst, sym}
use Rattle.key_index.specs.Table.{Stored}
use Rattle.key_index.proofs.table.Table.insert.Goals as goal
use Rattle.key_index.proofs.table.Table.insert.Goals.{then-limit-self+in_ok-remake, else-limit-self}

pub returns-clause-stored : goal.returns-clause-stored
returns-clause-stored g c = λ m s none r.
    elim c.if-limit-self.branch [
      | then-limit-self+in_ok-remake w ↦ c.place.ensures.stored m (subst (λ t. Stored t m) (sym w.self-is) (w.in_ok-remake.ensures.stored m s r)) none
      | else-limit-self w ↦ c.place.ensures.stored m (subst (λ t. Stored t m) (sym w.self-is) s) none
    ]
