use Rattle.std.proofs.Common.{◌+◌, ap, subst, sym, ◌∙◌}
use Rattle.key_index.specs.Table.{Stored, position_count}
use Rattle.key_index.proofs.tables.TableCopies.{put_stored, put_count, put_used}
use Rattle.key_index.proofs.table.Table.place.Goals as goal

pub invariant_of-self-else-empty : goal.invariant_of-self-else-empty
invariant_of-self-else-empty c = put_used _ _ _ _ _ _ _ c.put-empty.ensures c.self.inside.len c.self.inside.used c.self.invariant c.if-empty.false

pub returns-then-empty-clause-stored : goal.returns-then-empty-clause-stored
returns-then-empty-clause-stored c = λ m s none.
    put_stored _ _ _ _ _ _ _ c.put-empty.ensures m c.self.invariant.sized (subst (λ t. Stored t m) (sym c.self.view_is) s) none

pub returns-else-empty-clause-stored : goal.returns-else-empty-clause-stored
returns-else-empty-clause-stored c = λ m s none.
    put_stored _ _ _ _ _ _ _ c.put-empty.ensures m c.self.invariant.sized (subst (λ t. Stored t m) (sym c.self.view_is) s) none

pub returns-else-empty-clause-count : goal.returns-else-empty-clause-count
returns-else-empty-clause-count c = put_count _ _ _ _ _ _ _ c.put-empty.ensures ∙ ap (λ t. position_count t + 1) c.self.view_is
