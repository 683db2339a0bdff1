use Rattle.std.proofs.Common.{sym, subst}
use Rattle.key_index_c.specs.Any.{any_positions, hashed_slot}
use Rattle.key_index_c.specs.Positions.{IsInserted, by_position}
use Rattle.key_index_c.proofs.any.Any.insert_at.Goals as goal

pub returns-in-ImmutableSeeded-clause-inserted : goal.returns-in-ImmutableSeeded-clause-inserted
returns-in-ImmutableSeeded-clause-inserted c = λ ok.
    subst (λ any. IsInserted (any_positions any) c.args.key.now c.args.position (by_position (λ translator. hashed_slot translator.0) c.insert-in-ImmutableSeeded.new.index))
    (sym c.in-ImmutableSeeded.is) (c.insert-in-ImmutableSeeded.ensures.inserted ok)
