use Rattle.std.proofs.Common.{arith}
use Rattle.key_index_parts.proofs.bitmap.WordLemmas.{none_past, none_in_rest, lowest_is_first, within_word}
use Rattle.key_index_parts.proofs.index.partitioned.bitmap.U64Places.first_from.Goals as goal

pub returns-then-start-ge64-clause-first : goal.returns-then-start-ge64-clause-first
returns-then-start-ge64-clause-first c = λ p from. none_past c.args.self.now p (omega arith) (omega arith)

pub returns-then-rest-eq0-clause-first : goal.returns-then-rest-eq0-clause-first
returns-then-rest-eq0-clause-first c = λ p from. none_in_rest c.args.self.now c.args.start p c.if-rest-eq0.true from

pub returns-clause-first : goal.returns-clause-first
returns-clause-first c = lowest_is_first c.args.self.now c.args.start (omega arith) c.if-rest-eq0.false

pub returns-clause-within : goal.returns-clause-within
returns-clause-within c =
    within_word c.args.self.now _ (omega arith) (lowest_is_first c.args.self.now c.args.start (omega arith) c.if-rest-eq0.false).here
