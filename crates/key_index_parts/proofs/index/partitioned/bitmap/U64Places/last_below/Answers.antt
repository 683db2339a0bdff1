use Rattle.std.proofs.Common.{sym, ◌∙◌, arith}
use Rattle.key_index_parts.proofs.bitmap.WordLemmas.{none_in_low, highest_is_last}
use Rattle.key_index_parts.proofs.index.partitioned.bitmap.U64Places.last_below.Goals as goal

pub returns-then-rest-eq0-clause-last : goal.returns-then-rest-eq0-clause-last
returns-then-rest-eq0-clause-last c = λ p below. none_in_low c.args.self.now c.args.end p (sym c.low_bits-rest.ensures ∙ c.if-rest-eq0.true) below

pub returns-clause-last : goal.returns-clause-last
returns-clause-last c = let low = c.low_bits-rest.ensures in
    highest_is_last c.args.self.now c.args.end c.ilog2.result (omega arith) (omega arith)
