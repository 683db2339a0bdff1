use Rattle.std.proofs.Common.{sym, ◌∙◌, arith}
use Rattle.key_index_parts.proofs.bitmap.WordLemmas.{has_set_bit, set_bit_elsewhere, has_cleared_bit, cleared_bit_elsewhere}
use Rattle.key_index_parts.proofs.index.partitioned.bitmap.U64Places.set.Goals as goal

pub returns-then-fills-clause-here : goal.returns-then-fills-clause-here
returns-then-fills-clause-here c = has_set_bit c.args.self.now c.args.place c.requires ∙ sym c.if-fills.true

pub returns-then-fills-clause-elsewhere : goal.returns-then-fills-clause-elsewhere
returns-then-fills-clause-elsewhere c = λ p apart. set_bit_elsewhere c.args.self.now c.args.place p c.requires apart

pub returns-else-fills-clause-here : goal.returns-else-fills-clause-here
returns-else-fills-clause-here c = has_cleared_bit c.args.self.now c.args.place c.requires ∙ sym c.if-fills.false

pub returns-else-fills-clause-elsewhere : goal.returns-else-fills-clause-elsewhere
returns-else-fills-clause-elsewhere c = λ p apart. cleared_bit_elsewhere c.args.self.now c.args.place p (omega arith) c.requires apart
