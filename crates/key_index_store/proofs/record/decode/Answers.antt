use Rattle.std.proofs.Common.{ap, ◌∙◌, arith}
use Rattle.key_index_store.specs.Record.{outcome_of, reading}
use Rattle.key_index_store.proofs.RecordLemmas.{IsFound-reading, read_again}
use Rattle.key_index_store.proofs.record.decode.Goals as goal

pub returns-clause-found : goal.returns-clause-found
returns-clause-found c = IsFound-reading c.args.place c.args.bytes.now (outcome_of c.front.result) (λ i. omega (arith, c.type_inv.bytes i)) c.front.ensures

pub returns-clause-only : goal.returns-clause-only
returns-clause-only c = λ r rest fits e. c.front.ensures ∙ ap (reading c.args.place) e ∙ read_again r fits c.args.place rest
