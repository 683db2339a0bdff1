use Rattle.std.proofs.Common.{drop, ap}
use Rattle.std.specs.Option.{option_map}
use Rattle.key_index_store.proofs.HeaderLemmas.{seen_in}
use Rattle.key_index_store.proofs.crashes.open_headed.Goals as goal

pub returns-in-Ok-open-clause-log : goal.returns-in-Ok-open-clause-log
returns-in-Ok-open-clause-log g c = λ new seen.
    let inner = seen_in _ (drop 16 new) (c.in-Ok-open.ensures.read.stays (drop 16 new) (ap (option_map (drop 16)) seen)) in
    (inner.0, c.in-Ok.ensures.read.stays inner.0 inner.1, inner.2)

pub returns-in-Ok-open-clause-crash : goal.returns-in-Ok-open-clause-crash
returns-in-Ok-open-clause-crash g c = λ left may.
    let could = c.in-Ok-open.ensures.read.crash left may in
    (could.0, c.in-Ok.ensures.read.crash could.0 could.1, could.2)
