use Rattle.std.proofs.Common.{◌<◌, length, subst, sym, ap, ◌∙◌}
use Rattle.std.specs.List.{All}
use Rattle.key_index.specs.Table.{Stored}
use Rattle.key_index.proofs.tables.TableMaps.{places_within, files_candidates}
use Rattle.key_index.proofs.table.Table.candidates.Goals as goal

pub invariant_of-result : goal.invariant_of-result
invariant_of-result c =
    subst (λ l. All (λ i. i < length c.as_slice.result.now) l) (sym c.new.ensures)
    (places_within c.self.inside.controls c.args.hash (length c.as_slice.result.now) (ap length c.as_slice.ensures.value ∙ c.self.invariant.sized))

pub returns-clause-stored : goal.returns-clause-stored
returns-clause-stored c = λ m s.
    rw (c.new.ensures, c.as_slice.ensures.value)
    (files_candidates c.self.inside.controls c.self.inside.positions.items m c.args.hash (subst (λ t. Stored t m) (sym c.self.view_is) s))
