use Rattle.std.proofs.Common.{rules, ◌≡◌, ◌<◌, ◌∷◌, is_some, true, length, subst, sym, ap, ◌∙◌}
use Rattle.key_index_flat.specs.Storage.{list_of}
use Rattle.key_index_flat.specs.Values.{in_order}
use Rattle.key_index_flat.proofs.content.InOrderLemmas.{popped_first, removed_first}
use Rattle.key_index_flat.proofs.index.storage.tails.remove_first.Goals as goal

pub returns-then-is_first-clause-values : goal.returns-then-is_first-clause-values
returns-then-is_first-clause-values g c =
    let old = c.args.values.now.items in
    let some : 0 < length old → is_some c.pop.result ≡ true = λ held. c.pop.ensures.variant.1 (search rules) in
    subst (λ first. list_of c.pop.result (in_order first c.pop.new.self.items) ≡ in_order first old) (sym c.if-is_first.true ∙ c.is_first.ensures)
    (popped_first old c.pop.new.self.items c.pop.result c.pop.ensures.items some)

pub returns-clause-values : goal.returns-clause-values
returns-clause-values g c =
    let old = c.args.values.now.items in
    let held : 0 < length old = search rules in
    subst (λ first. c.remove.result ∷ in_order first c.remove.new.self.items ≡ in_order first old) (sym c.if-is_first.false ∙ c.is_first.ensures)
    (ap (λ l. c.remove.result ∷ l) c.remove.ensures.items ∙ removed_first old c.remove.result held c.remove.ensures.value)
