use Rattle.std.proofs.Common.{rules, ◌≡◌, ◌-◌, ◌<◌, length, remove, ap, ◌∙◌}
use Rattle.key_index_flat.specs.Storage.{index_in}
use Rattle.key_index_flat.specs.Values.{in_order}
use Rattle.key_index_flat.proofs.content.InOrderLemmas.{remove-in_order}
use Rattle.key_index_flat.proofs.index.storage.tails.remove_value.Goals as goal

pub returns-clause-at : goal.returns-clause-at
returns-clause-at g c =
    let first = g.E.End.FIRST in
    let old = c.args.values.now.items in
    let at : c.remove-value.new.self.items ≡ remove old (index_in first (length old - 1) c.args.place) = search rules in
    let within : c.args.place < length old = search rules in
    ap (in_order first) at ∙ remove-in_order first old c.args.place within
