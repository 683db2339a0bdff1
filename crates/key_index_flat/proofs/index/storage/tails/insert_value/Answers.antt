use Rattle.std.proofs.Common.{rules, ◌≡◌, insert, length, unwrap_or, ap, ◌∙◌}
use Rattle.key_index_flat.specs.Storage.{index_in}
use Rattle.key_index_flat.specs.Values.{in_order}
use Rattle.key_index_flat.proofs.content.InOrderLemmas.{end_within, insert-in_order}
use Rattle.key_index_flat.proofs.index.storage.tails.insert_value.Goals as goal

pub returns-in-Ok-clause-at : goal.returns-in-Ok-clause-at
returns-in-Ok-clause-at g c =
    let first = g.E.End.FIRST in
    let old = c.args.values.now.items in
    let at : c.insert.new.self.items ≡ insert old (index_in first (length old) (unwrap_or c.args.place (length old))) c.args.value = search rules in
    ap (in_order first) at ∙ insert-in_order first old (unwrap_or c.args.place (length old)) c.args.value (end_within c.args.place (length old) c.requires)
