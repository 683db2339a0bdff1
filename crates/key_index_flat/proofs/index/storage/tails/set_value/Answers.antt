use Rattle.std.proofs.Common.{rules, ◌≡◌, ◌-◌, length, slice_set, ap, ◌∙◌}
use Rattle.key_index_flat.specs.Storage.{index_in}
use Rattle.key_index_flat.specs.Values.{in_order}
use Rattle.key_index_flat.proofs.content.InOrderLemmas.{slice_set-in_order}
use Rattle.key_index_flat.proofs.index.storage.tails.set_value.Goals as goal

pub returns : goal.returns
returns g c =
    let first = g.E.End.FIRST in
    let old = c.args.values.now.items in
    let at : slice_set old c.index_of-index.result c.args.value ≡ slice_set old (index_in first (length old - 1) c.args.place) c.args.value = search rules in
    ap (in_order first) at ∙ slice_set-in_order first old c.args.place c.args.value c.requires
