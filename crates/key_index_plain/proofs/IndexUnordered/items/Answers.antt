use Rattle.std.proofs.Common.{ap, sym, ◌∙◌}
use Rattle.key_index_flat.specs.Content.{item_count}
use Rattle.key_index_plain.specs.Entries.{listed}
use Rattle.key_index_plain.proofs.EntryLemmas.{content_of-listed}
use Rattle.key_index_plain.proofs.IndexUnordered.items.Goals as goal

pub returns : goal.returns
returns g c =
    c.count_values.ensures ∙ ap (λ es. item_count (listed es)) c.as_slice.ensures.value
    ∙ ap (λ l. item_count l) (sym (content_of-listed g.T.Key.Ord.cmp c.args.self.now.entries.items c.args.self.now.lawful))
