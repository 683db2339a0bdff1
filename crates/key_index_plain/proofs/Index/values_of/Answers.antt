use Rattle.std.proofs.Common.{ap, sym, ◌∙◌}
use Rattle.key_index_flat.specs.Content.{list_at}
use Rattle.key_index_plain.specs.Entries.{listed}
use Rattle.key_index_plain.proofs.EntryLemmas.{content_of-listed}
use Rattle.key_index_plain.proofs.Index.values_of.Goals as goal

pub returns : goal.returns
returns g c =
    c.values_of.ensures ∙ ap (λ es. list_at g.T.Key.Ord.cmp (listed es) c.args.slot) c.as_slice.ensures.value
    ∙ ap (λ l. list_at g.T.Key.Ord.cmp l c.args.slot) (sym (content_of-listed g.T.Key.Ord.cmp c.args.self.now.entries.items c.args.self.now.lawful))
