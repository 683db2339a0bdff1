use Rattle.std.proofs.Common.{ap, sym, ◌∙◌}
use Rattle.key_index_flat.specs.Neighbours.{first_list}
use Rattle.key_index_plain.specs.Entries.{listed}
use Rattle.key_index_plain.proofs.EntryLemmas.{content_of-listed}
use Rattle.key_index_plain.proofs.IndexOrdered.first_translated_key.Goals as goal

pub returns : goal.returns
returns g c =
    c.first.ensures ∙ ap (λ es. first_list (listed es)) c.as_slice.ensures.value
    ∙ ap first_list (sym (content_of-listed g.T.Key.Ord.cmp c.args.self.now.entries.items c.args.self.now.lawful))
