use Rattle.std.proofs.Common.{sym, ◌∙◌}
use Rattle.key_index_flat.specs.Neighbours.{next_list}
use Rattle.key_index_plain.specs.Entries.{listed}
use Rattle.key_index_plain.proofs.EntryLemmas.{content_of-listed}
use Rattle.key_index_plain.proofs.IndexOrdered.next_translated_key.Goals as goal

pub returns : goal.returns
returns g c =
    let cmp = g.T.Key.Ord.cmp in
    c.next.ensures ∙ (λ i. next_list cmp (listed (c.as_slice.ensures.value i)) (c.transform.ensures i))
    ∙ (λ i. next_list cmp (sym (content_of-listed cmp c.args.self.now.entries.items c.args.self.now.lawful) i) (g.T.Translator.translated c.args.self.now.translator c.args.key.now))
