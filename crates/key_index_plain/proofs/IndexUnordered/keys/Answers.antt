use Rattle.std.proofs.Common.{length, ap, sym, ◌∙◌}
use Rattle.key_index_plain.proofs.EntryLemmas.{length-listed, content_of-listed}
use Rattle.key_index_plain.proofs.IndexUnordered.keys.Goals as goal

pub returns : goal.returns
returns g c =
    c.len.ensures ∙ c.args.self.now.entries.ok.0 ∙ sym (length-listed c.args.self.now.entries.items)
    ∙ ap (λ l. length l) (sym (content_of-listed g.T.Key.Ord.cmp c.args.self.now.entries.items c.args.self.now.lawful))
