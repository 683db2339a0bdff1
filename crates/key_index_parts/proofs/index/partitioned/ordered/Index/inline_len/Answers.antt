use Rattle.std.proofs.Common.{sym, ◌∙◌}
use Rattle.key_index_parts.proofs.buckets.EntriesLemmas.{item_count-entries_of}
use Rattle.key_index_parts.proofs.index.partitioned.ordered.Index.inline_len.Goals as goal

pub returns-clause-entries : goal.returns-clause-entries
returns-clause-entries g c = c.inline_len.ensures.entries ∙ sym (item_count-entries_of c.args.self.now.storage.buckets c.args.partition)
