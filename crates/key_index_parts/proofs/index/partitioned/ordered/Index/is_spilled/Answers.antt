use Rattle.std.proofs.Common.{◌<◌, subst, sym}
use Rattle.key_index_parts.proofs.buckets.EntriesLemmas.{item_count-entries_of}
use Rattle.key_index_parts.proofs.index.partitioned.ordered.Index.is_spilled.Goals as goal

pub returns-clause-filled : goal.returns-clause-filled
returns-clause-filled g c = λ spilled.
    subst (λ n. 0 < n) (sym (item_count-entries_of c.args.self.now.storage.buckets c.args.partition)) (c.is_spilled.ensures.filled spilled)
