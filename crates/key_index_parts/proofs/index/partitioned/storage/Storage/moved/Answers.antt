use Rattle.std.proofs.Common.{map, sym, ◌∙◌}
use Rattle.key_index_parts.proofs.standing.PaidLemmas.{entries_sum}
use Rattle.key_index_parts.proofs.buckets.GatheredLemmas.{item_count-gathered_from}
use Rattle.key_index_parts.proofs.index.partitioned.storage.Storage.moved.Goals as goal

pub returns-clause-entries : goal.returns-clause-entries
returns-clause-entries g c =
    let xs = c.self.inside.buckets.items in
    rw (← c.self.view_is) (entries_sum g.X.Contents.content g.X.Contents.spilled xs ∙ sym (item_count-gathered_from 0 (map g.X.Contents.content xs)))

pub returns-clause-bound : goal.returns-clause-bound
returns-clause-bound g c = rw (← c.self.view_is) c.self.inside.within
