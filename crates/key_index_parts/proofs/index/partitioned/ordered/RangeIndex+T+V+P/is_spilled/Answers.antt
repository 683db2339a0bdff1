use Rattle.std.proofs.Common.{◌≡◌, ◌+◌, ◌-◌, ◌<◌, length, ap, subst, sym, ◌∙◌, arith}
use Rattle.key_index_flat.specs.Content.{item_count}
use Rattle.key_index_parts.specs.Gathered.{gathered_from, entries_of}
use Rattle.key_index_parts.proofs.buckets.EntriesLemmas.{item_count-entries_of_from}
use Rattle.key_index_parts.proofs.buckets.InstallLemmas.{is_between-bounds}
use Rattle.key_index_parts.proofs.index.partitioned.ordered.RangeIndex+T+V+P.is_spilled.Goals as goal

pub returns-clause-filled : goal.returns-clause-filled
returns-clause-filled g c = λ spilled.
    let range = c.args.self.now in
    let buckets = range.storage.buckets in
    let at = is_between-bounds range.offset (range.offset + length buckets) c.args.partition c.requires in
    let own = c.args.partition - range.offset in
    let same : range.offset + own ≡ c.args.partition = omega (arith, at.0) in
    subst (λ n. 0 < n) (sym (ap (λ m. item_count (entries_of (gathered_from range.offset buckets) m)) (sym same) ∙ item_count-entries_of_from range.offset buckets own)) (c.is_spilled.ensures.filled spilled)
