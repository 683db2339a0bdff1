use Rattle.std.proofs.Common.{◌≡◌, ◌+◌, ◌-◌, length, ap, sym, ◌∙◌, arith}
use Rattle.key_index_flat.specs.Content.{item_count}
use Rattle.key_index_parts.specs.Gathered.{gathered_from, entries_of}
use Rattle.key_index_parts.proofs.buckets.EntriesLemmas.{item_count-entries_of_from}
use Rattle.key_index_parts.proofs.buckets.InstallLemmas.{is_between-bounds}
use Rattle.key_index_parts.proofs.index.partitioned.ordered.RangeIndex+T+V+P.inline_len.Goals as goal

pub returns-clause-entries : goal.returns-clause-entries
returns-clause-entries g c =
    let range = c.args.self.now in
    let buckets = range.storage.buckets in
    let at = is_between-bounds range.offset (range.offset + length buckets) c.args.partition c.requires in
    let own = c.args.partition - range.offset in
    let same : range.offset + own ≡ c.args.partition = omega (arith, at.0) in
    c.inline_len.ensures.entries
    ∙ sym (ap (λ m. item_count (entries_of (gathered_from range.offset buckets) m)) (sym same) ∙ item_count-entries_of_from range.offset buckets own)
