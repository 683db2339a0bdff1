use Rattle.std.proofs.Common.{length, ap, ◌∙◌}
use Rattle.std.specs.List.{zip, slice_range}
use Rattle.key_index_flat.specs.Neighbours.{entries_above, first_entry}
use Rattle.key_index_parts.specs.Pairs.{count_upto, grouped}
use Rattle.key_index_parts.proofs.pairs.EndLemmas.{above_is}
use Rattle.key_index_parts.proofs.index.partitioned.ordered.partition.Partition.next_entry_after.Goals as goal

pub returns : goal.returns
returns g c =
    let cmp = g.K.Ord.cmp in
    let start = c.upper_bound-start.result in
    let keys = c.part.ensures ∙ ap (λ l. slice_range l start (length l)) c.as_slice-keys.ensures.value in
    let values = c.part-2.ensures ∙ ap (λ l. slice_range l start (length l)) c.as_slice-values.ensures.value in
    let count = c.upper_bound-start.ensures.count ∙ ap (λ l. count_upto cmp l c.args.key.now) c.as_slice-keys.ensures.value in
    c.first_run.ensures ∙ (λ i. first_entry (grouped cmp (zip (keys i) (values i))))
    ∙ ap first_entry (above_is g.met.K.Ord.total c.self.invariant c.args.key.now start count)
    ∙ ap (λ s. first_entry (entries_above cmp (grouped cmp s.pairs) c.args.key.now)) c.self.view_is
