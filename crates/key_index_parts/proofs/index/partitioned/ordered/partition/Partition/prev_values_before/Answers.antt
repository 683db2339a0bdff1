use Rattle.std.proofs.Common.{ap, ◌∙◌}
use Rattle.std.specs.List.{zip, slice_range}
use Rattle.key_index_flat.specs.Neighbours.{entries_below, last_list}
use Rattle.key_index_parts.specs.Pairs.{count_below, grouped}
use Rattle.key_index_parts.proofs.pairs.EndLemmas.{below_is}
use Rattle.key_index_parts.proofs.index.partitioned.ordered.partition.Partition.prev_values_before.Goals as goal

pub returns : goal.returns
returns g c =
    let cmp = g.K.Ord.cmp in
    let end = c.lower_bound-end.result in
    let keys = c.part.ensures ∙ ap (λ l. slice_range l 0 end) c.as_slice-keys.ensures.value in
    let values = c.part-2.ensures ∙ ap (λ l. slice_range l 0 end) c.as_slice-values.ensures.value in
    let count = c.lower_bound-end.ensures.count ∙ ap (λ l. count_below cmp l c.args.key.now) c.as_slice-keys.ensures.value in
    c.last_run.ensures ∙ (λ i. last_list (grouped cmp (zip (keys i) (values i))))
    ∙ ap last_list (below_is g.met.K.Ord.total c.self.invariant c.args.key.now end count)
    ∙ ap (λ s. last_list (entries_below cmp (grouped cmp s.pairs) c.args.key.now)) c.self.view_is
