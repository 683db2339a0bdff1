use Rattle.std.proofs.Common.{length, sym, ap, ◌∙◌, arith}
use Rattle.std.specs.List.{slice_range}
use Rattle.std.specs.Map.{values_of}
use Rattle.key_index_parts.proofs.pairs.ZipLemmas.{values_of-zip}
use Rattle.std.proofs.lemmas.List.{length-map}
use Rattle.key_index_parts.proofs.pairs.RunLemmas.{run_slice}
use Rattle.key_index_parts.proofs.index.partitioned.ordered.partition.Partition.values.Goals as goal

pub part-requires-clause-end : goal.part-requires-clause-end
part-requires-clause-end g c =
    let items = ap length (c.as_slice.ensures.value ∙ sym (values_of-zip _ _ c.self.invariant.sized) ∙ ap (λ s. values_of s.pairs) c.self.view_is) in
    omega (arith, items, length-map c.args.self.now.pairs (λ e. e.1), c.run_range.ensures.within)

pub returns : goal.returns
returns g c =
    let items = c.as_slice.ensures.value ∙ sym (values_of-zip _ _ c.self.invariant.sized) ∙ ap (λ s. values_of s.pairs) c.self.view_is in
    c.part.ensures ∙ ap (λ l. slice_range l c.run_range.result.start c.run_range.result.end) items ∙ run_slice g.met.K.Ord.total c.run_range.ensures.sorted c.run_range.ensures.run
