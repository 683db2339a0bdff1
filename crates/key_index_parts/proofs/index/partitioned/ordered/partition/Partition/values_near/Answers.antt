use Rattle.std.proofs.Common.{sym, ap, ◌∙◌, arith}
use Rattle.std.specs.List.{slice_range}
use Rattle.key_index_parts.specs.Pairs.{count_below, count_upto, run_of}
use Rattle.key_index_parts.proofs.pairs.ZipLemmas.{values_of-zip}
use Rattle.key_index_parts.proofs.pairs.SearchLemmas.{below_upto}
use Rattle.key_index_parts.proofs.pairs.RunLemmas.{found_by, run_slice}
use Rattle.key_index_parts.proofs.index.partitioned.ordered.partition.Partition.values_near.Goals as goal

pub run_end-requires-clause-from : goal.run_end-requires-clause-from
run_end-requires-clause-from g c = omega (arith, below_upto g.met.K.Ord.total c.as_slice-keys.result.now c.args.key.now, c.bound_near-start.ensures.count)

pub part-requires-clause-start : goal.part-requires-clause-start
part-requires-clause-start g c = omega (arith, below_upto g.met.K.Ord.total c.as_slice-keys.result.now c.args.key.now, c.bound_near-start.ensures.count, c.run_end.ensures.count)

pub returns : goal.returns
returns g c =
    let keys = c.as_slice-keys.ensures.value in
    let start = c.bound_near-start.result in
    let end = c.run_end.result in
    let found = found_by g.met.K.Ord.total c.self.invariant c.args.key.now start end
    (c.bound_near-start.ensures.count ∙ ap (λ l. count_below g.K.Ord.cmp l c.args.key.now) keys) (c.run_end.ensures.count ∙ ap (λ l. count_upto g.K.Ord.cmp l c.args.key.now) keys) in
    c.part.ensures ∙ ap (λ l. slice_range l start end) (c.as_slice.ensures.value ∙ sym (values_of-zip _ _ c.self.invariant.sized)) ∙ run_slice g.met.K.Ord.total found.sorted found.run
    ∙ ap (λ s. run_of g.K.Ord.cmp s.pairs c.args.key.now) c.self.view_is
