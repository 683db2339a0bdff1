use Rattle.std.proofs.Common.{ap, ◌∙◌, arith}
use Rattle.key_index_parts.specs.Pairs.{count_below, count_upto}
use Rattle.key_index_parts.proofs.pairs.SearchLemmas.{below_upto}
use Rattle.key_index_parts.proofs.pairs.RunLemmas.{found_by}
use Rattle.key_index_parts.proofs.index.partitioned.ordered.partition.Partition.run_range.Goals as goal

pub run_end-requires-clause-from : goal.run_end-requires-clause-from
run_end-requires-clause-from g c = omega (arith, below_upto g.met.K.Ord.total c.as_slice-keys.result.now c.args.key.now, c.lower_bound-start.ensures.count)

pub returns : goal.returns
returns g c =
    let keys = c.as_slice-keys.ensures.value in
    rw (← c.self.view_is) (found_by g.met.K.Ord.total c.self.invariant c.args.key.now c.lower_bound-start.result c.run_end.result
    (c.lower_bound-start.ensures.count ∙ ap (λ l. count_below g.K.Ord.cmp l c.args.key.now) keys) (c.run_end.ensures.count ∙ ap (λ l. count_upto g.K.Ord.cmp l c.args.key.now) keys))
