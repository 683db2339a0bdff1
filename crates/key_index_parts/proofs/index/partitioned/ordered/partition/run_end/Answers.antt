use Rattle.std.proofs.Common.{◌≤◌, ◌+◌, List, length, ap, ◌∙◌, arith}
use Rattle.std.proofs.lemmas.List.{take_rest}
use Rattle.std.specs.Ordering.{is_le}
use Rattle.key_index_parts.specs.Pairs.{count_upto}
use Rattle.key_index_parts.proofs.pairs.SearchLemmas.{upper_partitions, count_behind, count_within}
use Rattle.key_index_parts.proofs.index.partitioned.ordered.partition.run_end.Given.{Over}
use Rattle.key_index_parts.proofs.index.partitioned.ordered.partition.run_end.Goals as goal

most : (g : Over) (ks : List g.row.K.Denot) (k : g.row.K.Denot) → count_upto g.K.Ord.cmp ks k ≤ length ks
most g ks k = count_within (λ x. is_le (g.K.Ord.cmp x k)) ks

pub returns-then-not-reaches-clause-within : goal.returns-then-not-reaches-clause-within
returns-then-not-reaches-clause-within g c = omega (arith, most g c.args.keys.now c.args.key.now, c.requires.from)

pub overflow_add-from : goal.overflow_add-from
overflow_add-from g c = omega (arith, most g c.args.keys.now c.args.key.now, c.reaches.ensures.0 c.if-not-reaches.false)

pub overflow_add-result : goal.overflow_add-result
overflow_add-result g c = omega (arith, most g c.args.keys.now c.args.key.now, c.reaches.ensures.0 c.if-not-reaches.false)

pub returns-then-not-reaches-2-clause-within : goal.returns-then-not-reaches-2-clause-within
returns-then-not-reaches-2-clause-within g c = omega (arith, most g c.args.keys.now c.args.key.now, c.reaches.ensures.0 c.if-not-reaches.false)

pub part-requires-clause-start : goal.part-requires-clause-start
part-requires-clause-start g c = omega (arith, most g c.args.keys.now c.args.key.now, c.reaches-2.ensures.0 c.if-not-reaches-2.false)

pub overflow_add-result-2 : goal.overflow_add-result-2
overflow_add-result-2 g c = omega (arith, part-requires-clause-start g c)

pub overflow_add-from-2 : goal.overflow_add-from-2
overflow_add-from-2 g c = overflow_add-result-2 g c

pub returns-clause-count : goal.returns-clause-count
returns-clause-count g c =
    let cmp = g.K.Ord.cmp in
    let keys = c.args.keys.now in
    let key = c.args.key.now in
    let from = c.args.from + 2 in
    ap (λ n. from + n) (c.upper_bound.ensures.count ∙ ap (λ l. count_upto cmp l key) (c.part.ensures ∙ take_rest keys from))
    ∙ count_behind (λ x. is_le (cmp x key)) keys from (upper_partitions g.met.K.Ord.total keys key c.requires.sorted) (omega (arith, c.reaches-2.ensures.0 c.if-not-reaches-2.false))

pub returns-clause-within : goal.returns-clause-within
returns-clause-within g c = omega (arith, most g c.args.keys.now c.args.key.now, returns-clause-count g c)

pub overflow_add-result-3 : goal.overflow_add-result-3
overflow_add-result-3 g c = omega (arith, returns-clause-within g c)
