use Rattle.std.proofs.Common.{◌≤◌, ◌+◌, List, length, ap, ◌∙◌, arith}
use Rattle.std.proofs.lemmas.List.{take_rest}
use Rattle.std.specs.Ordering.{is_lt}
use Rattle.key_index_parts.specs.Pairs.{count_below}
use Rattle.key_index_parts.proofs.pairs.SearchLemmas.{lower_partitions, count_behind, count_within}
use Rattle.key_index_parts.proofs.index.partitioned.ordered.partition.bound_near.Given.{Over}
use Rattle.key_index_parts.proofs.index.partitioned.ordered.partition.bound_near.Goals as goal
use Rattle.key_index_parts.proofs.index.partitioned.ordered.partition.bound_near.Goals.{else-guess-gt0-via-then-guess-gt0+else-not-is_below, else-guess-gt0-via-else-guess-gt0}

most : (g : Over) (ks : List g.row.K.Denot) (k : g.row.K.Denot) → count_below g.K.Ord.cmp ks k ≤ length ks
most g ks k = count_within (λ x. is_lt (g.K.Ord.cmp x k)) ks

pub returns-then-not-is_below-2-clause-within : goal.returns-then-not-is_below-2-clause-within
returns-then-not-is_below-2-clause-within g c =
    elim c.else-guess-gt0.branch [
      | else-guess-gt0-via-then-guess-gt0+else-not-is_below w ↦ omega (arith, most g c.args.keys.now c.args.key.now, w.is_below.ensures.0 w.if-not-is_below.false, w.if-guess-gt0.true)
      | else-guess-gt0-via-else-guess-gt0 w ↦ omega (arith, w.if-guess-gt0.false)
    ]

pub part-requires-clause-start : goal.part-requires-clause-start
part-requires-clause-start g c = omega (arith, most g c.args.keys.now c.args.key.now, c.is_below-2.ensures.0 c.if-not-is_below-2.false)

pub overflow_add-result : goal.overflow_add-result
overflow_add-result g c = omega (arith, most g c.args.keys.now c.args.key.now, c.is_below-2.ensures.0 c.if-not-is_below-2.false)

pub overflow_add-guess : goal.overflow_add-guess
overflow_add-guess g c = overflow_add-result g c

pub returns-clause-count : goal.returns-clause-count
returns-clause-count g c =
    let cmp = g.K.Ord.cmp in
    let keys = c.args.keys.now in
    let key = c.args.key.now in
    let from = c.args.guess + 1 in
    ap (λ n. from + n) (c.lower_bound-2.ensures.count ∙ ap (λ l. count_below cmp l key) (c.part.ensures ∙ take_rest keys from))
    ∙ count_behind (λ x. is_lt (cmp x key)) keys from (lower_partitions g.met.K.Ord.total keys key c.requires) (omega (arith, c.is_below-2.ensures.0 c.if-not-is_below-2.false))

pub returns-clause-within : goal.returns-clause-within
returns-clause-within g c = omega (arith, most g c.args.keys.now c.args.key.now, returns-clause-count g c)

pub overflow_add-result-2 : goal.overflow_add-result-2
overflow_add-result-2 g c = omega (arith, returns-clause-within g c)
