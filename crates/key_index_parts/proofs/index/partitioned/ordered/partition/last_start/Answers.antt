use Rattle.std.proofs.Common.{◌-◌, length, sym, ap, ◌∙◌, arith}
use Rattle.std.proofs.lemmas.Slice.{between_from_start}
use Rattle.std.specs.Ordering.{is_lt}
use Rattle.key_index_parts.specs.Pairs.{count_below}
use Rattle.key_index_parts.proofs.pairs.SearchLemmas.{lower_partitions, length-filter_above, length-filter_at_most, count_before, last_uncounted}
use Rattle.key_index_parts.proofs.index.partitioned.ordered.partition.last_start.Goals as goal
use Rattle.key_index_parts.proofs.index.partitioned.ordered.partition.last_start.Goals.{then-end-eq0-via-then-end-eq0, then-end-eq0-via-else-end-eq0+then-is_lt}

pub returns-then-end-eq0-clause-count : goal.returns-then-end-eq0-clause-count
returns-then-end-eq0-clause-count g c =
    let keys = c.args.keys.now in
    let last = c.args.last.now in
    let most = last_uncounted g.met.K.Ord.total keys last c.requires.sorted c.requires.last in
    elim c.then-end-eq0.branch [
      | then-end-eq0-via-then-end-eq0 w ↦ omega (arith, most, w.if-end-eq0.true)
      | then-end-eq0-via-else-end-eq0+then-is_lt w ↦
          let test = ap (λ x. is_lt (g.K.Ord.cmp x last)) (sym w.index-keys-end.is) ∙ sym (w.is_lt.ensures ∙ ap is_lt w.cmp.ensures) ∙ w.if-is_lt.true in
          let least = length-filter_above (λ x. is_lt (g.K.Ord.cmp x last)) keys (length keys - 1 - 1) w.index-keys-end.result
          (lower_partitions g.met.K.Ord.total keys last c.requires.sorted) (omega (arith, w.if-end-eq0.false)) test in
          omega (arith, most, least, w.if-end-eq0.false)
    ]

pub returns-clause-count : goal.returns-clause-count
returns-clause-count g c =
    let keys = c.args.keys.now in
    let last = c.args.last.now in
    let place = length keys - 1 - 1 in
    let parted = lower_partitions g.met.K.Ord.total keys last c.requires.sorted in
    let test = ap (λ x. is_lt (g.K.Ord.cmp x last)) (sym c.index-keys-end.is) ∙ sym (c.is_lt.ensures ∙ ap is_lt c.cmp.ensures) ∙ c.if-is_lt.false in
    let most = length-filter_at_most (λ x. is_lt (g.K.Ord.cmp x last)) keys place c.index-keys-end.result parted (omega (arith, c.if-end-eq0.false)) test in
    c.lower_bound.ensures.count ∙ ap (λ l. count_below g.K.Ord.cmp l last) (c.part.ensures ∙ between_from_start keys place)
    ∙ count_before (λ x. is_lt (g.K.Ord.cmp x last)) keys place parted most
