use Rattle.std.proofs.Common.{◌≡◌, ◌+◌, ◌/◌, List, length, true, false, ap, sym, subst, ◌∙◌, arith}
use Rattle.std.specs.List.Sorted.{IsPartitionedBy, IsPartitionPoint}
use borrow.Author.Rules.{of_calls}
use Rattle.key_index_parts.proofs.pairs.SearchLemmas.{answers_next, count_within, length-filter_above, length-filter_at_most, point_in_part}
use Rattle.key_index_parts.proofs.index.partitioned.ordered.partition.by_halves.Goals as goal
use Rattle.key_index_parts.proofs.index.partitioned.ordered.partition.by_halves.Goals.{then-test, else-test}

pub halves-init : goal.halves-init
halves-init g c = record {
  some = omega arith;
  within = omega arith;
  callable = c.requires.callable;
  near = λ p h _. (h, omega arith, let all = count_within p c.args.keys.now in omega (arith, all));
}

pub halves-preserved : goal.halves-preserved
halves-preserved g c =
    let ks = c.args.keys.now in
    let mid = c.halves.from + c.halves.left / 2 in
    record {
      some = omega arith;
      within = elim c.if-test.branch [ then-test w ↦ omega arith | else-test w ↦ omega arith ];
      callable = search of_calls;
      near = λ p h parted.
          let i = c.halves.invariant.near p h parted in
          let n = answers_next g.P.FnMut _ _ _ _ _ c.test.ensures i.0 in
          let at = ap p (sym c.index-keys-from.is) in
          elim c.if-test.branch [
            | then-test w ↦
                let more = length-filter_above p ks mid c.index-keys-from.result parted (omega arith) (at ∙ (sym n.0 ∙ w.if-test.true)) in
                (n.1, omega (arith, more), omega (arith, i.2))
            | else-test w ↦
                let few = length-filter_at_most p ks mid c.index-keys-from.result parted (omega arith) (at ∙ (sym n.0 ∙ w.if-test.false)) in
                (n.1, omega (arith, i.1), omega (arith, few))
          ];
    }

pub returns-clause-partitioned : goal.returns-clause-partitioned
returns-clause-partitioned g c p h parted =
    let ks = c.args.keys.now in
    let i = c.halves.invariant.near p h parted in
    let is = c.part.ensures in
    let point = c.partition_point.ensures in
    point_in_part p ks c.halves.from c.halves.left c.partition_point.result parted i.1 i.2 (omega (arith, point.bound, ap length is))
    (λ q. subst (λ (xs : List g.row.K.Denot). IsPartitionPoint (λ k. p k ≡ true) (λ k. p k ≡ false) xs c.partition_point.result) is (point.partitioned p i.0 (subst (λ (xs : List g.row.K.Denot). IsPartitionedBy p xs) (sym is) q)))
