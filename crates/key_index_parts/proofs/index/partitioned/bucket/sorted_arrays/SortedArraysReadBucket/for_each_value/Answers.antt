use Rattle.std.proofs.Common.{of_calls, length, ap, refl, subst, sym, ◌∙◌, arith}
use Rattle.std.proofs.lemmas.Fn.{called_at}
use Rattle.std.specs.Fn.{CalledAt}
use Rattle.std.specs.Map.{keys_of}
use Rattle.key_index_flat.specs.Values.{values_of}
use Rattle.key_index_parts.proofs.pairs.DrainLemmas.{values_of-grouped}
use Rattle.key_index_parts.proofs.pairs.SearchLemmas.{Rises-IsSorted}
use Rattle.key_index_parts.proofs.closures.VisitLemmas.{Continues, Continues-start, Continues-visited, VisitsEach-ended, values_flat}
use Rattle.key_index_parts.specs.Pairs.{grouped}
use Rattle.key_index_parts.proofs.index.partitioned.bucket.sorted_arrays.SortedArraysReadBucket.for_each_value.Goals as goal

pub loop-value-init : goal.loop-value-init
loop-value-init g c =
    let pairs = c.args.self.now.pairs.pairs in
    let values = values_of (grouped g.T.Key.Ord.cmp pairs) in
    let up = Rises-IsSorted g.met.T.Key.Ord.total (keys_of pairs) c.values_iter.ensures.sorted in (
      c.requires,
      subst (λ l. Continues (CalledAt g.F.FnMut) c.args.visit.now values c.args.visit.now l)
          (values_flat (grouped g.T.Key.Ord.cmp pairs) ∙ values_of-grouped g.met.T.Key.Ord.total pairs up ∙ sym c.values_iter.ensures.values ∙ sym c.as_slice-rest.ensures.value)
          (Continues-start (CalledAt g.F.FnMut) c.args.visit.now values),
    )

pub loop-value-smaller : goal.loop-value-smaller
loop-value-smaller g c = let e = ap (λ l. length l) c.in-Some.ensures.cases.0 in omega (arith, e)

pub loop-value-preserved : goal.loop-value-preserved
loop-value-preserved g c =
    let values = values_of (grouped g.T.Key.Ord.cmp c.args.self.now.pairs.pairs) in
    let ask = CalledAt g.F.FnMut in
    let at = c.loop-value.visit in (
      search of_calls,
      Continues-visited ask c.args.visit.now at c.visit.new.self values c.in-Some.value.now c.in-Some.behind.now
          (subst (λ l. Continues ask c.args.visit.now values at l) c.in-Some.ensures.cases.0 c.loop-value.invariant.1) (called_at g.F.FnMut c.visit.ensures refl),
    )

pub returns-clause-visits : goal.returns-clause-visits
returns-clause-visits g c =
    let values = values_of (grouped g.T.Key.Ord.cmp c.args.self.now.pairs.pairs) in
    VisitsEach-ended (CalledAt g.F.FnMut) c.args.visit.now c.loop-value.visit values c.loop-value.rest.now c.in_default.ensures.cases c.loop-value.invariant.1
