use Rattle.std.proofs.Common.{◌≡◌, ◌⊎◌, sym, ap, subst, ◌∙◌, arith, add-one}
use Rattle.std.specs.Prelude.{IsTrue}
use Rattle.key_index_flat.specs.View.{growth_fault_in}
use Rattle.key_index_c.specs.Calls.{start_of}
use Rattle.key_index_c.specs.Status.{status_of}
use Rattle.key_index_c.proofs.RangeLemmas.{covered-key, next-after_offers}
use Rattle.key_index_c.proofs.any_range.insert_many.Goals as goal

pub returns-then-status-ne-OK-clause-inserted : goal.returns-then-status-ne-OK-clause-inserted
returns-then-status-ne-OK-clause-inserted g c = c.insert-status.ensures.refused c.if-status-ne-OK.true ∙ c.loop-count.invariant.1

pub returns-then-status-ne-OK-clause-refused : goal.returns-then-status-ne-OK-clause-refused
returns-then-status-ne-OK-clause-refused g c = λ ne.
    let had = c.loop-count.invariant in
    let same = covered-key g.R.Key.Ord.cmp g.R.PartitionRange.INSERT_FIRST (g.R.Runs.view c.args.range.now) (g.R.Runs.view c.loop-count.range)
    c.args.keys.now c.args.ends.now c.args.values.now c.loop-count.count c.loop-count.start had.0 had.1 in
    (omega arith, subst IsTrue same (c.insert-status.ensures.covered ne))

pub returns-then-status-ne-OK-clause-status : goal.returns-then-status-ne-OK-clause-status
returns-then-status-ne-OK-clause-status g c =
    let status = c.insert-status.result in
    subst (λ t. (status ≡ 0) ⊎ (status ≡ status_of (growth_fault_in t)))
    (sym (c.insert-status.ensures.refused c.if-status-ne-OK.true)) c.insert-status.ensures.status

pub loop-count-preserved : goal.loop-count-preserved
loop-count-preserved g c =
    let n = c.loop-count.count in let ends = c.args.ends.now in let had = c.loop-count.invariant in
    let ok : c.insert-status.result ≡ 0 = omega (arith, c.if-status-ne-OK.false) in (
      sym (ap (start_of ends) (add-one n)),
      next-after_offers g.R.Key.Ord.cmp g.R.PartitionRange.INSERT_FIRST (g.R.Runs.view c.args.range.now) (g.R.Runs.view c.loop-count.range)
          (g.R.Runs.view c.insert-status.new.range) c.args.keys.now ends c.args.values.now n c.loop-count.start had.0 had.1
          (c.insert-status.ensures.inserted ok),
    )
