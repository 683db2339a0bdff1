use Rattle.std.proofs.Common.{◌≤◌, length, slice_index, sym, ap, subst, arith, add-one, below_more}
use Rattle.key_index_c.specs.Calls.{start_of}
use Rattle.key_index_c.proofs.any.are_keys.Goals as goal

pub loop-end-preserved : goal.loop-end-preserved
loop-end-preserved c =
    let ends = c.args.ends.now in let i = c.loop-end.end-index in let had = c.loop-end.invariant in
    let rises : c.loop-end.start ≤ slice_index ends i = omega (arith, c.if-end-start.false) in
    let inside : slice_index ends i ≤ length c.args.keys.now = omega (arith, c.if-keys-end.false) in
    (sym (ap (start_of ends) (add-one i)), below_more _ _ had.1 (subst (λ n. n ≤ slice_index ends i) had.0 rises), below_more _ _ had.2 inside)
